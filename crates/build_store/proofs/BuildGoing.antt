-- What calls on a store print of units, one after another.
use Rattle.std.proofs.Common.{◌≡◌, ◌≢◌, ◌∙◌, refl, sym, ap, subst, ℕ, ◌+◌, ◌<◌, ◌≤◌, List, [], ◌∷◌, ◌++◌, take, drop, length, get_or, Option, Some, None, Result, Ok, Err, IsErrAnd, append_assoc, arith, add-one}
use Rattle.std.specs.Prelude.{is_some, IsSome, IsNone}
use Rattle.std.proofs.Math.Seq.{take-suc}
use Rattle.std.proofs.lemmas.List.{drop_at, append-nil}
use Rattle.cm_outside.specs.Asks.{Agrees, begun}
use Rattle.cm_outside.specs.Trees.{Files}
use Rattle.cm_outside.specs.declared.question.Question.{Question}
use Rattle.cm_outside.specs.declared.question.Answer.{Answer}
use Rattle.cm_outside.specs.declared.question.Record.{Record}
use Rattle.cm_outside.specs.declared.tree.TreeFault.TheVariants.{Failed, NoMemory}
use Rattle.build_store.specs.CleanBuild.{first_needs, unit_run, unit_text, unit_texts}
use Rattle.build_store.specs.Held.{HeldRests, numbers_noted, setting_of_held}
use Rattle.build_store.specs.Left.{Leaves}
use Rattle.build_store.specs.LeftBehind.{Behind}
use Rattle.build_store.specs.LeftBehindLaws.{behind_same, behind_then}
use Rattle.build_store.specs.Origins.{report_line}
use Rattle.build_store.specs.Owners.{Setting}
use Rattle.build_store.specs.Report.{HasOwnFiles, needed_by, report_lines}
use Rattle.build_store.specs.Stores.{GoesOn, IsStore, RestsOver, tree_fault}
use Rattle.build_store.specs.Targets.{HasOwnNames, name_of}
use Rattle.build_store.specs.Telling.{Tells, numbers_of_noted, origins_of_noted, noted_since, report_since}
use Rattle.build_store.specs.TellingLaws.{tells_same, tells_then}
use Rattle.build_store.specs.Turning.{Trusts}
use Rattle.build_store.specs.declared.held.Held.{Held}
use Rattle.build_store.specs.declared.held.Noted.{Noted}
use Rattle.build_store.specs.declared.job.Job.{Job}
use Rattle.build_store.specs.declared.store.StoreFault.{StoreFault}
use Rattle.build_store.specs.declared.store.StoreFault.TheVariants.{Failed as StoreFailed, Spent, NoMemory as NoRoom}
use Rattle.build_store.specs.declared.table.Table.{Table}
use Rattle.build_store.proofs.LeftLemmas.{leaves_same, leaves_then}

-- ---- units in two parts

pub texts_both : (s : Setting) (t : Question → Answer) (seen : List ℕ) (us vs : List (List ℕ))
    → unit_texts s t seen (us ++ vs) ≡ unit_texts s t seen us ++ unit_texts s t (seen ++ needed_by s t seen us) vs
texts_both s t seen [] vs = ap (λ l. unit_texts s t l vs) (sym (append-nil seen))
texts_both s t seen (u ∷ us) vs =
    let news : List ℕ = first_needs s t seen u in
    let text : List ℕ = unit_text s t news u in
    ap (λ l. text ++ l) (texts_both s t (seen ++ news) us vs)
    ∙ ap (λ l. text ++ (unit_texts s t (seen ++ news) us ++ unit_texts s t l vs)) (append_assoc seen news (needed_by s t (seen ++ news) us))
    ∙ sym (append_assoc text (unit_texts s t (seen ++ news) us) (unit_texts s t (seen ++ (news ++ needed_by s t (seen ++ news) us)) vs))

pub needs_both : (s : Setting) (t : Question → Answer) (seen : List ℕ) (us vs : List (List ℕ))
    → needed_by s t seen (us ++ vs) ≡ needed_by s t seen us ++ needed_by s t (seen ++ needed_by s t seen us) vs
needs_both s t seen [] vs = ap (λ l. needed_by s t l vs) (sym (append-nil seen))
needs_both s t seen (u ∷ us) vs =
    let news : List ℕ = first_needs s t seen u in
    ap (λ l. news ++ l) (needs_both s t (seen ++ news) us vs)
    ∙ ap (λ l. news ++ (needed_by s t (seen ++ news) us ++ needed_by s t l vs)) (append_assoc seen news (needed_by s t (seen ++ news) us))
    ∙ sym (append_assoc news (needed_by s t (seen ++ news) us) (needed_by s t (seen ++ (news ++ needed_by s t (seen ++ news) us)) vs))

-- ---- report lines in two parts

lines_both : (table : Table) (m n : List Noted) → report_lines table (numbers_of_noted (m ++ n)) (origins_of_noted (m ++ n))
    ≡ report_lines table (numbers_of_noted m) (origins_of_noted m) ++ report_lines table (numbers_of_noted n) (origins_of_noted n)
lines_both table [] n = refl
lines_both table (x ∷ m) n =
    ap (λ l. report_line (name_of table x.number) x.origin ++ l) (lines_both table m n)
    ∙ sym (append_assoc (report_line (name_of table x.number) x.origin) (report_lines table (numbers_of_noted m) (origins_of_noted m)) (report_lines table (numbers_of_noted n) (origins_of_noted n)))

pub since_is : (a b : Held) (more : List Noted) → b.noted ≡ a.noted ++ more → noted_since a b ≡ more
since_is a b more is = ap (drop (length a.noted)) is ∙ drop_at a.noted more (length a.noted) refl

lines_of : Table → List Noted → List ℕ
lines_of table m = report_lines table (numbers_of_noted m) (origins_of_noted m)

report_both : (a b c : Held) (m n : List Noted) → b.noted ≡ a.noted ++ m → c.noted ≡ b.noted ++ n → c.table ≡ b.table → report_since a c ≡ report_since a b ++ report_since b c
unfolding lines_of
report_both a b c m n first second table =
    let whole : c.noted ≡ a.noted ++ (m ++ n) = second ∙ ap (λ l. l ++ n) first ∙ append_assoc a.noted m n in
    ap (lines_of c.table) (since_is a c (m ++ n) whole)
    ∙ lines_both c.table m n
    ∙ ap (λ (v : Table). lines_of v m ++ lines_of c.table n) table
    ∙ ap (λ l. lines_of b.table l ++ lines_of c.table n) (sym (since_is a b m first))
    ∙ ap (λ l. lines_of b.table (noted_since a b) ++ lines_of c.table l) (sym (since_is b c n second))

report_none : (a : Held) → report_since a a ≡ []
unfolding lines_of
report_none a = ap (lines_of a.table) (since_is a a [] (sym (append-nil a.noted)))

-- ---- what is trusted over two calls

none_stays : (fa fb : Option Files) → is_some fb ≡ is_some fa → IsNone fa → IsNone fb
none_stays None None told none = none
none_stays None (Some y) told none = absurd (cc)
none_stays (Some x) fb told none = absurd (cc)

some_stays : (fa fb : Option Files) → is_some fb ≡ is_some fa → IsSome fa → IsSome fb
some_stays (Some x) (Some y) told some = some
some_stays (Some x) None told some = absurd (cc)
some_stays None fb told some = absurd (cc)

trusts_some : (fa : Option Files) (ha hb : Type 0) → IsSome fa → ha → Trusts (is_some fa) ha hb
trusts_some (Some x) ha hb some honest = honest
trusts_some None ha hb some honest = absurd (cc)

trusts_first : (fa fb : Option Files) (ha hb hc : Type 0) → is_some fb ≡ is_some fa → (IsNone fb → hc → hb) → Trusts (is_some fa) ha hc → Trusts (is_some fa) ha hb
trusts_first None None ha hb hc told back honest = back refl honest
trusts_first None (Some y) ha hb hc told back honest = absurd (cc)
trusts_first (Some x) fb ha hb hc told back honest = honest

trusts_second : (fa fb : Option Files) (ha hb hc : Type 0) → is_some fb ≡ is_some fa → (IsSome fa → ha → hb) → Trusts (is_some fa) ha hc → Trusts (is_some fb) hb hc
trusts_second None None ha hb hc told stays honest = honest
trusts_second None (Some y) ha hb hc told stays honest = absurd (cc)
trusts_second (Some x) None ha hb hc told stays honest = absurd (cc)
trusts_second (Some x) (Some y) ha hb hc told stays honest = stays refl honest

-- ---- the fault that a call tells of

same_fault : (A B : Type 0) (fault : StoreFault) → tree_fault {A = A} (Err fault) ≡ tree_fault {A = B} (Err fault)
same_fault A B StoreFailed = refl
same_fault A B Spent = refl
same_fault A B NoRoom = refl

-- the fault that `?` hands on
pub fault_handed : (A B : Type 0) (r : Result B StoreFault) (fault : StoreFault) → IsErrAnd r (λ e. e ≡ fault) → tree_fault {A = A} (Err fault) ≡ tree_fault r
fault_handed A B (Ok b) fault h = absurd h
fault_handed A B (Err e) fault h = same_fault A B fault ∙ sym (ap (λ x. tree_fault {A = B} (Err x)) h)

-- one of memory is none of the tree
pub memory_ended : {A : Type 0} → (r : Result A StoreFault) → IsErrAnd r (λ e. e ≡ NoRoom) → tree_fault r ≢ Some Failed
memory_ended (Ok a) h = absurd h
memory_ended {A = A} (Err e) h = λ is. (let ended : tree_fault {A = A} (Err e) ≡ Some NoMemory = ap (λ x. tree_fault {A = A} (Err x)) h in absurd (cc))

-- ---- between two moments

-- what is held and printed, with the answers given, the cache and the count of work
pub record Moment : Type 1 where
  pub kept : List Record
  pub held : Held
  pub files : Option Files
  pub honest : Type 0
  pub faults : ℕ
  pub compiles : ℕ
  pub text : List ℕ
  pub report : List ℕ

abbrev pub AreTrusted : Moment → Moment → Type 0
AreTrusted a b = Trusts (is_some a.files) a.honest b.honest

abbrev pub IsAtRest : Moment → Type 0
IsAtRest a = RestsOver a.kept a.held

-- what calls leave of the cache
pub record Keeps (a b : Moment) : Type 0 where
  pub later : a.faults ≤ b.faults
  pub back : IsNone a.files → b.honest → a.honest
  pub stays : IsSome a.files → a.honest → IsAtRest a → b.honest
  pub left : AreTrusted a b → IsAtRest a → Leaves a.files b.files

-- what calls that were all answered have printed of these units
pub record Printed (a b : Moment) (units : List (List ℕ)) : Type 0 where
  pub keeps : Keeps a b
  pub store : IsStore b.kept b.held
  pub told : is_some b.files ≡ is_some a.files
  pub back_to : (t : Question → Answer) → Agrees t b.kept → Agrees t a.kept
  pub job : b.held.job ≡ a.held.job
  pub table : b.held.table ≡ a.held.table
  pub rests : AreTrusted a b → IsAtRest a → IsAtRest b
  pub noted : (t : Question → Answer) → Agrees t b.kept → AreTrusted a b → IsAtRest a
      → numbers_noted b.held ≡ numbers_noted a.held ++ needed_by (setting_of_held a.held) t (numbers_noted a.held) units
  pub text : (t : Question → Answer) → Agrees t b.kept → AreTrusted a b → IsAtRest a
      → b.text ≡ a.text ++ unit_texts (setting_of_held a.held) t (numbers_noted a.held) units
  pub tells : (t : Question → Answer) → Agrees t b.kept → Tells a.files b.files a.held b.held t a.compiles b.compiles a.faults b.faults
  pub behind : (t : Question → Answer) → Agrees t b.kept → AreTrusted a b → IsAtRest a → Behind a.files b.files a.held b.held t a.faults b.faults
  pub report : (t : Question → Answer) → Agrees t b.kept → IsSome a.files → HasOwnFiles a.held.job a.held.table → HasOwnNames a.held.table
      → b.report ≡ a.report ++ report_since a.held b.held

pub printed_nothing : (a : Moment) → IsStore a.kept a.held → Printed a a []
printed_nothing a store = record {
  keeps = record { later = omega arith; back = λ none honest. honest; stays = λ some honest rests. honest; left = λ trusts rests. leaves_same a.files };
  store = store;
  told = refl;
  back_to = λ t agrees. agrees;
  job = refl;
  table = refl;
  rests = λ trusts rests. rests;
  noted = λ t agrees trusts rests. sym (append-nil (numbers_noted a.held));
  text = λ t agrees trusts rests. sym (append-nil a.text);
  tells = λ t agrees. tells_same a.files a.held t a.compiles a.faults;
  behind = λ t agrees trusts rests. behind_same a.files a.held t a.faults;
  report = λ t agrees some own names. sym (ap (λ l. a.report ++ l) (report_none a.held) ∙ append-nil a.report);
}

module _ (a b c : Moment) (us : List (List ℕ)) (h : Printed a b us) (k : Keeps b c) where
  trusts_b : AreTrusted a c → AreTrusted a b
  trusts_b trusts = trusts_first a.files b.files a.honest b.honest c.honest h.told k.back trusts

  trusts_c : AreTrusted a c → IsAtRest a → AreTrusted b c
  trusts_c trusts rests = trusts_second a.files b.files a.honest b.honest c.honest h.told (λ some honest. h.keeps.stays some honest rests) trusts

  rests_b : AreTrusted a c → IsAtRest a → IsAtRest b
  rests_b trusts rests = h.rests (trusts_b trusts) rests

  pub keeps_then : Keeps a c
  keeps_then = record {
    later = omega (arith, h.keeps.later, k.later);
    back = λ none honest. h.keeps.back none (k.back (none_stays a.files b.files h.told none) honest);
    stays = λ some honest rests.
        k.stays (some_stays a.files b.files h.told some) (h.keeps.stays some honest rests) (h.rests (trusts_some a.files a.honest b.honest some honest) rests);
    left = λ trusts rests. leaves_then a.files b.files c.files (h.keeps.left (trusts_b trusts) rests) (k.left (trusts_c trusts rests) (rests_b trusts rests));
  }

same_setting : (a b : Held) → b.job ≡ a.job → b.table ≡ a.table → setting_of_held b ≡ setting_of_held a
same_setting a b job table = cc

-- the lists of the modules that were begun grow
noted_more : (a b : Held) (fa fb : Option Files) (t : Question → Answer) (c0 c1 k0 k1 : ℕ) → Tells fa fb a b t c0 c1 k0 k1 → IsSome fa → HasOwnFiles a.job a.table → HasOwnNames a.table
    → (more : List Noted) × (b.noted ≡ a.noted ++ more)
noted_more a b None fb t c0 c1 k0 k1 tells some own names = absurd (cc)
noted_more a b (Some x) None t c0 c1 k0 k1 tells some own names = absurd tells
noted_more a b (Some x) (Some y) t c0 c1 k0 k1 tells some own names = let of = (tells own names).2 in (of.more, of.noted)

module _ (a b c : Moment) (us vs : List (List ℕ)) (h : Printed a b us) (k : Printed b c vs) where
  setting : setting_of_held b.held ≡ setting_of_held a.held
  setting = same_setting a.held b.held h.job h.table

  noted_all : (t : Question → Answer) → Agrees t c.kept → AreTrusted a c → IsAtRest a
      → numbers_noted c.held ≡ numbers_noted a.held ++ needed_by (setting_of_held a.held) t (numbers_noted a.held) (us ++ vs)
  noted_all t agrees trusts rests =
      let s : Setting = setting_of_held a.held in
      let seen : List ℕ = numbers_noted a.held in
      let first : numbers_noted b.held ≡ seen ++ needed_by s t seen us = h.noted t (k.back_to t agrees) (trusts_b a b c us h k.keeps trusts) rests in
      k.noted t agrees (trusts_c a b c us h k.keeps trusts rests) (rests_b a b c us h k.keeps trusts rests)
      ∙ ap (λ (v : Setting). numbers_noted b.held ++ needed_by v t (numbers_noted b.held) vs) setting
      ∙ ap (λ l. l ++ needed_by s t l vs) first
      ∙ append_assoc seen (needed_by s t seen us) (needed_by s t (seen ++ needed_by s t seen us) vs)
      ∙ ap (λ l. seen ++ l) (sym (needs_both s t seen us vs))

  text_all : (t : Question → Answer) → Agrees t c.kept → AreTrusted a c → IsAtRest a
      → c.text ≡ a.text ++ unit_texts (setting_of_held a.held) t (numbers_noted a.held) (us ++ vs)
  text_all t agrees trusts rests =
      let s : Setting = setting_of_held a.held in
      let seen : List ℕ = numbers_noted a.held in
      let first : numbers_noted b.held ≡ seen ++ needed_by s t seen us = h.noted t (k.back_to t agrees) (trusts_b a b c us h k.keeps trusts) rests in
      let before : b.text ≡ a.text ++ unit_texts s t seen us = h.text t (k.back_to t agrees) (trusts_b a b c us h k.keeps trusts) rests in
      k.text t agrees (trusts_c a b c us h k.keeps trusts rests) (rests_b a b c us h k.keeps trusts rests)
      ∙ ap (λ (v : Setting). b.text ++ unit_texts v t (numbers_noted b.held) vs) setting
      ∙ ap (λ l. b.text ++ unit_texts s t l vs) first
      ∙ ap (λ l. l ++ unit_texts s t (seen ++ needed_by s t seen us) vs) before
      ∙ append_assoc a.text (unit_texts s t seen us) (unit_texts s t (seen ++ needed_by s t seen us) vs)
      ∙ ap (λ l. a.text ++ l) (sym (texts_both s t seen us vs))

  report_all : (t : Question → Answer) → Agrees t c.kept → IsSome a.files → HasOwnFiles a.held.job a.held.table → HasOwnNames a.held.table
      → c.report ≡ a.report ++ report_since a.held c.held
  report_all t agrees some own names =
      let back = k.back_to t agrees in
      let some_b : IsSome b.files = some_stays a.files b.files h.told some in
      let F : Job × Table → Type 0 = λ j. HasOwnFiles j.0 j.1 in
      let own_b : HasOwnFiles b.held.job b.held.table = subst F (λ i. (sym h.job i, sym h.table i)) own in
      let names_b : HasOwnNames b.held.table = subst (λ (j : Table). HasOwnNames j) (sym h.table) names in
      let first = noted_more a.held b.held a.files b.files t a.compiles b.compiles a.faults b.faults (h.tells t back) some own names in
      let second = noted_more b.held c.held b.files c.files t b.compiles c.compiles b.faults c.faults (k.tells t agrees) some_b own_b names_b in
      k.report t agrees some_b own_b names_b
      ∙ ap (λ l. l ++ report_since b.held c.held) (h.report t back some own names)
      ∙ append_assoc a.report (report_since a.held b.held) (report_since b.held c.held)
      ∙ ap (λ l. a.report ++ l) (sym (report_both a.held b.held c.held first.0 second.0 first.1 second.1 k.table))

  pub printed_then : Printed a c (us ++ vs)
  printed_then = record {
    keeps = keeps_then a b c us h k.keeps;
    store = k.store;
    told = k.told ∙ h.told;
    back_to = λ t agrees. h.back_to t (k.back_to t agrees);
    job = k.job ∙ h.job;
    table = k.table ∙ h.table;
    rests = λ trusts rests. k.rests (trusts_c a b c us h k.keeps trusts rests) (rests_b a b c us h k.keeps trusts rests);
    noted = noted_all;
    text = text_all;
    tells = λ t agrees.
        tells_then a.files b.files c.files a.held b.held c.held t a.compiles b.compiles c.compiles a.faults b.faults c.faults (h.tells t (k.back_to t agrees)) (k.tells t agrees);
    behind = λ t agrees trusts rests.
        behind_then a.files b.files c.files a.held b.held c.held t a.faults b.faults c.faults (h.behind t (k.back_to t agrees) (trusts_b a b c us h k.keeps trusts) rests)
        (k.behind t agrees (trusts_c a b c us h k.keeps trusts rests) (rests_b a b c us h k.keeps trusts rests));
    report = report_all;
  }

-- ---- one unit

module _ (b c : Moment) (u : List ℕ) (keeps : Keeps b c) (store : IsStore c.kept c.held) (told : is_some c.files ≡ is_some b.files)
    (back_to : (t : Question → Answer) → Agrees t c.kept → Agrees t b.kept) (same : (c.held.job ≡ b.held.job) × (c.held.table ≡ b.held.table))
    (goes_on : GoesOn b.kept c.kept b.held c.held (AreTrusted b c) (λ t. begun (unit_run (setting_of_held b.held) u) t))
    (out report : List ℕ) (puts : c.text ≡ b.text ++ out) (reports : c.report ≡ b.report ++ report)
    (out_is : (t : Question → Answer) → Agrees t c.kept → AreTrusted b c → HeldRests b.kept b.held t → out ≡ unit_text (setting_of_held b.held) t (first_needs (setting_of_held b.held) t (numbers_noted b.held) u) u)
    (report_is : report ≡ report_since b.held c.held)
    (tells : (t : Question → Answer) → Agrees t c.kept → Tells b.files c.files b.held c.held t b.compiles c.compiles b.faults c.faults)
    (behind : (t : Question → Answer) → Agrees t c.kept → AreTrusted b c → HeldRests b.kept b.held t → Behind b.files c.files b.held c.held t b.faults c.faults) where
  pub printed_one : Printed b c (u ∷ [])
  printed_one = record {
    keeps = keeps;
    store = store;
    told = told;
    back_to = back_to;
    job = same.0;
    table = same.1;
    rests = λ trusts rests t agrees. (goes_on t agrees trusts (rests t (back_to t agrees))).0;
    noted = λ t agrees trusts rests.
        (goes_on t agrees trusts (rests t (back_to t agrees))).1
        ∙ ap (λ l. numbers_noted b.held ++ l) (sym (append-nil (first_needs (setting_of_held b.held) t (numbers_noted b.held) u)));
    text = λ t agrees trusts rests.
        let news : List ℕ = first_needs (setting_of_held b.held) t (numbers_noted b.held) u in
        puts ∙ ap (λ l. b.text ++ l) (out_is t agrees trusts (rests t (back_to t agrees)) ∙ sym (append-nil (unit_text (setting_of_held b.held) t news u)));
    tells = tells;
    behind = λ t agrees trusts rests. behind t agrees trusts (rests t (back_to t agrees));
    report = λ t agrees some own names. reports ∙ ap (λ l. b.report ++ l) report_is;
  }

-- the units up to the next one
pub take_next : (us : List (List ℕ)) (i : ℕ) (u : List ℕ) → i < length us → u ≡ get_or us i u → take (i + 1) us ≡ take i us ++ u ∷ []
take_next us i u less is = ap (λ n. take n us) (add-one i) ∙ take-suc us i u less ∙ ap (λ v. take i us ++ v ∷ []) (sym is)

pub printed_next : (a b c : Moment) (us : List (List ℕ)) (i : ℕ) (u : List ℕ) → i < length us → u ≡ get_or us i u → Printed a b (take i us) → Printed b c (u ∷ []) → Printed a c (take (i + 1) us)
printed_next a b c us i u less is h k = subst (λ l. Printed a c l) (sym (take_next us i u less is)) (printed_then a b c (take i us) (u ∷ []) h k)
