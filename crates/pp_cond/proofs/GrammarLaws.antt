-- What the readers read is what the grammar derives, both ways.
use Rattle.std.proofs.Common.{append-nil, ◌≡◌, ◌⊎◌, inl, inr, ℕ, zero, suc, ◌+◌, ◌<◌, ◌≤◌, Bool, true, false, refl, sym, ◌∙◌, ap, subst, List, [], ◌∷◌, ◌++◌, length, append_assoc, arith, Option, Some, None, nat_lt, nat_eq, cond, eq-eqb, lt-ltb, take, drop}
use Rattle.std.specs.Option.{option_map, option_and_then}
use Rattle.std.proofs.lemmas.List.{length-append}
use Rattle.std.proofs.lemmas.Bool.Decides.{nat_tests}
use Rattle.cm_core.specs.declared.integers.UnOp.{UnOp}
use Rattle.pp_cond.specs.declared.symbol.Infix.{Infix}
use Rattle.pp_cond.specs.declared.symbol.Symbol.{Symbol}
use Rattle.pp_cond.specs.declared.symbol.Symbol.TheVariants.{Operand, Operator, Prefix, Open, Close, Question, Colon, Stray}
use Rattle.pp_cond.specs.Grammar.{Expr, Leaf, Unary, Infixed, Choice, level, prefix_of, outcome_of, IsPrimary, constant, bracketed, IsUnary, primary, prefixed, IsRest, ended, more, IsChain, IsUpTo, IsConditional, plain, choice, IsExpression}
use Rattle.pp_cond.specs.Outcomes.{unary_outcome}
use Rattle.pp_cond.specs.Readers.{Algebra, trees, outcomes, Reader, after_close, read_primary, with_prefix, with_prefixes, prefix_count, read_unary, operator_at, if_some, read_rest, read_chain, read_up_to, after_colon, after_question, read_choices, read_conditional, read_expression}

-- what an algebra makes of a tree
abbrev pub made : {A : Type 0} → Algebra A → Expr → A
made alg (Leaf v) = alg.leaf v
made alg (Unary o a) = alg.unary o (made alg a)
made alg (Infixed o a b) = alg.infixed o (made alg a) (made alg b)
made alg (Choice c a b) = alg.choice (made alg c) (made alg a) (made alg b)

-- the level of an operator, 15 for ? and 18 for what goes on no expression
abbrev pub binding : Symbol → ℕ
binding (Operator o) = level o
binding Question = 15
binding s = 18

-- the symbols do not go on an expression of level k
abbrev pub ends : ℕ → List Symbol → Bool
ends k [] = true
ends k (s ∷ ts) = nat_lt k (binding s)

pub record Found {A : Type 0} (alg : Algebra A) (D : Expr → List Symbol → Type 0) (ts : List Symbol) (a : A) (us : List Symbol) : Type 0 where
  pub tree : Expr
  pub front : List Symbol
  pub derived : D tree front
  pub whole : ts ≡ front ++ us
  pub means : made alg tree ≡ a

abbrev pub Sound : {A : Type 0} → Algebra A → Reader A → (Expr → List Symbol → Type 0) → Type 0
Sound {A} alg p D = (ts : List Symbol) (r : A × List Symbol) → p ts ≡ Some r → Found alg D ts r.0 r.1

abbrev pub Complete : {A : Type 0} → Algebra A → ℕ → Reader A → (Expr → List Symbol → Type 0) → Type 0
Complete alg k p D = (e : Expr) (vs us : List Symbol) → D e vs → ends k us ≡ true → p (vs ++ us) ≡ Some (made alg e, us)

-- ---- options

pub some_same : {A : Type 0} {x y : A} → Some x ≡ Some y → x ≡ y
some_same h = cc

pub and_then_some : {A B : Type 0} (o : Option A) (f : A → Option B) (b : B) → option_and_then f o ≡ Some b → (a : A) × (o ≡ Some a) × (f a ≡ Some b)
and_then_some None f b h = absurd (cc)
and_then_some (Some a) f b h = (a, refl, h)

pub map_some : {A B : Type 0} (o : Option A) (f : A → B) (b : B) → option_map f o ≡ Some b → (a : A) × (o ≡ Some a) × (f a ≡ b)
map_some None f b h = absurd (cc)
map_some (Some a) f b h = (a, refl, cc)

found_at : {A : Type 0} (alg : Algebra A) (D : Expr → List Symbol → Type 0) (ts : List Symbol) (x r : A × List Symbol) → Some x ≡ Some r → Found alg D ts x.0 x.1 → Found alg D ts r.0 r.1
found_at {A} alg D ts x r h f = let P : A × List Symbol → Type 0 = λ r. Found alg D ts r.0 r.1 in subst P (some_same h) f

-- ---- primary expressions

after_close_some : {A : Type 0} (a : A) (us : List Symbol) (r : A × List Symbol) → after_close a us ≡ Some r → (us ≡ Close ∷ r.1) × (a ≡ r.0)
after_close_some a [] r h = absurd (cc)
after_close_some {A} a (Close ∷ ts) r h = let e : (a, ts) ≡ r = some_same h in (ap (λ (q : A × List Symbol). Close ∷ q.1) e, ap (λ (q : A × List Symbol). q.0) e)
after_close_some a (s ∷ ts) r h = absurd (cc)

pub sound_primary : {A : Type 0} (alg : Algebra A) (inner : Reader A) (I : Expr → List Symbol → Type 0) → Sound alg inner I → Sound alg (read_primary alg inner) (IsPrimary I)
unfolding read_primary
sound_primary alg inner I si [] r h = absurd (cc)
sound_primary alg inner I si (Operand v ∷ ts) r h =
    found_at alg (IsPrimary I) (Operand v ∷ ts) (alg.leaf v, ts) r h
    (record { tree = Leaf v; front = Operand v ∷ []; derived = constant v; whole = refl; means = refl })
sound_primary alg inner I si (Open ∷ ts) r h =
    let q = and_then_some (inner ts) (λ r. after_close r.0 r.1) r h in
    let f = si ts q.0 q.1 in
    let e = after_close_some q.0.0 q.0.1 r q.2 in
    let w : ts ≡ (f.front ++ (Close ∷ [])) ++ r.1 = f.whole ∙ ap (λ v. f.front ++ v) e.0 ∙ sym (append_assoc f.front (Close ∷ []) r.1) in
    record { tree = f.tree; front = Open ∷ (f.front ++ (Close ∷ [])); derived = bracketed f.tree f.front f.derived; whole = ap (λ v. Open ∷ v) w; means = f.means ∙ e.1 }
sound_primary alg inner I si (s ∷ ts) r h = absurd (cc)

pub complete_primary : {A : Type 0} (alg : Algebra A) (inner : Reader A) (I : Expr → List Symbol → Type 0) → Complete alg 17 inner I → (e : Expr) (vs us : List Symbol) → IsPrimary I e vs → read_primary alg inner (vs ++ us) ≡ Some (made alg e, us)
unfolding read_primary
complete_primary alg inner I ci e vs us (constant v) = refl
complete_primary alg inner I ci x vs us (bracketed e ts d) =
    rw (append_assoc ts (Close ∷ []) us) (rw (ci e ts (Close ∷ us) d refl) refl)

-- ---- unary expressions

map_map : {A B C : Type 0} (f : B → C) (g : A → B) (o : Option A) → option_map (λ a. f (g a)) o ≡ option_map f (option_map g o)
map_map f g None = refl
map_map f g (Some a) = refl

prefix_step : {A : Type 0} (alg : Algebra A) (inner : Reader A) (o : UnOp) (s : Symbol) (ts : List Symbol) → prefix_of s ≡ Some o → read_unary alg inner (s ∷ ts) ≡ option_map {T = A × List Symbol} {U = A × List Symbol} (λ r. (alg.unary o r.0, r.1)) (read_unary alg inner ts)
unfolding read_unary
prefix_step {A} alg inner o s ts h =
    let f : A × List Symbol → A × List Symbol = λ r. (alg.unary o r.0, r.1) in
    let g : A × List Symbol → A × List Symbol = λ r. (with_prefixes alg (take (prefix_count ts) ts) r.0, r.1) in
    let counted : prefix_count (s ∷ ts) ≡ suc (prefix_count ts) = rw h refl in
    let P : ℕ → Type 0 = λ m. option_map {T = A × List Symbol} {U = A × List Symbol} (λ r. (with_prefixes alg (take m (s ∷ ts)) r.0, r.1)) (read_primary alg inner (drop m (s ∷ ts))) ≡ option_map f (option_map g (read_primary alg inner (drop (prefix_count ts) ts))) in
    let Q : Option UnOp → Type 0 = λ p. option_map {T = A × List Symbol} {U = A × List Symbol} (λ r. (with_prefix alg p (with_prefixes alg (take (prefix_count ts) ts) r.0), r.1)) (read_primary alg inner (drop (prefix_count ts) ts)) ≡ option_map f (option_map g (read_primary alg inner (drop (prefix_count ts) ts))) in
    subst P (sym counted) (subst Q (sym h) (map_map f g (read_primary alg inner (drop (prefix_count ts) ts))))

no_prefix : {A : Type 0} (alg : Algebra A) (inner : Reader A) (s : Symbol) (ts : List Symbol) → prefix_of s ≡ None → read_unary alg inner (s ∷ ts) ≡ read_primary alg inner (s ∷ ts)
unfolding read_unary
no_prefix {A} alg inner s ts h = rw h (elim (read_primary alg inner (s ∷ ts)) as (λ (x : Option (A × List Symbol)). option_map {T = A × List Symbol} {U = A × List Symbol} (λ r. (r.0, r.1)) x ≡ x) [ None ↦ refl | Some r ↦ refl ])

no_symbols : {A : Type 0} (alg : Algebra A) (inner : Reader A) → read_unary alg inner [] ≡ None
unfolding read_unary read_primary
no_symbols alg inner = refl

pub sound_unary : {A : Type 0} (alg : Algebra A) (inner : Reader A) (I : Expr → List Symbol → Type 0) → Sound alg inner I → Sound alg (read_unary alg inner) (IsUnary I)
sound_unary alg inner I si [] r h = absurd (let e = no_symbols alg inner in cc)
sound_unary {A} alg inner I si (s ∷ ts) r h = elim (prefix_of s) as (λ o. prefix_of s ≡ o → Found alg (IsUnary I) (s ∷ ts) r.0 r.1) [
  | None ↦ λ e. let f = sound_primary alg inner I si (s ∷ ts) r (sym (no_prefix alg inner s ts e) ∙ h) in
      record { tree = f.tree; front = f.front; derived = primary f.tree f.front f.derived; whole = f.whole; means = f.means }
  | Some o ↦ λ e. let q = map_some (read_unary alg inner ts) (λ (r : A × List Symbol). (alg.unary o r.0, r.1)) r (sym (prefix_step alg inner o s ts e) ∙ h) in
      let f = sound_unary alg inner I si ts q.0 q.1 in
      record {
        tree = Unary o f.tree;
        front = s ∷ f.front;
        derived = prefixed o s f.tree f.front e f.derived;
        whole = ap (λ v. s ∷ v) (f.whole ∙ ap (λ v. f.front ++ v) (ap (λ (q : A × List Symbol). q.1) q.2));
        means = ap (alg.unary o) f.means ∙ ap (λ (q : A × List Symbol). q.0) q.2;
      }
] refl

pub complete_unary : {A : Type 0} (alg : Algebra A) (inner : Reader A) (I : Expr → List Symbol → Type 0) → Complete alg 17 inner I → (e : Expr) (vs us : List Symbol) → IsUnary I e vs → read_unary alg inner (vs ++ us) ≡ Some (made alg e, us)
complete_unary alg inner I ci x vs us (primary e ts (constant v)) = no_prefix alg inner (Operand v) us refl ∙ complete_primary alg inner I ci (Leaf v) (Operand v ∷ []) us (constant v)
complete_unary alg inner I ci x vs us (primary e ts (bracketed f fs d)) = no_prefix alg inner Open ((fs ++ (Close ∷ [])) ++ us) refl ∙ complete_primary alg inner I ci f (Open ∷ (fs ++ (Close ∷ []))) us (bracketed f fs d)
complete_unary alg inner I ci x vs us (prefixed o s e ts h d) = prefix_step alg inner o s (ts ++ us) h ∙ rw (complete_unary alg inner I ci e ts us d) refl

-- ---- operators of one level

level_same : (a b : ℕ) → nat_eq a b ≡ true → a ≡ b
level_same a b h = grind (arith, nat_tests)

operator_at_some : (k : ℕ) (s : Symbol) (o : Infix) → operator_at k s ≡ Some o → (s ≡ Operator o) × (level o ≡ k)
operator_at_some k (Operator p) o h = elim (nat_eq (level p) k) as (λ b. nat_eq (level p) k ≡ b → cond b (Some p) None ≡ Some o → (Operator p ≡ Operator o) × (level o ≡ k)) [
  | true ↦ λ e g. let same : p ≡ o = some_same g in (ap Operator same, ap level (sym same) ∙ level_same (level p) k e)
  | false ↦ λ e g. absurd (cc)
] refl h
operator_at_some k (Operand v) o h = absurd (cc)
operator_at_some k (Prefix p) o h = absurd (cc)
operator_at_some k Open o h = absurd (cc)
operator_at_some k Close o h = absurd (cc)
operator_at_some k Question o h = absurd (cc)
operator_at_some k Colon o h = absurd (cc)
operator_at_some k Stray o h = absurd (cc)

operator_at_level : (k : ℕ) (o : Infix) → level o ≡ k → operator_at k (Operator o) ≡ Some o
operator_at_level k o h = rw (eq-eqb (level o) k h) refl

operator_at_none : (k : ℕ) (s : Symbol) → nat_lt k (binding s) ≡ true → operator_at k s ≡ None
operator_at_none k (Operator o) h = let differ : nat_eq (level o) k ≡ false = grind (arith, nat_tests) in rw differ refl
operator_at_none k (Operand v) h = refl
operator_at_none k (Prefix p) h = refl
operator_at_none k Open h = refl
operator_at_none k Close h = refl
operator_at_none k Question h = refl
operator_at_none k Colon h = refl
operator_at_none k Stray h = refl

pub ends_below : (j k : ℕ) (us : List Symbol) → j ≤ k → ends k us ≡ true → ends j us ≡ true
ends_below j k [] h e = refl
ends_below j k (s ∷ ts) h e = grind (arith, nat_tests)

record RestFound {A : Type 0} (alg : Algebra A) (k : ℕ) (D : Expr → List Symbol → Type 0) (x : Expr) (ts : List Symbol) (a : A) (us : List Symbol) : Type 0 where
  tree : Expr
  front : List Symbol
  derived : IsRest k D x tree front
  whole : ts ≡ front ++ us
  means : made alg tree ≡ a

rest_here : {A : Type 0} (alg : Algebra A) (k : ℕ) (D : Expr → List Symbol → Type 0) (x : Expr) (ts : List Symbol) (r : A × List Symbol) → Some (made alg x, ts) ≡ Some r → RestFound alg k D x ts r.0 r.1
rest_here {A} alg k D x ts r h =
    let P : A × List Symbol → Type 0 = λ r. RestFound alg k D x ts r.0 r.1 in
    subst P (some_same h) (record { tree = x; front = []; derived = ended x; whole = refl; means = refl })

sound_rest : {A : Type 0} (alg : Algebra A) (k : ℕ) (p : Reader A) (D : Expr → List Symbol → Type 0) → Sound alg p D → (n : ℕ) (x : Expr) (ts : List Symbol) (r : A × List Symbol) → read_rest alg k p n (made alg x) ts ≡ Some r → RestFound alg k D x ts r.0 r.1
unfolding read_rest
sound_rest alg k p D sp zero x ts r h = rest_here alg k D x ts r h
sound_rest alg k p D sp (suc n) x [] r h = rest_here alg k D x [] r h
sound_rest {A} alg k p D sp (suc n) x (s ∷ ts) r h = elim (operator_at k s) as (λ o. operator_at k s ≡ o → if_some o (Some (made alg x, s ∷ ts)) (λ o. option_and_then (λ q. read_rest alg k p n (alg.infixed o (made alg x) q.0) q.1) (p ts)) ≡ Some r → RestFound alg k D x (s ∷ ts) r.0 r.1) [
  | None ↦ λ e g. rest_here alg k D x (s ∷ ts) r g
  | Some o ↦ λ e g.
      let q = and_then_some (p ts) (λ q. read_rest alg k p n (alg.infixed o (made alg x) q.0) q.1) r g in
      let f = sp ts q.0 q.1 in
      let P : A → Type 0 = λ v. read_rest alg k p n (alg.infixed o (made alg x) v) q.0.1 ≡ Some r in
      let next : read_rest alg k p n (made alg (Infixed o x f.tree)) q.0.1 ≡ Some r = subst P (sym f.means) q.2 in
      let l = sound_rest alg k p D sp n (Infixed o x f.tree) q.0.1 r next in
      let at = operator_at_some k s o e in
      let w : ts ≡ (f.front ++ l.front) ++ r.1 = f.whole ∙ ap (λ v. f.front ++ v) l.whole ∙ sym (append_assoc f.front l.front r.1) in
      record {
        tree = l.tree;
        front = Operator o ∷ (f.front ++ l.front);
        derived = more o x f.tree l.tree f.front l.front at.1 f.derived l.derived;
        whole = ap (λ v. v ∷ ts) at.0 ∙ ap (λ v. Operator o ∷ v) w;
        means = l.means;
      }
] refl h

rest_ends : (j k : ℕ) (D : Expr → List Symbol → Type 0) (x e : Expr) (vs us : List Symbol) → j < k → IsRest k D x e vs → ends k us ≡ true → ends j (vs ++ us) ≡ true
rest_ends j k D x e vs us h (ended a) g = ends_below j k us (omega arith) g
rest_ends j k D x e vs us h (more o a b f ts ws l d r) g = rw l (lt-ltb j k h)

complete_rest : {A : Type 0} (alg : Algebra A) (j k : ℕ) (p : Reader A) (D : Expr → List Symbol → Type 0) → j < k → Complete alg j p D → (x e : Expr) (vs us : List Symbol) (n : ℕ) → length vs ≤ n → IsRest k D x e vs → ends k us ≡ true → read_rest alg k p n (made alg x) (vs ++ us) ≡ Some (made alg e, us)
unfolding read_rest
complete_rest alg j k p D jk cp x e vs [] zero h (ended a) g = refl
complete_rest alg j k p D jk cp x e vs (s ∷ ts) zero h (ended a) g = refl
complete_rest alg j k p D jk cp x e vs [] (suc n) h (ended a) g = refl
complete_rest alg j k p D jk cp x e vs (s ∷ ts) (suc n) h (ended a) g = rw (operator_at_none k s g) refl
complete_rest alg j k p D jk cp x e vs us zero h (more o a b f ts ws l d r) g = absurd (omega arith)
complete_rest alg j k p D jk cp x e vs us (suc n) h (more o a b f ts ws l d r) g =
    let operand : p (ts ++ (ws ++ us)) ≡ Some (made alg b, ws ++ us) = cp b ts (ws ++ us) d (rest_ends j k D (Infixed o a b) f ws us jk r g) in
    let shorter : length ws ≤ n = omega (arith, length-append ts ws) in
    rw (operator_at_level k o l, append_assoc ts ws us, operand) (complete_rest alg j k p D jk cp (Infixed o a b) f ws us n shorter r g)

pub sound_chain : {A : Type 0} (alg : Algebra A) (k : ℕ) (p : Reader A) (D : Expr → List Symbol → Type 0) → Sound alg p D → Sound alg (read_chain alg k p) (IsChain k D)
unfolding read_chain
sound_chain {A} alg k p D sp ts r h =
    let q = and_then_some (p ts) (λ (q : A × List Symbol). read_rest alg k p (length q.1) q.0 q.1) r h in
    let f = sp ts q.0 q.1 in
    let P : A → Type 0 = λ v. read_rest alg k p (length q.0.1) v q.0.1 ≡ Some r in
    let l = sound_rest alg k p D sp (length q.0.1) f.tree q.0.1 r (subst P (sym f.means) q.2) in
    record {
      tree = l.tree;
      front = f.front ++ l.front;
      derived = record { first = f.tree; front = f.front; back = l.front; operand = f.derived; rest = l.derived; whole = refl };
      whole = f.whole ∙ ap (λ v. f.front ++ v) l.whole ∙ sym (append_assoc f.front l.front r.1);
      means = l.means;
    }

pub complete_chain : {A : Type 0} (alg : Algebra A) (j k : ℕ) (p : Reader A) (D : Expr → List Symbol → Type 0) → j < k → Complete alg j p D → Complete alg k (read_chain alg k p) (IsChain k D)
unfolding read_chain
complete_chain alg j k p D jk cp e vs us d g =
    let operand : p (d.front ++ (d.back ++ us)) ≡ Some (made alg d.first, d.back ++ us) = cp d.first d.front (d.back ++ us) d.operand (rest_ends j k D d.first e d.back us jk d.rest g) in
    let fuel : length d.back ≤ length (d.back ++ us) = omega (arith, length-append d.back us) in
    rw (d.whole, append_assoc d.front d.back us, operand) (complete_rest alg j k p D jk cp d.first e d.back us (length (d.back ++ us)) fuel d.rest g)

pub sound_up_to : {A : Type 0} (alg : Algebra A) (inner : Reader A) (I : Expr → List Symbol → Type 0) → Sound alg inner I → (n : ℕ) → Sound alg (read_up_to alg inner n) (IsUpTo I n)
unfolding read_up_to
sound_up_to alg inner I si zero = sound_unary alg inner I si
sound_up_to alg inner I si (suc n) = sound_chain alg (n + 5) (read_up_to alg inner n) (IsUpTo I n) (sound_up_to alg inner I si n)

pub complete_up_to : {A : Type 0} (alg : Algebra A) (inner : Reader A) (I : Expr → List Symbol → Type 0) → Complete alg 17 inner I → (n : ℕ) → Complete alg (n + 4) (read_up_to alg inner n) (IsUpTo I n)
unfolding read_up_to
complete_up_to alg inner I ci zero e vs us d g = complete_unary alg inner I ci e vs us d
complete_up_to alg inner I ci (suc n) e vs us d g =
    let same : suc n + 4 ≡ n + 5 = omega arith in
    let P : ℕ → Type 0 = λ k. ends k us ≡ true in
    complete_chain alg (n + 4) (n + 5) (read_up_to alg inner n) (IsUpTo I n) (omega arith) (complete_up_to alg inner I ci n) e vs us d (subst P same g)

-- ---- conditional expressions

question_cases : {X : Type 0} (ts : List Symbol) (other : Option X) (go : List Symbol → Option X) (x : X) → after_question ts other go ≡ Some x → ((us : List Symbol) × (ts ≡ Question ∷ us) × (go us ≡ Some x)) ⊎ (other ≡ Some x)
question_cases [] other go x h = inr h
question_cases (Question ∷ us) other go x h = inl (us, refl, h)
question_cases (s ∷ us) other go x h = inr h

colon_some : {X : Type 0} (ts : List Symbol) (go : List Symbol → Option X) (x : X) → after_colon ts go ≡ Some x → (us : List Symbol) × (ts ≡ Colon ∷ us) × (go us ≡ Some x)
colon_some [] go x h = absurd (cc)
colon_some (Colon ∷ us) go x h = (us, refl, h)
colon_some (s ∷ us) go x h = absurd (cc)

not_question : {X : Type 0} (us : List Symbol) (other : Option X) (go : List Symbol → Option X) → ends 15 us ≡ true → after_question us other go ≡ other
not_question [] other go h = refl
not_question (Question ∷ us) other go h = absurd (cc)
not_question (s ∷ us) other go h = refl

sound_choices : {A : Type 0} (alg : Algebra A) (inner : Reader A) (I : Expr → List Symbol → Type 0) → Sound alg inner I → (n : ℕ) → Sound alg (read_choices alg inner n) (IsConditional I)
unfolding read_choices
sound_choices alg inner I si zero ts r h = absurd (cc)
sound_choices {A} alg inner I si (suc n) ts r h =
    let q = and_then_some (read_up_to alg inner 10 ts) _ r h in
    let c = sound_up_to alg inner I si 10 ts q.0 q.1 in
    elim (question_cases q.0.1 (Some q.0) _ r q.2) as (λ w. Found alg (IsConditional I) ts r.0 r.1) [
      | inl z ↦
          let a_read = and_then_some (inner z.0) _ r z.2 in
          let a = si z.0 a_read.0 a_read.1 in
          let v = colon_some a_read.0.1 _ r a_read.2 in
          let b_read = map_some (read_choices alg inner n v.0) _ r v.2 in
          let b = sound_choices alg inner I si n v.0 b_read.0 b_read.1 in
          let tail : v.0 ≡ b.front ++ r.1 = b.whole ∙ ap (λ w. b.front ++ w) (ap (λ (w : A × List Symbol). w.1) b_read.2) in
          let middle : z.0 ≡ (a.front ++ (Colon ∷ b.front)) ++ r.1 =
          a.whole ∙ ap (λ w. a.front ++ w) (v.1 ∙ ap (λ w. Colon ∷ w) tail) ∙ sym (append_assoc a.front (Colon ∷ b.front) r.1) in
          let all : ts ≡ (c.front ++ (Question ∷ (a.front ++ (Colon ∷ b.front)))) ++ r.1 =
          c.whole ∙ ap (λ w. c.front ++ w) (z.1 ∙ ap (λ w. Question ∷ w) middle) ∙ sym (append_assoc c.front (Question ∷ (a.front ++ (Colon ∷ b.front))) r.1) in
          let value : made alg (Choice c.tree a.tree b.tree) ≡ r.0 =
          rw (made, c.means, a.means, b.means) (ap (λ (w : A × List Symbol). w.0) b_read.2) in
          record {
            tree = Choice c.tree a.tree b.tree;
            front = c.front ++ (Question ∷ (a.front ++ (Colon ∷ b.front)));
            derived = choice c.tree a.tree b.tree c.front a.front b.front c.derived a.derived b.derived;
            whole = all;
            means = value;
          }
      | inr e ↦ found_at alg (IsConditional I) ts q.0 r e
          (record { tree = c.tree; front = c.front; derived = plain c.tree c.front c.derived; whole = c.whole; means = c.means })
    ]

pub sound_conditional : {A : Type 0} (alg : Algebra A) (inner : Reader A) (I : Expr → List Symbol → Type 0) → Sound alg inner I → Sound alg (read_conditional alg inner) (IsConditional I)
unfolding read_conditional
sound_conditional alg inner I si ts r h = sound_choices alg inner I si (suc (length ts)) ts r h

complete_choices : {A : Type 0} (alg : Algebra A) (inner : Reader A) (I : Expr → List Symbol → Type 0) → Complete alg 17 inner I → (e : Expr) (vs us : List Symbol) (n : ℕ) → length vs < n → IsConditional I e vs → ends 15 us ≡ true → read_choices alg inner n (vs ++ us) ≡ Some (made alg e, us)
unfolding read_choices
complete_choices alg inner I ci x vs us zero h d g = absurd (omega arith)
complete_choices alg inner I ci x vs us (suc n) h (plain e ts d) g =
    let c : read_up_to alg inner 10 (ts ++ us) ≡ Some (made alg e, us) = complete_up_to alg inner I ci 10 e ts us d (ends_below 14 15 us (omega arith) g) in
    rw c (not_question us _ _ g)
complete_choices alg inner I ci x ws rest (suc n) h (choice c a b ts us vs dc da db) g =
    let c_read : read_up_to alg inner 10 (ts ++ (Question ∷ (us ++ (Colon ∷ (vs ++ rest))))) ≡ Some (made alg c, Question ∷ (us ++ (Colon ∷ (vs ++ rest)))) =
    complete_up_to alg inner I ci 10 c ts (Question ∷ (us ++ (Colon ∷ (vs ++ rest)))) dc refl in
    let a_read : inner (us ++ (Colon ∷ (vs ++ rest))) ≡ Some (made alg a, Colon ∷ (vs ++ rest)) = ci a us (Colon ∷ (vs ++ rest)) da refl in
    let shorter : length vs < n = omega (arith, length-append ts (Question ∷ (us ++ (Colon ∷ vs))), length-append us (Colon ∷ vs)) in
    let b_read : read_choices alg inner n (vs ++ rest) ≡ Some (made alg b, rest) = complete_choices alg inner I ci b vs rest n shorter db g in
    let first : (ts ++ (Question ∷ (us ++ (Colon ∷ vs)))) ++ rest ≡ ts ++ (Question ∷ (us ++ (Colon ∷ (vs ++ rest)))) =
    append_assoc ts (Question ∷ (us ++ (Colon ∷ vs))) rest ∙ ap (λ w. ts ++ (Question ∷ w)) (append_assoc us (Colon ∷ vs) rest) in
    rw (first, c_read, a_read, b_read) refl

pub complete_conditional : {A : Type 0} (alg : Algebra A) (inner : Reader A) (I : Expr → List Symbol → Type 0) → Complete alg 17 inner I → Complete alg 15 (read_conditional alg inner) (IsConditional I)
unfolding read_conditional
complete_conditional alg inner I ci e vs us d g =
    complete_choices alg inner I ci e vs us (suc (length (vs ++ us))) (omega (arith, length-append vs us)) d g

-- ---- expressions

pub sound_expression : {A : Type 0} (alg : Algebra A) (n : ℕ) → Sound alg (read_expression alg n) (IsExpression n)
unfolding read_expression
sound_expression alg zero ts r h = absurd (cc)
sound_expression alg (suc n) ts r h =
    sound_chain alg 17 (read_conditional alg (read_expression alg n)) (IsConditional (IsExpression n))
    (sound_conditional alg (read_expression alg n) (IsExpression n) (sound_expression alg n)) ts r h

pub complete_expression : {A : Type 0} (alg : Algebra A) (n : ℕ) → Complete alg 17 (read_expression alg n) (IsExpression n)
unfolding read_expression
complete_expression alg zero e vs us d g = absurd d
complete_expression alg (suc n) e vs us d g =
    complete_chain alg 15 17 (read_conditional alg (read_expression alg n)) (IsConditional (IsExpression n)) (omega arith)
    (complete_conditional alg (read_expression alg n) (IsExpression n) (complete_expression alg n)) e vs us d g

-- ---- a whole condition

pub one_meaning : {A : Type 0} (alg : Algebra A) (n : ℕ) (e : Expr) (ts : List Symbol) → IsConditional (IsExpression n) e ts → read_conditional alg (read_expression alg n) ts ≡ Some (made alg e, [])
one_meaning alg n e ts d =
    let P : List Symbol → Type 0 = λ w. read_conditional alg (read_expression alg n) w ≡ Some (made alg e, []) in
    subst P (append-nil ts) (complete_conditional alg (read_expression alg n) (IsExpression n) (complete_expression alg n) e ts [] d refl)

pub has_tree : {A : Type 0} (alg : Algebra A) (n : ℕ) (ts : List Symbol) (a : A) → read_conditional alg (read_expression alg n) ts ≡ Some (a, []) → (e : Expr) × IsConditional (IsExpression n) e ts × (made alg e ≡ a)
has_tree alg n ts a h =
    let f = sound_conditional alg (read_expression alg n) (IsExpression n) (sound_expression alg n) ts (a, []) h in
    let P : List Symbol → Type 0 = λ w. IsConditional (IsExpression n) f.tree w in
    (f.tree, subst P (sym (f.whole ∙ append-nil f.front)) f.derived, f.means)

pub made_tree : (e : Expr) → made trees e ≡ e
made_tree (Leaf v) = refl
made_tree (Unary o a) = ap (Unary o) (made_tree a)
made_tree (Infixed o a b) = rw (made_tree a, made_tree b) refl
made_tree (Choice c a b) = rw (made_tree c, made_tree a, made_tree b) refl

pub made_outcome : (e : Expr) → made outcomes e ≡ outcome_of e
made_outcome (Leaf v) = refl
made_outcome (Unary o a) = ap (unary_outcome o) (made_outcome a)
made_outcome (Infixed o a b) = rw (made_outcome a, made_outcome b) refl
made_outcome (Choice c a b) = rw (made_outcome c, made_outcome a, made_outcome b) refl

-- symbols spell one tree
pub one_tree : (n : ℕ) (e f : Expr) (ts : List Symbol) → IsConditional (IsExpression n) e ts → IsConditional (IsExpression n) f ts → e ≡ f
one_tree n e f ts d g =
    let both : Some (made trees e, []) ≡ Some (made trees f, []) = sym (one_meaning trees n e ts d) ∙ one_meaning trees n f ts g in
    sym (made_tree e) ∙ ap (λ (r : Expr × List Symbol). r.0) (some_same both) ∙ made_tree f
