-- Recorded answers that have not changed are agreed with.
use Rattle.std.proofs.Common.{◌≡◌, ℕ, Bool, true, false, ◌&&◌, if◌then◌else◌, List, [], ◌∷◌, ◌++◌, map, take, drop, slice_get, Option, Some, None, refl, sym, ap, ◌∙◌, ◌+◌, ◌≤◌, zero, suc, length, add-one, arith}
use Rattle.std.proofs.lemmas.List.{map-append}
use Rattle.cm_outside.specs.Keeping.{Asked, Grew, answered, path_asked}
use Rattle.cm_outside.proofs.Grown.{numbered_after}
use Rattle.std.specs.Str.{bytes_eq}
use Rattle.std.specs.Cmp.Lexicographic.{pointwise}
use Rattle.std.proofs.lemmas.Slice.Eq.{bytes_eq-Decides}
use Rattle.std.proofs.lemmas.Bool.{eqb-true}
use Rattle.std.proofs.lemmas.Bool.Decides.{Decides-eqb}
use Rattle.std.proofs.Math.Bool.{true≢false}
use Rattle.cm_outside.specs.declared.question.Question.{Question}
use Rattle.cm_outside.specs.declared.question.Answer.{Answer}
use Rattle.cm_outside.specs.declared.question.Answer.TheVariants.{Absent, Bytes, TooLarge, Paths}
use Rattle.cm_outside.specs.declared.question.Record.{Record}
use Rattle.cm_outside.specs.Asks.{Agrees}
use Rattle.cm_outside.specs.Trees.{Path}
use Rattle.build_store.specs.Changes.{changed, same_answer}

and_left : (a b : Bool) → (a && b) ≡ true → a ≡ true
and_left true b h = refl
and_left false b h = h

and_right : (a b : Bool) → (a && b) ≡ true → b ≡ true
and_right true b h = h
and_right false b h = absurd (true≢false (sym h))

same_paths_are : (ps qs : List (List ℕ)) → pointwise bytes_eq ps qs ≡ true → ps ≡ qs
same_paths_are [] [] h = refl
same_paths_are [] (q ∷ qs) h = absurd (true≢false (sym h))
same_paths_are (p ∷ ps) [] h = absurd (true≢false (sym h))
same_paths_are (p ∷ ps) (q ∷ qs) h =
    λ i. (bytes_eq-Decides p q).0 (and_left (bytes_eq p q) (pointwise bytes_eq ps qs) h) i ∷ same_paths_are ps qs (and_right (bytes_eq p q) (pointwise bytes_eq ps qs) h) i

same_answer_is : (a b : Answer) → same_answer a b ≡ true → a ≡ b
same_answer_is Absent Absent h = refl
same_answer_is (Bytes xs) (Bytes ys) h = ap (λ bytes. Bytes bytes) ((bytes_eq-Decides xs ys).0 h)
same_answer_is (TooLarge n) (TooLarge m) h = ap (λ size. TooLarge size) (eqb-true n m h)
same_answer_is (Paths ps) (Paths qs) h = ap (λ paths. Paths paths) (same_paths_are ps qs h)
same_answer_is Absent (Bytes ys) h = absurd (true≢false (sym h))
same_answer_is Absent (TooLarge m) h = absurd (true≢false (sym h))
same_answer_is Absent (Paths qs) h = absurd (true≢false (sym h))
same_answer_is (Bytes xs) Absent h = absurd (true≢false (sym h))
same_answer_is (Bytes xs) (TooLarge m) h = absurd (true≢false (sym h))
same_answer_is (Bytes xs) (Paths qs) h = absurd (true≢false (sym h))
same_answer_is (TooLarge n) Absent h = absurd (true≢false (sym h))
same_answer_is (TooLarge n) (Bytes ys) h = absurd (true≢false (sym h))
same_answer_is (TooLarge n) (Paths qs) h = absurd (true≢false (sym h))
same_answer_is (Paths ps) Absent h = absurd (true≢false (sym h))
same_answer_is (Paths ps) (Bytes ys) h = absurd (true≢false (sym h))
same_answer_is (Paths ps) (TooLarge m) h = absurd (true≢false (sym h))

unchanged_at : (t : Question → Answer) (r : Record) (rest : Option (List ℕ)) (more : Type 0) (path : List ℕ) (b : Bool) → (b ≡ true → t r.question ≡ r.answer)
    → (rest ≡ None → more) → (if b then rest else Some path) ≡ None → (t r.question ≡ r.answer) × more
unchanged_at t r rest more path true same next h = (same refl, next h)
unchanged_at t r rest more path false same next h = absurd (cc)

-- where no record has changed the answers agree with all of them
pub unchanged_agrees : (t : Question → Answer) (rs : List Record) → changed t rs ≡ None → Agrees t rs
unchanged_agrees t [] h = tt
unchanged_agrees t (r ∷ rs) h =
    unchanged_at t r (changed t rs) (Agrees t rs) _ (same_answer (t r.question) r.answer) (same_answer_is (t r.question) r.answer) (unchanged_agrees t rs) h

-- ---- one record after another

drop_item : (rs : List Record) (at : ℕ) (r : Record) → slice_get rs at ≡ Some r → drop at rs ≡ r ∷ drop (suc at) rs
drop_item [] at r e = absurd (cc)
drop_item (x ∷ rs) zero r e = let same : x ≡ r = cc in ap (λ y. y ∷ rs) same
drop_item (x ∷ rs) (suc at) r e = drop_item rs at r e

take_item : (rs : List Record) (at : ℕ) (r : Record) → slice_get rs at ≡ Some r → take (suc at) rs ≡ take at rs ++ r ∷ []
take_item [] at r e = absurd (cc)
take_item (x ∷ rs) zero r e = let same : x ≡ r = cc in ap (λ y. y ∷ []) same
take_item (x ∷ rs) (suc at) r e = ap (λ ys. x ∷ ys) (take_item rs at r e)

changed_at : (f : Question → Answer) (r : Record) (rest : List Record) (b : Bool) → same_answer (f r.question) r.answer ≡ b
    → changed f (r ∷ rest) ≡ (if b then changed f rest else Some (path_asked r.question))
changed_at f r rest b is = ap (λ c. if c then changed f rest else Some (path_asked r.question)) is

-- the record of a question's number has the question, and the answer of all that agrees
pub own_question : (q : Question) (old new : List Record) (number : ℕ) (own : Record) → Asked q old new number → slice_get new number ≡ Some own → own.question ≡ q
own_question q old new number own asked there =
    let stored : slice_get new number ≡ Some (answered q asked.answer) = asked.there in
    let same : own ≡ answered q asked.answer = cc in
    ap (λ (r : Record). r.question) same

pub own_answer : (q : Question) (a : Answer) (new : List Record) (number : ℕ) (own : Record) → slice_get new number ≡ Some (answered q a) → slice_get new number ≡ Some own → own.answer ≡ a
own_answer q a new number own stored there =
    let same : own ≡ answered q a = cc in
    ap (λ (r : Record). r.answer) same

-- a record that has not changed is passed
pub changed_past : (f : Question → Answer) (rs : List Record) (at : ℕ) (r : Record) (now : Answer) → slice_get rs at ≡ Some r → changed f rs ≡ changed f (drop at rs)
    → now ≡ f r.question → same_answer now r.answer ≡ true → changed f rs ≡ changed f (drop (at + 1) rs)
changed_past f rs at r now there so_far own same =
    so_far ∙ ap (changed f) (drop_item rs at r there) ∙ changed_at f r (drop (suc at) rs) true (ap (λ a. same_answer a r.answer) (sym own) ∙ same)
    ∙ ap (λ n. changed f (drop n rs)) (sym (add-one at))

-- the first that has changed is found
pub changed_here : (f : Question → Answer) (rs : List Record) (at : ℕ) (r : Record) (now : Answer) (path : Path) → slice_get rs at ≡ Some r → changed f rs ≡ changed f (drop at rs)
    → now ≡ f r.question → same_answer now r.answer ≡ false → path ≡ path_asked r.question → changed f rs ≡ Some path
changed_here f rs at r now path there so_far own other is =
    so_far ∙ ap (changed f) (drop_item rs at r there) ∙ changed_at f r (drop (suc at) rs) false (ap (λ a. same_answer a r.answer) (sym own) ∙ other)
    ∙ ap (λ p. Some p) (sym is)

same_paths_self : (ps : List Path) → pointwise bytes_eq ps ps ≡ true
same_paths_self [] = refl
same_paths_self (p ∷ ps) = (λ i. (bytes_eq-Decides p p).1 refl i && pointwise bytes_eq ps ps) ∙ same_paths_self ps

same_answer_self : (a : Answer) → same_answer a a ≡ true
same_answer_self Absent = refl
same_answer_self (Bytes xs) = (bytes_eq-Decides xs xs).1 refl
same_answer_self (TooLarge n) = (Decides-eqb n n).1 refl
same_answer_self (Paths ps) = same_paths_self ps

-- answers that agree with all records have changed nothing
pub agrees_unchanged : (f : Question → Answer) (rs : List Record) → Agrees f rs → changed f rs ≡ None
agrees_unchanged f [] h = refl
agrees_unchanged f (r ∷ rs) h =
    changed_at f r rs true (ap (λ a. same_answer a r.answer) h.0 ∙ same_answer_self r.answer) ∙ agrees_unchanged f rs h.1

drop_past : (rs : List Record) (at : ℕ) → length rs ≤ at → drop at rs ≡ []
drop_past [] zero h = refl
drop_past [] (suc at) h = refl
drop_past (x ∷ rs) zero h = absurd (omega arith)
drop_past (x ∷ rs) (suc at) h = drop_past rs at (omega arith)

-- where all are passed, none has changed
pub all_past : (f : Question → Answer) (rs : List Record) (at : ℕ) → length rs ≤ at → changed f rs ≡ changed f (drop at rs) → Agrees f rs
all_past f rs at end so_far = unchanged_agrees f rs (so_far ∙ ap (changed f) (drop_past rs at end))

-- the numbers of the records so far, with one more
pub numbered_more : (old new rs : List Record) (numbers : List ℕ) (at number : ℕ) (r own : Record) → Grew old new → map (slice_get old) numbers ≡ map Some (take at rs)
    → slice_get rs at ≡ Some r → slice_get new number ≡ Some own → own.question ≡ r.question → same_answer own.answer r.answer ≡ true
    → map (slice_get new) (numbers ++ number ∷ []) ≡ map Some (take (at + 1) rs)
numbered_more old new rs numbers at number r own grew before there is asks same =
    let still = numbered_after old new numbers (take at rs) grew before in
    let answers : own.answer ≡ r.answer = same_answer_is own.answer r.answer same in
    let one : own ≡ r = λ i. record { question = asks i; answer = answers i } in
    let whole : take (at + 1) rs ≡ take at rs ++ r ∷ [] = ap (λ n. take n rs) (add-one at) ∙ take_item rs at r there in
    map-append (slice_get new) numbers (number ∷ [])
    ∙ (λ i. still i ++ (is ∙ ap (λ s. Some s) one) i ∷ [])
    ∙ sym (map-append (λ s. Some s) (take at rs) (r ∷ []))
    ∙ ap (map (λ s. Some s)) (sym whole)
