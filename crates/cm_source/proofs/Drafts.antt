-- The end of a text, and its way through a file.
use Rattle.std.proofs.Common.{◌≡◌, ℕ, suc, ◌+◌, ◌-◌, ◌≤◌, List, [], ◌∷◌, ◌++◌, length, get_or, take, drop, map, refl, sym, ap, ◌∙◌, subst, arith, length-append, append_assoc, length-drop, ◌⊎◌, inl, inr, eqb, eqb-true, true, false, Option, None, Some}
use Rattle.std.proofs.lemmas.Bool.Decides.{nat_tests}
use Rattle.std.proofs.lemmas.List.{append-nil, take-append-drop, map-append}
use Rattle.std.proofs.lemmas.Str.{IsUtf8-append}
use Rattle.std.specs.Str.{IsUtf8}
use Rattle.cm_source.specs.declared.position.Position.{Position}
use Rattle.cm_source.specs.declared.draft.Draft.{Draft}
use Rattle.cm_source.specs.declared.step.Step.{Step}
use Rattle.cm_source.specs.Places.{start, after}
use Rattle.cm_source.specs.LogicalText.{Mark, Logical, marks_of, text_of, ended}
use Rattle.cm_source.specs.Steps.{phases, given, IsStep}
use Rattle.cm_source.specs.Drafts.{IsDraftOf, IsOpen, IsFront}
use Rattle.cm_source.proofs.Ascii.{one_ascii}
use Rattle.cm_source.proofs.Steps.{after-append}

abbrev pub bytes_of : List Mark → List ℕ
bytes_of marks = map (λ m. m.byte) marks

last_later : (x y : ℕ) (ys : List ℕ) → get_or (x ∷ y ∷ ys) (length (x ∷ y ∷ ys) - 1) 0 ≡ get_or (y ∷ ys) (length (y ∷ ys) - 1) 0
last_later x y ys = let later : length (x ∷ y ∷ ys) - 1 ≡ suc (length (y ∷ ys) - 1) = omega arith in rw later refl

open_later : (x y : ℕ) (ys : List ℕ) → IsOpen (x ∷ y ∷ ys) → IsOpen (y ∷ ys)
open_later x y ys h = (omega arith, λ e. h.1 (last_later x y ys ∙ e))

open_before : (x y : ℕ) (ys : List ℕ) → IsOpen (y ∷ ys) → IsOpen (x ∷ y ∷ ys)
open_before x y ys h = (omega arith, λ e. h.1 (sym (last_later x y ys) ∙ e))

pub ended-open : (marks : List Mark) (end : Position) → IsOpen (bytes_of marks) → ended end marks ≡ marks ++ record { byte = 10; place = end } ∷ []
ended-open [] end h = absurd (let some = h.0 in omega arith)
ended-open (x ∷ []) end h = let differs : eqb x.byte 10 ≡ false = grind (arith, nat_tests, h.1) in rw differs refl
ended-open (x ∷ y ∷ marks) end h = ap (λ t. x ∷ t) (ended-open (y ∷ marks) end (open_later x.byte y.byte (bytes_of marks) h))

pub ended-closed : (marks : List Mark) (end : Position) → (IsOpen (bytes_of marks) → ⊥) → ended end marks ≡ marks
ended-closed [] end h = refl
ended-closed (x ∷ []) end h =
    elim (eqb x.byte 10) as (λ b. eqb x.byte 10 ≡ b → ended end (x ∷ []) ≡ x ∷ []) [
      | true ↦ λ e. rw e refl
      | false ↦ λ e. absurd (h (omega arith, λ is. let same : eqb x.byte 10 ≡ true = grind (arith, nat_tests) in cc))
    ] refl
ended-closed (x ∷ y ∷ marks) end h = ap (λ t. x ∷ t) (ended-closed (y ∷ marks) end (λ is. h (open_before x.byte y.byte (bytes_of marks) is)))

-- the end of a text adds a line feed or nothing
pub ended-cases : (marks : List Mark) (end : Position) → (ended end marks ≡ marks) ⊎ (ended end marks ≡ marks ++ record { byte = 10; place = end } ∷ [])
ended-cases [] end = inl refl
ended-cases (x ∷ []) end =
    elim (eqb x.byte 10) as (λ b. eqb x.byte 10 ≡ b → (ended end (x ∷ []) ≡ x ∷ []) ⊎ (ended end (x ∷ []) ≡ x ∷ record { byte = 10; place = end } ∷ [])) [
      | true ↦ λ e. inl (rw e refl)
      | false ↦ λ e. inr (rw e refl)
    ] refl
ended-cases (x ∷ y ∷ marks) end = elim (ended-cases (y ∷ marks) end) [
  | inl same ↦ inl (ap (λ t. x ∷ t) same)
  | inr more ↦ inr (ap (λ t. x ∷ t) more)
]

pub utf8-ended : (marks : List Mark) (end : Position) → IsUtf8 (bytes_of marks) → IsUtf8 (bytes_of (ended end marks))
utf8-ended marks end utf8 = elim (ended-cases marks end) [
  | inl same ↦ rw same utf8
  | inr more ↦ rw (more, map-append) (IsUtf8-append _ _ utf8 (one_ascii 10 (omega arith)))
]

pub length-ended : (marks : List Mark) (end : Position) → length (ended end marks) ≤ length marks + 1
length-ended marks end = elim (ended-cases marks end) [
  | inl same ↦ rw same (omega arith)
  | inr more ↦ rw (more, length-append) (omega arith)
]

bytes_given : (p : Position) (byte : Option ℕ) → bytes_of (given p byte) ≡ bytes_of (given start byte)
bytes_given p None = refl
bytes_given p (Some b) = refl

length_given : (p : Position) (byte : Option ℕ) → length (given p byte) ≤ 1
length_given p None = omega arith
length_given p (Some b) = omega arith

-- the start of the way
pub front-start : (file : List ℕ) (draft : Draft) → IsDraftOf [] draft → IsUtf8 file → IsFront file draft start file
front-start file draft held utf8 = record {
  marks = [];
  held = held;
  whole = refl;
  end = refl;
  utf8 = rw held.bytes utf8;
  room = omega arith;
}

-- one step of it
pub front-step : (file : List ℕ) (draft next : Draft) (p : Position) (rest : List ℕ) (step : Step) (front : IsFront file draft p rest) → IsStep rest step → IsDraftOf (front.marks ++ given p step.byte) next → IsFront file next (after p (take step.length rest)) (drop step.length rest)
front-step file draft next p rest step front is held = record {
  marks = front.marks ++ given p step.byte;
  held = held;
  whole = append_assoc front.marks (given p step.byte) _ ∙ ap (λ t. front.marks ++ t) (sym (is.marks p)) ∙ front.whole;
  end = sym (after-append p (take step.length rest) (drop step.length rest)) ∙ ap (after p) (take-append-drop step.length rest) ∙ front.end;
  utf8 =
      let bytes : next.bytes.items ≡ draft.bytes.items ++ bytes_of (given start step.byte) =
      held.bytes ∙ map-append (λ (m : Mark). m.byte) front.marks (given p step.byte) ∙ ap (λ t. t ++ bytes_of (given p step.byte)) (sym front.held.bytes) ∙ ap (λ t. draft.bytes.items ++ t) (bytes_given p step.byte) in
      rw bytes (is.utf8 draft.bytes.items front.utf8);
  room = omega (arith, length-append front.marks (given p step.byte), length_given p step.byte, length-drop step.length rest, is.some, is.within, front.room);
}

-- the whole text, from the draft of its whole lines
pub record IsWhole (file : List ℕ) (draft : Draft) (end : Position) : Type 0 where
  pub held : IsDraftOf (marks_of file) draft
  pub at_end : end ≡ after start file
  pub utf8 : IsUtf8 draft.bytes.items
  pub room : length draft.places ≤ length file + 1

no_bytes : (rest : List ℕ) → eqb (length rest) 0 ≡ true → rest ≡ []
no_bytes [] h = refl
no_bytes (x ∷ rest) h = absurd (let none : length (x ∷ rest) ≡ 0 = eqb-true _ 0 h in omega arith)

marks_length : (marks : List Mark) → length (map (λ m. m.place) marks) ≡ length marks
marks_length [] = refl
marks_length (m ∷ marks) = ap suc (marks_length marks)

pub whole-end : (file : List ℕ) (draft next : Draft) (p : Position) (rest : List ℕ) (front : IsFront file draft p rest) → eqb (length rest) 0 ≡ true → IsDraftOf (ended p front.marks) next → IsWhole file next p
unfolding marks_of phases
whole-end file draft next p rest front none held =
    let empty = no_bytes rest none in
    let all : front.marks ≡ phases start file = sym (append-nil front.marks) ∙ ap (λ t. front.marks ++ phases p t) (sym empty) ∙ front.whole in
    let at_end : p ≡ after start file = ap (after p) (sym empty) ∙ front.end in
    let text : IsUtf8 (draft.bytes.items ++ []) = subst (λ t. IsUtf8 (draft.bytes.items ++ t)) empty front.utf8 in
    let bytes : IsUtf8 (bytes_of front.marks) = rw (← front.held.bytes) (rw append-nil at text) in
    record {
      held = subst (λ q. IsDraftOf (ended q (phases start file)) next) at_end (subst (λ ms. IsDraftOf (ended p ms) next) all held);
      at_end = at_end;
      utf8 = rw held.bytes (utf8-ended front.marks p bytes);
      room = omega (arith, length-ended front.marks p, marks_length (ended p front.marks), ap length held.places, front.room);
    }

bytes_length : (marks : List Mark) → length (bytes_of marks) ≡ length marks
bytes_length [] = refl
bytes_length (m ∷ marks) = ap suc (bytes_length marks)

-- a draft has a place for each byte
pub even : (marks : List Mark) (draft : Draft) → IsDraftOf marks draft → length draft.places ≡ length draft.bytes.items
even marks draft held =
    ap length held.places ∙ marks_length marks ∙ sym (bytes_length marks) ∙ sym (ap length held.bytes)

-- a text of a whole draft's bytes and places, and the end's, is the file's text
pub text_is : (file : List ℕ) (text : Logical) (draft : Draft) (end : Position) → IsDraftOf (marks_of file) draft → end ≡ after start file → text.bytes ≡ draft.bytes.items → text.places ≡ draft.places ++ end ∷ [] → text ≡ text_of file
unfolding text_of
text_is file text draft end held at_end bytes places =
    let make : List ℕ → List Position → Logical = λ b p. record { bytes = b; places = p } in
    ap (λ b. make b text.places) (bytes ∙ held.bytes)
    ∙ ap (λ p. make (bytes_of (marks_of file)) p) (places ∙ ap (λ q. draft.places ++ q ∷ []) at_end ∙ ap (λ t. t ++ after start file ∷ []) held.places)
