-- The single fields of a module file, and pieces behind their length.
use Rattle.std.proofs.Common.{◌≡◌, ℕ, ◌<◌, ◌^◌, true, cond, ◌==◌, List, [], ◌∷◌, length, Some, None, option_and_then, Ok, refl, sym, ap, subst, ◌∙◌, arith, inl, inr}
use Rattle.std.specs.Result.{result_ok}
use Rattle.std.specs.Str.{bytes_eq}
use Rattle.std.proofs.lemmas.Bool.{cases_lt}
use Rattle.std.proofs.lemmas.Bool.Decides.{Decides-eqb}
use Rattle.std.proofs.lemmas.List.{get_or_past, get_or_append_left, append-nil}
use Rattle.std.proofs.lemmas.Slice.Eq.{bytes_eq-Decides}
use Rattle.cm_core.specs.Paths.{path_of}
use Rattle.cm_wire.specs.Spelling.{spell_u8, spell_u32, spell_u64, spell_bytes, spell_text}
use Rattle.cm_wire.specs.Unread.{Unread, Passes, AreBytes}
use Rattle.cm_wire.specs.Reading.{read_u8, read_u32, read_u64, read_bytes, read_text}
use Rattle.cm_wire.proofs.Forms.{Passes-between, AreBytes-rest, u8_takes, u8_again, u32_takes, u32_again, u64_takes, u64_again, bytes_takes, bytes_again, text_takes, text_again}
use Rattle.module_file.specs.ModuleFile.{IsText, IsPathSpelling}
use Rattle.module_file.specs.Reading.{Reads, read_inside, whole_of, passed_if, pass_u8, pass_u64, pass_bytes, read_str, read_path, path_in, read_number32, read_number64}
use Rattle.module_file.specs.Forms.{IsForm, IsSign, then_some, ok_some, if_some, some_is, nowhere, stands}
use Rattle.cm_wire.proofs.Forms.{Passes-then}

same_number : (n : ℕ) → (n == n) ≡ true
same_number n = (Decides-eqb n n).1 refl

same_bytes : (bs : List ℕ) → bytes_eq bs bs ≡ true
same_bytes bs = (bytes_eq-Decides bs bs).1 refl

pair : {A B : Type 0} {x y : A} {z w : B} → x ≡ y → z ≡ w → ◌≡◌ {A = A × B} (x, z) (y, w)
pair e f = rw (e, f) refl

-- ---- numbers that say nothing

passed : (n : ℕ) (x : ℕ × Unread) (v : Unread) → passed_if n x ≡ Some v → (x.0 ≡ n) × (x.1 ≡ v)
passed n x v e = let h = if_some (x.0 == n) x.1 v e in ((Decides-eqb x.0 n).0 h.0, h.1)

pub sign_u8 : (n : ℕ) → IsSign (spell_u8 n) (pass_u8 n)
unfolding pass_u8
sign_u8 n = record {
  takes = λ u v fits e.
      let a = then_some (result_ok (read_u8 u)) (passed_if n) v e in
      let h = passed n a.0 v a.2 in
      let t = u8_takes a.0.0 u a.0.1 fits (ok_some (read_u8 u) a.0 a.1) in
      let P : ℕ × Unread → Type 0 = λ y. Passes u (spell_u8 y.0) y.1 in
      let e' : a.0 ≡ (n, v) = pair h.0 h.1 in
      subst P e' t.0;
  again = λ u v p. rw (u8_again n u v p, same_number n) refl;
}

pub sign_u64 : (n : ℕ) → n < 2 ^ 64 → IsSign (spell_u64 n) (pass_u64 n)
unfolding pass_u64
sign_u64 n lt = record {
  takes = λ u v fits e.
      let a = then_some (result_ok (read_u64 u)) (passed_if n) v e in
      let h = passed n a.0 v a.2 in
      let t = u64_takes a.0.0 u a.0.1 fits (ok_some (read_u64 u) a.0 a.1) in
      let P : ℕ × Unread → Type 0 = λ y. Passes u (spell_u64 y.0) y.1 in
      let e' : a.0 ≡ (n, v) = pair h.0 h.1 in
      subst P e' t.0;
  again = λ u v p. rw (u64_again n u v lt p, same_number n) refl;
}

bytes_take : (bs : List ℕ) (u v : Unread) → AreBytes u.rest → pass_bytes bs u ≡ Some v → Passes u bs v
unfolding spell_u8
bytes_take [] u v fits e = subst (λ (w : Unread). Passes u [] w) (some_is u v e) (nowhere u)
bytes_take (b ∷ bs) u v fits e =
    let a = then_some (pass_u8 b u) (pass_bytes bs) v e in
    let first = (sign_u8 b).takes u a.0 fits a.1 in
    let others = bytes_take bs a.0 v (AreBytes-rest u a.0 (spell_u8 b) fits first) a.2 in
    Passes-then u a.0 v (spell_u8 b) bs first others

bytes_pass : (bs : List ℕ) (u v : Unread) → Passes u bs v → pass_bytes bs u ≡ Some v
unfolding spell_u8
bytes_pass [] u v p = rw (stands u v p) refl
bytes_pass (b ∷ bs) u v p =
    let m = Passes-between u v (b ∷ []) bs p in
    rw ((sign_u8 b).again u m.0 m.1) (bytes_pass bs m.0 v m.2)

pub sign_bytes : (bs : List ℕ) → IsSign bs (pass_bytes bs)
sign_bytes bs = record { takes = bytes_take bs; again = bytes_pass bs }

-- ---- numbers, texts and paths

pub number32_form : IsForm spell_u32 (λ n. n < 2 ^ 32) read_number32
number32_form = record {
  takes = λ n u v fits e. u32_takes n u v fits (ok_some (read_u32 u) (n, v) e);
  again = λ n u v fits p. rw (u32_again n u v fits p) refl;
}

pub number64_form : IsForm spell_u64 (λ n. n < 2 ^ 64) read_number64
number64_form = record {
  takes = λ n u v fits e. u64_takes n u v fits (ok_some (read_u64 u) (n, v) e);
  again = λ n u v fits p. rw (u64_again n u v fits p) refl;
}

pub str_form : IsForm spell_text IsText read_str
unfolding read_str
str_form = record {
  takes = λ x u v fits e. let t = text_takes x u v fits (ok_some (read_text u) (x, v) e) in (t.0, (t.1, t.2));
  again = λ x u v fits p. rw (text_again x u v fits.0 fits.1 p) refl;
}

path_takes : (x : List ℕ) (u v : Unread) → AreBytes u.rest → read_path u ≡ Some (x, v) → Passes u (spell_text x) v × IsPathSpelling x
unfolding read_path
path_takes x u v fits e =
    let a = then_some (read_str u) path_in (x, v) e in
    let b = then_some (result_ok (path_of a.0.0)) (λ path. cond (bytes_eq path a.0.0) (Some a.0) None) (x, v) a.2 in
    let c = if_some (bytes_eq b.0 a.0.0) a.0 (x, v) b.2 in
    let same : b.0 ≡ a.0.0 = (bytes_eq-Decides b.0 a.0.0).0 c.0 in
    let path : path_of a.0.0 ≡ Ok a.0.0 = ok_some (path_of a.0.0) b.0 b.1 ∙ ap Ok same in
    let t = str_form.takes a.0.0 u a.0.1 fits a.1 in
    let P : List ℕ × Unread → Type 0 = λ y. Passes u (spell_text y.0) y.1 × IsPathSpelling y.0 in
    subst P c.1 (t.0, (t.1, path))

pub path_form : IsForm spell_text IsPathSpelling read_path
unfolding read_path
path_form = record {
  takes = path_takes;
  again = λ x u v fits p. rw (str_form.again x u v fits.0 p, fits.1, same_bytes x) refl;
}

-- ---- a form behind its length

AreBytes-front : (u v : Unread) (s : List ℕ) → AreBytes u.rest → Passes u s v → AreBytes s
AreBytes-front u v s fits passes i =
    elim (cases_lt i (length s)) [
      | inl lt ↦ rw (← get_or_append_left s v.rest 0 i lt) (subst AreBytes passes.parts fits i)
      | inr le ↦ rw (get_or_past s i 0 le) (omega arith)
    ]

AreBytes-inside : (u v : Unread) (bs : List ℕ) → AreBytes u.rest → Passes u (spell_bytes bs) v → AreBytes bs
unfolding spell_bytes
AreBytes-inside u v bs fits p =
    let m = Passes-between u v (spell_u64 (length bs)) bs p in
    AreBytes-front m.0 v bs (AreBytes-rest u m.0 (spell_u64 (length bs)) fits m.1) m.2

nothing_left : (xs : List ℕ) → (length xs == 0) ≡ true → xs ≡ []
nothing_left [] e = refl
nothing_left (x ∷ xs) e = absurd (omega (arith, (Decides-eqb (length (x ∷ xs)) 0).0 e))

module _ {A : Type 0} {s : A → List ℕ} {F : A → Type 0} {r : Reads A} where
  inside_takes : IsForm s F r → (x : A) (u v : Unread) → AreBytes u.rest → read_inside r u ≡ Some (x, v) → Passes u (spell_bytes (s x)) v × F x × (length (s x) < 2 ^ 64)
  unfolding read_inside
  inside_takes f x u v fits e =
      let a = then_some (result_ok (read_bytes u)) (λ bytes. option_and_then (whole_of bytes.1) (r (record { at = 0; rest = bytes.0 }))) (x, v) e in
      let w : Unread = record { at = 0; rest = a.0.0 } in
      let b = then_some (r w) (whole_of a.0.1) (x, v) a.2 in
      let c = if_some (length b.0.1.rest == 0) (b.0.0, a.0.1) (x, v) b.2 in
      let t = bytes_takes a.0.0 u a.0.1 fits (ok_some (read_bytes u) a.0 a.1) in
      let i = f.takes b.0.0 w b.0.1 (AreBytes-inside u a.0.1 a.0.0 fits t.0) b.1 in
      let whole : a.0.0 ≡ s b.0.0 = i.0.parts ∙ rw (nothing_left b.0.1.rest c.0, append-nil) refl in
      let Q : List ℕ → Type 0 = λ bs. Passes u (spell_bytes bs) a.0.1 × (length bs < 2 ^ 64) in
      let h : Q (s b.0.0) = subst Q whole t in
      let P : A × Unread → Type 0 = λ y. Passes u (spell_bytes (s y.0)) y.1 × F y.0 × (length (s y.0) < 2 ^ 64) in
      subst P c.1 (h.0, i.1, h.1)

  inside_again : IsForm s F r → (x : A) (u v : Unread) → F x × (length (s x) < 2 ^ 64) → Passes u (spell_bytes (s x)) v → read_inside r u ≡ Some (x, v)
  unfolding read_inside
  inside_again f x u v fits p =
      let w : Unread = record { at = 0; rest = s x } in
      let z : Unread = record { at = length (s x); rest = [] } in
      let q : Passes w (s x) z = record { parts = sym (append-nil (s x)); place = omega arith } in
      rw (bytes_again (s x) u v fits.1 p, f.again x w z fits.0 q) refl

  pub inside_form : IsForm s F r → IsForm (λ x. spell_bytes (s x)) (λ x. F x × (length (s x) < 2 ^ 64)) (read_inside r)
  inside_form f = record {
    takes = λ x u v fits e. let h = inside_takes f x u v fits e in (h.0, (h.1, h.2));
    again = inside_again f;
  }
