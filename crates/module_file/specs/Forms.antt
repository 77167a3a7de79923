-- Forms: a spelling that reading gives back, and reading that nothing but a spelling passes.
use Rattle.std.proofs.Common.{◌≡◌, ℕ, zero, suc, Bool, true, false, cond, List, [], ◌∷◌, ◌++◌, length, Option, Some, None, option_map, option_and_then, Result, Ok, Err, refl, ap, subst, arith}
use Rattle.std.specs.List.{flat_map, AllByRecursion}
use Rattle.std.specs.Result.{result_ok}
use Rattle.cm_wire.specs.Spelling.{spell_u64}
use Rattle.cm_wire.specs.Unread.{Unread, Passes, AreBytes}
use Rattle.cm_wire.specs.Reading.{read_u64}
use Rattle.cm_wire.proofs.Forms.{Passes-then, Passes-between, AreBytes-rest, u64_takes, u64_again}
use Rattle.module_file.specs.ModuleFile.{spell_list, IsListOf}
use Rattle.module_file.specs.Reading.{Reads, nothing, both, after, seen_as, read_items, read_list}

-- these values, spelled so, are read so
pub record IsForm {A : Type 0} (spell : A → List ℕ) (Fits : A → Type 0) (read : Reads A) : Type 0 where
  pub takes : (x : A) (u v : Unread) → AreBytes u.rest → read u ≡ Some (x, v) → Passes u (spell x) v × Fits x
  pub again : (x : A) (u v : Unread) → Fits x → Passes u (spell x) v → read u ≡ Some (x, v)

-- these bytes are passed so
pub record IsSign (bytes : List ℕ) (pass : Unread → Option Unread) : Type 0 where
  pub takes : (u v : Unread) → AreBytes u.rest → pass u ≡ Some v → Passes u bytes v
  pub again : (u v : Unread) → Passes u bytes v → pass u ≡ Some v

-- ---- steps

pub some_is : {A : Type 0} (x y : A) → Some x ≡ Some y → x ≡ y
some_is x y e = cc

pub then_some : {A B : Type 0} (o : Option A) (f : A → Option B) (y : B) → option_and_then f o ≡ Some y → (x : A) × (o ≡ Some x) × (f x ≡ Some y)
then_some (Some x) f y e = (x, refl, e)
then_some None f y e = absurd cc

pub map_some : {A B : Type 0} (o : Option A) (f : A → B) (y : B) → option_map f o ≡ Some y → (x : A) × (o ≡ Some x) × (f x ≡ y)
map_some (Some x) f y e = (x, refl, cc)
map_some None f y e = absurd cc

pub ok_some : {A E : Type 0} (r : Result A E) (x : A) → result_ok r ≡ Some x → r ≡ Ok x
ok_some (Ok y) x e = cc
ok_some (Err d) x e = absurd cc

pub if_some : {A : Type 0} (b : Bool) (x y : A) → cond b (Some x) None ≡ Some y → (b ≡ true) × (x ≡ y)
if_some true x y e = (refl, cc)
if_some false x y e = absurd cc

pub nowhere : (u : Unread) → Passes u [] u
nowhere u = record { parts = refl; place = omega arith }

pub stands : (u v : Unread) → Passes u [] v → u ≡ v
stands u v p =
    let place : u.at ≡ v.at = omega (arith, p.place) in
    let rest : u.rest ≡ v.rest = p.parts in
    rw (place, rest) refl

-- the same form, with what fits said in another way
pub fits_as : {A : Type 0} {s : A → List ℕ} {F : A → Type 0} {r : Reads A} (G : A → Type 0) → ((x : A) → F x → G x) → ((x : A) → G x → F x) → IsForm s F r → IsForm s G r
fits_as G there here f = record {
  takes = λ x u v fits e. let t = f.takes x u v fits e in (t.0, there x t.1);
  again = λ x u v fits p. f.again x u v (here x fits) p;
}

-- ---- putting forms together

pub nothing_form : IsForm (λ (x : Unit {0}). []) (λ x. Unit {0}) nothing
nothing_form = record {
  takes = λ x u v fits e. let h : u ≡ v = ap (λ (y : Unit {0} × Unread). y.1) (some_is (tt, u) (x, v) e) in (subst (λ (w : Unread). Passes u [] w) h (nowhere u), tt);
  again = λ x u v fits p. rw (stands u v p) refl;
}

module _ {A B : Type 0} {s : A → List ℕ} {t : B → List ℕ} {F : A → Type 0} {G : B → Type 0} {r : Reads A} {q : Reads B} where
  both_takes : IsForm s F r → IsForm t G q → (x : A × B) (u v : Unread) → AreBytes u.rest → both r q u ≡ Some (x, v) → Passes u (s x.0 ++ t x.1) v × F x.0 × G x.1
  both_takes f g x u v fits e =
      let a = then_some (r u) (λ a. option_map (λ b. ((a.0, b.0), b.1)) (q a.1)) (x, v) e in
      let b = map_some (q a.0.1) (λ b. ((a.0.0, b.0), b.1)) (x, v) a.2 in
      let first = f.takes a.0.0 u a.0.1 fits a.1 in
      let second = g.takes b.0.0 a.0.1 b.0.1 (AreBytes-rest u a.0.1 (s a.0.0) fits first.0) b.1 in
      let P : (A × B) × Unread → Type 0 = λ y. Passes u (s y.0.0 ++ t y.0.1) y.1 × F y.0.0 × G y.0.1 in
      subst P b.2 (Passes-then u a.0.1 b.0.1 (s a.0.0) (t b.0.0) first.0 second.0, first.1, second.1)

  both_again : IsForm s F r → IsForm t G q → (x : A × B) (u v : Unread) → F x.0 × G x.1 → Passes u (s x.0 ++ t x.1) v → both r q u ≡ Some (x, v)
  both_again f g x u v fits p =
      let m = Passes-between u v (s x.0) (t x.1) p in
      rw (f.again x.0 u m.0 fits.0 m.1, g.again x.1 m.0 v fits.1 m.2) refl

  pub both_form : IsForm s F r → IsForm t G q → IsForm (λ (x : A × B). s x.0 ++ t x.1) (λ x. F x.0 × G x.1) (both r q)
  both_form f g = record {
    takes = λ x u v fits e. let h = both_takes f g x u v fits e in (h.0, (h.1, h.2));
    again = both_again f g;
  }

module _ {A : Type 0} {bytes : List ℕ} {pass : Unread → Option Unread} {s : A → List ℕ} {F : A → Type 0} {r : Reads A} where
  after_takes : IsSign bytes pass → IsForm s F r → (x : A) (u v : Unread) → AreBytes u.rest → after pass r u ≡ Some (x, v) → Passes u (bytes ++ s x) v × F x
  after_takes sign f x u v fits e =
      let a = then_some (pass u) r (x, v) e in
      let first = sign.takes u a.0 fits a.1 in
      let second = f.takes x a.0 v (AreBytes-rest u a.0 bytes fits first) a.2 in
      (Passes-then u a.0 v bytes (s x) first second.0, second.1)

  after_again : IsSign bytes pass → IsForm s F r → (x : A) (u v : Unread) → F x → Passes u (bytes ++ s x) v → after pass r u ≡ Some (x, v)
  after_again sign f x u v fits p =
      let m = Passes-between u v bytes (s x) p in
      rw (sign.again u m.0 m.1) (f.again x m.0 v fits m.2)

  pub after_form : IsSign bytes pass → IsForm s F r → IsForm (λ x. bytes ++ s x) F (after pass r)
  after_form sign f = record { takes = after_takes sign f; again = after_again sign f }

-- a form seen as another type
module _ {A B : Type 0} {s : A → List ℕ} {F : A → Type 0} {r : Reads A} where
  pub seen_form : (to : A → B) (back : B → A) (G : B → Type 0) → ((x : A) → back (to x) ≡ x) → ((y : B) → to (back y) ≡ y) → ((x : A) → F x → G (to x)) → ((y : B) → G y → F (back y)) →
      IsForm s F r → IsForm (λ y. s (back y)) G (seen_as to r)
  seen_form to back G same same' there here f = record {
    takes = λ y u v fits e.
        let a = map_some (r u) (λ x. (to x.0, x.1)) (y, v) e in
        let t = f.takes a.0.0 u a.0.1 fits a.1 in
        let P : B × Unread → Type 0 = λ z. Passes u (s (back z.0)) z.1 × G z.0 in
        subst P a.2 (rw (same a.0.0) t.0, there a.0.0 t.1);
    again = λ y u v fits p. rw (f.again (back y) u v (here y fits) p, same' y) refl;
  }

-- ---- lists

module _ {A : Type 0} {s : A → List ℕ} {F : A → Type 0} {r : Reads A} where
  items_take : IsForm s F r → (n : ℕ) (xs : List A) (u v : Unread) → AreBytes u.rest → read_items r n u ≡ Some (xs, v) → Passes u (flat_map s xs) v × AllByRecursion F xs × (length xs ≡ n)
  items_take f zero xs u v fits e =
      let P : List A × Unread → Type 0 = λ y. Passes u (flat_map s y.0) y.1 × AllByRecursion F y.0 × (length y.0 ≡ zero) in
      subst P (some_is ([], u) (xs, v) e) (nowhere u, tt, refl)
  items_take f (suc n) xs u v fits e =
      let a = then_some (r u) (λ x. option_map (λ ys. (x.0 ∷ ys.0, ys.1)) (read_items r n x.1)) (xs, v) e in
      let b = map_some (read_items r n a.0.1) (λ ys. (a.0.0 ∷ ys.0, ys.1)) (xs, v) a.2 in
      let first = f.takes a.0.0 u a.0.1 fits a.1 in
      let others = items_take f n b.0.0 a.0.1 b.0.1 (AreBytes-rest u a.0.1 (s a.0.0) fits first.0) b.1 in
      let len : length (a.0.0 ∷ b.0.0) ≡ suc n = ap suc others.2 in
      let P : List A × Unread → Type 0 = λ y. Passes u (flat_map s y.0) y.1 × AllByRecursion F y.0 × (length y.0 ≡ suc n) in
      subst P b.2 (Passes-then u a.0.1 b.0.1 (s a.0.0) (flat_map s b.0.0) first.0 others.0, (first.1, others.1), len)

  items_again : IsForm s F r → (xs : List A) (u v : Unread) → AllByRecursion F xs → Passes u (flat_map s xs) v → read_items r (length xs) u ≡ Some (xs, v)
  items_again f [] u v fits p = rw (stands u v p) refl
  items_again f (x ∷ xs) u v fits p =
      let m = Passes-between u v (s x) (flat_map s xs) p in
      rw (f.again x u m.0 fits.0 m.1, items_again f xs m.0 v fits.1 m.2) refl

  pub list_form : IsForm s F r → IsForm (spell_list s) (IsListOf F) (read_list r)
  unfolding read_list
  list_form f = record {
    takes = λ xs u v fits e.
        let a = then_some (result_ok (read_u64 u)) (λ n. read_items r n.0 n.1) (xs, v) e in
        let count = u64_takes a.0.0 u a.0.1 fits (ok_some (read_u64 u) a.0 a.1) in
        let items = items_take f a.0.0 xs a.0.1 v (AreBytes-rest u a.0.1 (spell_u64 a.0.0) fits count.0) a.2 in
        let counted : Passes u (spell_u64 (length xs)) a.0.1 = rw items.2 count.0 in
        (Passes-then u a.0.1 v (spell_u64 (length xs)) (flat_map s xs) counted items.0, (omega (arith, count.1, items.2), items.1));
    again = λ xs u v fits p.
        let m = Passes-between u v (spell_u64 (length xs)) (flat_map s xs) p in
        rw (u64_again (length xs) u m.0 fits.0 m.1) (items_again f xs m.0 v fits.1 m.2);
  }
