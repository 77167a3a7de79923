-- Loops over the items of a list in a module file.
use Rattle.std.proofs.Common.{◌≡◌, ℕ, suc, List, [], ◌∷◌, ◌++◌, Option, Some, None, option_map, refl, append_assoc}
use Rattle.cm_wire.specs.Unread.{Unread}
use Rattle.module_file.specs.Reading.{Reads, read_items}

module _ {A : Type 0} where
  -- what is read behind items that were read before
  abbrev pub with_front : List A → Option (List A × Unread) → Option (List A × Unread)
  with_front done None = None
  with_front done (Some x) = Some (done ++ x.0, x.1)

  joined_front : (done : List A) (x : A) (o : Option (List A × Unread)) → with_front done (option_map (λ xs. (x ∷ xs.0, xs.1)) o) ≡ with_front (done ++ (x ∷ [])) o
  joined_front done x None = refl
  joined_front done x (Some y) = rw append_assoc refl

  -- one more item
  pub front_step : (read : Reads A) (k n : ℕ) (u v : Unread) (done : List A) (x : A) → k ≡ suc n → read u ≡ Some (x, v) →
      with_front done (read_items read k u) ≡ with_front (done ++ (x ∷ [])) (read_items read n v)
  front_step read k n u v done x e took = rw (e, took) (joined_front done x (read_items read n v))

  pub front_none : (read : Reads A) (k n : ℕ) (u : Unread) (done : List A) → k ≡ suc n → read u ≡ None → with_front done (read_items read k u) ≡ None
  front_none read k n u done e none = rw (e, none) refl

  pub front_first : (o : Option (List A × Unread)) → with_front [] o ≡ o
  front_first None = refl
  front_first (Some x) = refl
