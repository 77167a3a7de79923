-- The part of a module, item by item.
use Rattle.std.proofs.Common.{◌≡◌, ℕ, ◌+◌, ◌<◌, List, [], ◌∷◌, ◌++◌, length, take, get_or, refl, sym, ap, ◌∙◌}
use Rattle.std.specs.List.{flat_map}
use Rattle.std.proofs.lemmas.Grind.{flat_map-append}
use Rattle.std.proofs.lemmas.List.{append-nil, take_more}
use Rattle.unit_fold.specs.declared.item.Item.{Item}
use Rattle.unit_fold.specs.declared.item.Item.TheVariants.{Object, Pointer, Import, Fault}
use Rattle.build_store.specs.Parts.{fault_in, import_in, object_in, part_of}
use Rattle.build_store.specs.Walks.{with_item}

no_more : {A : Type 0} (f : Item → List A) (xs : List Item) (item : Item) → f item ≡ [] → flat_map f (xs ++ item ∷ []) ≡ flat_map f xs
no_more f xs item none = flat_map-append f xs (item ∷ []) ∙ ap (λ ys. flat_map f xs ++ (ys ++ [])) none ∙ append-nil (flat_map f xs)

-- one item more
pub part_more : (xs : List Item) (item : Item) → part_of (xs ++ item ∷ []) ≡ with_item (part_of xs) item
part_more xs (Object n) = λ i. record {
  objects = flat_map-append object_in xs (Object n ∷ []) i;
  imports = no_more import_in xs (Object n) refl i;
  faults = no_more fault_in xs (Object n) refl i;
}
part_more xs (Pointer n) = λ i. record {
  objects = no_more object_in xs (Pointer n) refl i;
  imports = no_more import_in xs (Pointer n) refl i;
  faults = no_more fault_in xs (Pointer n) refl i;
}
part_more xs (Import m at) = λ i. record {
  objects = no_more object_in xs (Import m at) refl i;
  imports = flat_map-append import_in xs (Import m at ∷ []) i;
  faults = no_more fault_in xs (Import m at) refl i;
}
part_more xs (Fault d) = λ i. record {
  objects = no_more object_in xs (Fault d) refl i;
  imports = no_more import_in xs (Fault d) refl i;
  faults = flat_map-append fault_in xs (Fault d ∷ []) i;
}

-- the item of an index
pub part_past : (items : List Item) (k : ℕ) (item : Item) → k < length items → item ≡ get_or items k item → part_of (take (k + 1) items) ≡ with_item (part_of (take k items)) item
part_past items k item within is =
    ap part_of (take_more items k item within ∙ ap (λ x. take k items ++ x ∷ []) (sym is)) ∙ part_more (take k items) item
