-- What turns need of the modules of what is held.
use Rattle.std.proofs.Common.{ℕ, List, length, None, arith}
use Rattle.build_store.specs.Held.{HasPlaces, setting_of_held}
use Rattle.build_store.specs.Memo.{IsNamed}
use Rattle.build_store.specs.Needs.{met}
use Rattle.build_store.specs.Owners.{Setting, plan_of, unit_needs}
use Rattle.build_store.specs.Stores.{HasSlots}
use Rattle.build_store.specs.declared.held.Held.{Held}
use Rattle.build_store.proofs.ListLemmas.{every_at}
use Rattle.build_store.proofs.OwnerLemmas.{IsOther_of, every_met_import, unit_imports}
use Rattle.build_store.proofs.PlanLemmas.{in_range, of_top}

-- each module of the table has a slot
pub slots_of : (h : Held) → HasPlaces h → HasSlots h
slots_of h places m top = let within = of_top (setting_of_held h) m top in omega (arith, places.slots, within)

pub unit_fold_named : (s : Setting) (unit : List ℕ) → IsNamed (plan_of s) (unit_needs s unit)
unfolding plan_of
unit_fold_named s unit = record {
  named = λ t brings x e.
      (let P : ℕ → Type 0 = λ y. IsOther_of s None y in
      in_range (length s.table.targets) x (every_at P (met (unit_needs s unit) t brings) (every_met_import P (unit_needs s unit) t brings (unit_imports s unit)) x e).0);
}
