use Rattle.std.proofs.Common.{sym, subst, List, String, Global, string_bytes}
use Rattle.std.specs.Prelude.{IsSorted}
use Rattle.std.specs.Ordering.{nat_cmp}
use Rattle.std.specs.Cmp.Lexicographic.{slice_cmp}
use Rattle.modc.proofs.InOrder.{bytes_in_order}
use Rattle.modc.proofs.cache_files.file_names.Goals as goal

pub returns : goal.returns
returns g c =
    let F : List (String Global) → Type 0 = IsSorted (λ x y. slice_cmp nat_cmp (string_bytes x) (string_bytes y)) in
    bytes_in_order (λ texts. texts.items) c.texts.result c.deref.result.now c.texts.ensures (subst F (sym c.deref.ensures.value) c.in_ok-sort.ensures.sorted)
