use Rattle.std.proofs.Common.{◌≡◌, ◌∙◌, subst, List}
use Rattle.std.proofs.lemmas.List.{at_drop_all}
use Rattle.cm_outside.specs.Trees.{Path}
use Rattle.cm_outside.specs.Caches.{names_in, names_onto, InByteOrder}
use Rattle.cm_outside.proofs.SortedNames.{names_in_order}
use Rattle.cm_outside.proofs.cached_files.file_names.Goals as goal

pub returns-clause-ordered : goal.returns-clause-ordered
returns-clause-ordered c =
    let all : names_in c.args.files.now ≡ c.loop-name.names.items =
    c.loop-name.invariant ∙ at_drop_all (names_onto c.loop-name.names.items) c.args.files.now c.loop-name.name-index c.loop-name-test.false in
    let F : List Path → Type 0 = InByteOrder in
    subst F all (names_in_order c.args.files.now)
