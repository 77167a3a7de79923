use Rattle.std.proofs.Common.{◌<◌, sym, subst}
use Rattle.build_store.proofs.walk.imported_step.Goals as goal

pub brought-requires-clause-within : goal.brought-requires-clause-within
brought-requires-clause-within c = subst (λ n. c.args.number < n) (sym c.requires.places.library.places) c.requires.number
