use Rattle.int_types.proofs.RangeLemmas.{promoted_holds}
use Rattle.int_types.proofs.operations.promoted.Goals as goal

pub returns-clause-valid : goal.returns-clause-valid
returns-clause-valid c = let h = promoted_holds c.args.value.kind c.args.value.number c.requires in rw c.promote.ensures h
