use Rattle.std.proofs.Common.{◌≡◌, replicate}
use Rattle.build_store.specs.declared.decide.Choice.TheVariants.{Sources}
use Rattle.build_store.proofs.held.no_choices.Given as goal

abbrev pub invariant-loop : goal.invariant-loop
invariant-loop l = l.choices ≡ replicate l.counter Sources
