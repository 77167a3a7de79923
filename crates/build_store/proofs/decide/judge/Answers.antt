use Rattle.std.proofs.Common.{◌∙◌, refl, sym}
use Rattle.build_store.proofs.DecisionLemmas.{judged_other, all_same, judged_damaged}
use Rattle.build_store.proofs.decide.judge.Goals as goal

pub returns-in-At-clause-choice : goal.returns-in-At-clause-choice
returns-in-At-clause-choice g c f agrees =
    judged_other c.args.table.now c.args.index f c.items.result.now c.items.ensures c.in_ok-path.field-0 (c.in_ok-path.ensures.told f agrees) c.in-At.path c.built.result c.in-At.is c.built.ensures

pub returns-then-fits-clause-choice : goal.returns-then-fits-clause-choice
returns-then-fits-clause-choice g c f agrees = (
  refl,
  sym c.fits.ensures ∙ c.if-fits.true,
  all_same c.args.table.now c.args.index f c.items.result.now c.items.ensures c.in_ok-path.field-0 (c.in_ok-path.ensures.told f agrees) c.in-Same.numbers c.in-Same.is,
)

pub returns-else-fits-clause-choice : goal.returns-else-fits-clause-choice
returns-else-fits-clause-choice g c f agrees =
    judged_damaged c.args.table.now c.args.index f c.items.result.now c.items.ensures c.in_ok-path.field-0 (c.in_ok-path.ensures.told f agrees) c.in-Same.numbers c.built-else-fits.result c.in-Same.is
    (sym c.fits.ensures ∙ c.if-fits.false) c.built-else-fits.ensures
