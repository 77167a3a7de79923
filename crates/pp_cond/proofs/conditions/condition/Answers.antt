use Rattle.std.proofs.Common.{◌≡◌, ◌∙◌, ap}
use Rattle.pp_cond.specs.Conditions.{symbols_of}
use Rattle.pp_cond.specs.Readers.{judged}
use Rattle.pp_cond.proofs.JudgeLaws.{has_truth, has_no_truth}
use Rattle.pp_cond.proofs.conditions.condition.Goals as goal

pub returns-in-Some-clause-ok : goal.returns-in-Some-clause-ok
returns-in-Some-clause-ok c =
    let same : c.deref.result.now ≡ symbols_of c.args.names.now c.args.tokens.now = c.deref.ensures.value ∙ c.in_ok-symbols.ensures in
    has_truth (symbols_of c.args.names.now c.args.tokens.now) c.in-Some.is_true (c.in-Some.ensures ∙ ap judged same)

pub returns-clause-bad : goal.returns-clause-bad
returns-clause-bad c is_bad =
    let same : c.deref.result.now ≡ symbols_of c.args.names.now c.args.tokens.now = c.deref.ensures.value ∙ c.in_ok-symbols.ensures in
    has_no_truth (symbols_of c.args.names.now c.args.tokens.now) (c.in-None.ensures ∙ ap judged same)
