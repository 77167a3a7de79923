-- Tokens compared pair by pair are lists of one length compared.
use Rattle.std.proofs.Common.{◌∙◌}
use Rattle.macro_sets.specs.ActiveMacros as spec
use Rattle.macro_sets.proofs.TokenLemmas.{list_all-zip}
use Rattle.macro_sets.proofs.definition.same_tokens.Goals as goal

pub returns-then-a-b : goal.returns-then-a-b
returns-then-a-b c = c.same_pairs.ensures ∙ list_all-zip spec.same_token c.args.a.now c.args.b.now c.if-a-b.true
