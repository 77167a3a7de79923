-- Two of the active `#define`s differ exactly where one differs from the first.
use Rattle.macro_sets.proofs.LawLemmas.{ambiguous-differ}
use Rattle.macro_sets.proofs.laws.ambiguous_where_two_differ.Goals as goal

pub returns-clause-two : goal.returns-clause-two
returns-clause-two c = ambiguous-differ
