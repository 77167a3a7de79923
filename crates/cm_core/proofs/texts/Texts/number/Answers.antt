-- A text that the set has keeps its number, and another goes last.
use Rattle.std.proofs.Common.{string_bytes}
use Rattle.cm_core.proofs.TableLemmas.{given_after, Extends-numbered}
use Rattle.cm_core.proofs.TextLemmas.{IsDistinct-map, numbered-found, numbered-inserted}
use Rattle.cm_core.proofs.texts.Texts.number.Goals as goal

pub returns-in-Some-clause-number : goal.returns-in-Some-clause-number
returns-in-Some-clause-number c =
    rw (← c.self.view_is) (numbered-found string_bytes c.self.inside.set.keys c.args.text.now _ c.in-Some.ensures.index c.in-Some.ensures.found)

pub returns-in-Some-clause-given : goal.returns-in-Some-clause-given
returns-in-Some-clause-given c = given_after c.args.self.now _ _ _ (returns-in-Some-clause-number c)

pub returns-in-Some-clause-distinct : goal.returns-in-Some-clause-distinct
returns-in-Some-clause-distinct c = rw (← c.self.view_is) (IsDistinct-map string_bytes _ c.self.invariant)

pub returns-in_err-owned-clause-distinct : goal.returns-in_err-owned-clause-distinct
returns-in_err-owned-clause-distinct c = rw (← c.self.view_is) (IsDistinct-map string_bytes _ c.self.invariant)

pub returns-in_err-at-clause-distinct : goal.returns-in_err-at-clause-distinct
returns-in_err-at-clause-distinct c = IsDistinct-map string_bytes _ c.insert_full.ensures.unique

pub returns-clause-number : goal.returns-clause-number
returns-clause-number c =
    rw (← c.self.view_is) (numbered-inserted string_bytes c.self.inside.set.keys c.insert_full.new.self.keys c.in_ok-owned.owned c.args.text.now _ c.in_ok-owned.ensures.ok c.in_ok-at.ensures.index c.in_ok-at.ensures.keys)

pub returns-clause-given : goal.returns-clause-given
returns-clause-given c = given_after c.args.self.now _ _ _ (returns-clause-number c)

pub returns-clause-kept : goal.returns-clause-kept
returns-clause-kept c = Extends-numbered c.args.self.now _ _ (returns-clause-number c).1

pub returns-clause-distinct : goal.returns-clause-distinct
returns-clause-distinct c = IsDistinct-map string_bytes _ c.insert_full.ensures.unique
