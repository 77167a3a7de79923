-- A path that the set has keeps its number, and another goes last.
use Rattle.std.proofs.Common.{sym}
use Rattle.cm_core.proofs.TableLemmas.{position-given, Extends-numbered}
use Rattle.cm_core.proofs.files.Files.number.Goals as goal

pub returns-in-Some-clause-given : goal.returns-in-Some-clause-given
returns-in-Some-clause-given c = rw (← c.self.view_is) (position-given _ _ _ (sym c.in-Some.ensures.index))

pub returns-clause-kept : goal.returns-clause-kept
returns-clause-kept c =
    rw (← c.self.view_is) (Extends-numbered c.self.inside.paths.keys _ c.args.path.now (rw c.in_ok-copied.ensures at c.in_ok-at.ensures.keys))
