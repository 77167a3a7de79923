use Rattle.unit_fold.specs.Told.{told}
use Rattle.unit_fold.proofs.ReadLemmas.{pauses_for_text, pauses_at_end, pauses_at_include}
use Rattle.unit_fold.proofs.progress.Progress.read_on.Goals as goal

pub returns-in-Ends-clause-pauses : goal.returns-in-Ends-clause-pauses
returns-in-Ends-clause-pauses c = pauses_for_text _ c.args.owner (told c.read_tokens.new.self) c.for_text.result (rw c.in-Ends.is at c.in_ok-read_tokens.ensures.end) c.for_text.ensures

pub returns-in-Stops-clause-pauses : goal.returns-in-Stops-clause-pauses
returns-in-Stops-clause-pauses c = pauses_at_end _ c.args.owner (told c.read_tokens.new.self) c.at_end.result (rw c.in-Stops.is at c.in_ok-read_tokens.ensures.end) c.at_end.ensures

pub returns-in-Includes-clause-pauses : goal.returns-in-Includes-clause-pauses
returns-in-Includes-clause-pauses c = pauses_at_include _ c.args.owner (told c.read_tokens.new.self) c.in-Includes.include.name _ (rw c.in-Includes.is at c.in_ok-read_tokens.ensures.end)
