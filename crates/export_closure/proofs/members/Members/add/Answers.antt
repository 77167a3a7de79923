-- What is new stands behind the others, and its flag is set.
use Rattle.std.proofs.Common.{◌∙◌, sym}
use Rattle.export_closure.proofs.FoundLemmas.{tracks_put}
use Rattle.export_closure.proofs.members.Members.add.Goals as goal

pub returns-clause-tracks : goal.returns-clause-tracks
returns-clause-tracks c =
    tracks_put c.args.self.now _ c.args.sub c.requires.within c.requires.tracks (sym c.has.ensures ∙ c.if-has.false) c.put.ensures c.in_ok-push.ensures.items
