use Rattle.std.proofs.Common.{refl}
use Rattle.cm_source.specs.Runs.{places_of}
use Rattle.cm_source.proofs.places.Places.new.Goals as goal

pub returns : goal.returns
unfolding places_of
returns c = refl
