use Rattle.build_store.proofs.KeptOrigins.{one_origin}
use Rattle.build_store.proofs.origin.one_origin_holds.Goals as goal

pub returns : goal.returns
returns c = one_origin
