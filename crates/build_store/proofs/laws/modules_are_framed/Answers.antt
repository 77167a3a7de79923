use Rattle.cm_outside.specs.Asks.{frame_value, frame_asked, frame_begun}
use Rattle.build_store.specs.Modules.{mod_of}
use Rattle.build_store.proofs.laws.modules_are_framed.Goals as goal

pub returns-clause-value : goal.returns-clause-value
returns-clause-value g c p t u chain m h = frame_value (mod_of p chain m) t u h

pub returns-clause-asked : goal.returns-clause-asked
returns-clause-asked g c p t u chain m h = frame_asked (mod_of p chain m) t u h

pub returns-clause-begun : goal.returns-clause-begun
returns-clause-begun g c p t u chain m h = frame_begun (mod_of p chain m) t u h
