use Rattle.build_store.proofs.TableOwners.{owner_is}
use Rattle.build_store.proofs.table_laws.headers_are_found.Goals as goal

pub returns : goal.returns
returns c = owner_is
