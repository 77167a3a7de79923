use Rattle.build_store.proofs.TableOnce.{headers_once, names_once}
use Rattle.build_store.proofs.table_laws.modules_differ.Goals as goal

pub returns-clause-names : goal.returns-clause-names
returns-clause-names c = names_once

pub returns-clause-headers : goal.returns-clause-headers
returns-clause-headers c = headers_once
