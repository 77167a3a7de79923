use Rattle.c_parse.proofs.EndLaws.{ends_decided}
use Rattle.c_parse.proofs.laws.ends_are_as_stated.Goals as goal

pub returns : goal.returns
returns c roles = ends_decided roles
