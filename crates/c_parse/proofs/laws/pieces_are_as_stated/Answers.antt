use Rattle.c_parse.proofs.PieceLaws.{are_pieces, only_pieces}
use Rattle.c_parse.proofs.laws.pieces_are_as_stated.Goals as goal

pub returns-clause-are : goal.returns-clause-are
returns-clause-are c names tokens = are_pieces names tokens

pub returns-clause-only : goal.returns-clause-only
returns-clause-only c names tokens parts are = only_pieces names tokens parts are
