use Rattle.std.proofs.Common.{sym, subst, List, []}
use Rattle.std.proofs.lemmas.List.Elements.{All-nil}
use Rattle.c_parse.specs.declared.role.Role.{Role}
use Rattle.c_parse.specs.Cuts.{Follows}
use Rattle.c_parse.specs.Pieces.{pieces}
use Rattle.c_parse.proofs.NameLaws.{IsNamed, same_roles, same_pieces}
use Rattle.c_parse.proofs.laws.pieces_keep_with_more_names.Goals as goal

pub returns-clause-cut : goal.returns-clause-cut
returns-clause-cut c names more tokens cut extends named after =
    let F : List Role → Type 0 = λ rs. Follows rs cut in
    subst F (sym (same_roles names more extends tokens named)) after

pub returns-clause-pieces : goal.returns-clause-pieces
unfolding pieces
returns-clause-pieces c names more tokens extends named =
    same_pieces names more extends [] tokens (All-nil (IsNamed names more extends)) named
