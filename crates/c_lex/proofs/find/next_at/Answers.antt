use Rattle.std.proofs.Common.{sym, arith}
use Rattle.c_lex.proofs.Search.{search_start, search_piece, search_more, cut_boundary, found_refused, found_named, found_more}
use Rattle.c_lex.proofs.find.next_at.Goals as goal

pub loop-cut-init : goal.loop-cut-init
loop-cut-init c = rw c.follows_line_end-spaced.ensures (search_start _ _ _ c.requires.boundary)

pub returns-in-Some-refusal_in-clause-found : goal.returns-in-Some-refusal_in-clause-found
returns-in-Some-refusal_in-clause-found c =
    let piece = search_piece _ _ _ _ _ c.in-Some.cut c.loop-cut.invariant (sym c.in-Some.ensures.cut) c.in-Some.ensures.inside in
    let refusal = rw (c.split_at-in-Some.ensures.front, c.split_at.ensures.back) at c.in-Some-refusal_in.ensures in
    found_refused _ _ _ _ refusal piece

pub returns-in-Token-clause-found : goal.returns-in-Token-clause-found
returns-in-Token-clause-found c =
    let piece = search_piece _ _ _ _ _ c.in-Some.cut c.loop-cut.invariant (sym c.in-Some.ensures.cut) c.in-Some.ensures.inside in
    let none = rw (c.split_at-in-Some.ensures.front, c.split_at.ensures.back) at c.in_default-refusal_in.ensures in
    found_named _ _ _ _ _ _ _ _ none c.in-Token.is piece

pub returns-in-Token-clause-bounds : goal.returns-in-Token-clause-bounds
returns-in-Token-clause-bounds c =
    (omega arith, c.loop-cut.invariant.boundary, cut_boundary _ _ c.in-Some.cut c.requires.utf8 c.loop-cut.invariant.boundary c.in-Some.ensures.inside)

pub loop-cut-preserved : goal.loop-cut-preserved
loop-cut-preserved c =
    let piece = search_piece _ _ _ _ _ c.in-Some.cut c.loop-cut.invariant (sym c.in-Some.ensures.cut) c.in-Some.ensures.inside in
    let none = rw (c.split_at-in-Some.ensures.front, c.split_at.ensures.back) at c.in_default-refusal_in.ensures in
    search_more _ _ _ _ _ c.in-Some.cut c.loop-cut.invariant c.requires.utf8 c.in-Some.ensures.inside (found_more _ _ _ _ _ _ _ none c.in_default-piece.not-Token piece)
