use Rattle.std.proofs.Common.{refl, sym, ◌∙◌, rules, arith}
use Rattle.std.proofs.lemmas.Grind.{common_steps}
use Rattle.map_grammar.proofs.Loops.{loop_start, loop_next, loop_ends, loop_fails}
use Rattle.map_grammar.proofs.inferred.export_stars.Goals as goal

pub loop-found-init : goal.loop-found-init
loop-found-init c = rw c.new-found.ensures (loop_start _ _ _)

pub returns-in_err-export_star-clause-read : goal.returns-in_err-export_star-clause-read
returns-in_err-export_star-clause-read c =
    let fails = loop_fails _ _ _ _ _ _ refl c.loop-found.invariant (sym c.is_inside.ensures ∙ c.loop-found-test.true) in
    first_of (search rules, grind (arith, common_steps))

pub loop-found-preserved : goal.loop-found-preserved
loop-found-preserved c =
    rw c.in_ok-push.ensures.ok
    (loop_next _ _ _ _ _ _ _ _ c.loop-found.invariant (sym c.is_inside.ensures ∙ c.loop-found-test.true) c.in_ok-export_star.ensures.read c.in_ok-export_star.ensures.shorter)

pub returns-clause-read : goal.returns-clause-read
returns-clause-read c = loop_ends _ _ _ _ _ _ c.loop-found.invariant (sym c.is_inside.ensures ∙ c.loop-found-test.false)
