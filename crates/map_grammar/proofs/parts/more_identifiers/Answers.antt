use Rattle.std.proofs.Common.{refl, sym, ◌∙◌, rules, arith}
use Rattle.std.proofs.lemmas.Grind.{common_steps}
use Rattle.map_grammar.proofs.Loops.{loop_start_with, loop_next, loop_ends, loop_fails}
use Rattle.map_grammar.proofs.parts.more_identifiers.Goals as goal

pub loop-alloc-init : goal.loop-alloc-init
loop-alloc-init c = rw c.in_ok-push.ensures.ok (rw c.new-found.ensures (loop_start_with _ _ _ _))

pub returns-in_err-next_identifier-clause-read : goal.returns-in_err-next_identifier-clause-read
returns-in_err-next_identifier-clause-read c =
    let fails = loop_fails _ _ _ _ _ _ refl c.loop-alloc.invariant (sym c.sees.ensures ∙ c.loop-alloc-test.true) in
    first_of (search rules, grind (arith, common_steps))

pub loop-alloc-preserved : goal.loop-alloc-preserved
loop-alloc-preserved c =
    rw c.in_ok-push-2.ensures.ok
    (loop_next _ _ _ _ _ _ _ _ c.loop-alloc.invariant (sym c.sees.ensures ∙ c.loop-alloc-test.true) c.in_ok-next_identifier.ensures.read c.in_ok-next_identifier.ensures.shorter)

pub returns-clause-read : goal.returns-clause-read
returns-clause-read c = loop_ends _ _ _ _ _ _ c.loop-alloc.invariant (sym c.sees.ensures ∙ c.loop-alloc-test.false)
