use Rattle.std.proofs.Common.{refl, sym, ◌∙◌, rules, arith}
use Rattle.std.proofs.lemmas.Grind.{common_steps}
use Rattle.map_grammar.proofs.MemberSteps.{member_module, member_simple}
use Rattle.map_grammar.proofs.Loops.{loop_start, loop_next, loop_ends, loop_fails}
use Rattle.map_grammar.proofs.modules.+modules.Goals as goal

pub members-loop-alloc-init : goal.members-loop-alloc-init
members-loop-alloc-init t c = rw c.new-found.ensures (loop_start _ _ _)

pub members-returns-in_err-member-clause-read : goal.members-returns-in_err-member-clause-read
members-returns-in_err-member-clause-read t c =
    let fails = loop_fails _ _ _ _ _ _ refl c.loop-alloc.invariant (sym c.is_inside.ensures ∙ c.loop-alloc-test.true) in
    first_of (search rules, grind (arith, common_steps))

pub members-loop-alloc-preserved : goal.members-loop-alloc-preserved
members-loop-alloc-preserved t c =
    rw c.in_ok-push.ensures.ok
    (loop_next _ _ _ _ _ _ _ _ c.loop-alloc.invariant (sym c.is_inside.ensures ∙ c.loop-alloc-test.true) c.in_ok-member.ensures.read c.in_ok-member.ensures.shorter)

pub members-returns-clause-read : goal.members-returns-clause-read
members-returns-clause-read t c = loop_ends _ _ _ _ _ _ c.loop-alloc.invariant (sym c.is_inside.ensures ∙ c.loop-alloc-test.false)

pub member-returns-then-begins_module-clause-read : goal.member-returns-then-begins_module-clause-read
member-returns-then-begins_module-clause-read t c =
    rw (member_module c.args.depth c.args.words.now (omega arith) (sym c.begins_module.ensures ∙ c.if-begins_module.true)) c.submodule.ensures.read

pub member-returns-else-begins_module-clause-read : goal.member-returns-else-begins_module-clause-read
member-returns-else-begins_module-clause-read t c =
    rw (member_simple c.args.depth c.args.words.now (omega arith) (sym c.begins_module.ensures ∙ c.if-begins_module.false)) c.simple_member.ensures.read
