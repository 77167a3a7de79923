use Rattle.std.proofs.Common.{◌+◌, ◌*◌, ◌^◌, ◌≤◌, get_or, sym, arith}
use Rattle.pp_cond.specs.Numbers.{digit}
use Rattle.pp_cond.proofs.NumberLemmas.{too_big}
use Rattle.pp_cond.proofs.numbers.number.Goals as goal

pub returns-then-from-next : goal.returns-then-from-next
returns-then-from-next c =
    let past = rw (c.from.ensures, c.from-in-loop-byte.ensures, c.from-in-loop-byte-2.ensures, c.digit.ensures.value, c.from-in-loop-byte-3.ensures) at c.if-from-next.true in
    let limit : 2 ^ 64 ≤ c.loop-byte.number * c.args.base + digit (get_or c.args.digits.now c.loop-byte.byte-index 0) = omega arith in
    sym (too_big c.args.base c.loop-byte.byte-index c.loop-byte.number c.args.digits.now c.requires.least c.loop-byte-test.true c.loop-byte.invariant.1 limit)
