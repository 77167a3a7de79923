-- Where the bytes themselves found no room, eight bytes were put before them.
use Rattle.std.proofs.Common.{length, ap, arith, length-append}
use Rattle.cm_wire.proofs.Forms.{length-spell_u64}
use Rattle.cm_wire.proofs.put.put_bytes.Goals as goal

pub returns-in-Err-clause-full : goal.returns-in-Err-clause-full
returns-in-Err-clause-full c =
    let grown = simp (length-append, length-spell_u64) at (ap length c.in_ok-put_u64.ensures.put) in
    omega (arith, c.in-Err.ensures.full, grown, c.args.out.now.ok.0, c.put_u64.new.out.ok.0, c.put_u64.ensures.capacity)
