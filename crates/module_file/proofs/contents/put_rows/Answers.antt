use Rattle.std.proofs.Common.{◌+◌, ◌≤◌, length, arith}
use Rattle.module_file.specs.Rows.{rows_put}
use Rattle.module_file.proofs.contents.put_rows.Goals as goal

pub returns : goal.returns
returns c =
    let ds = c.args.declarations.now in
    let le : length ds ≤ c.loop-at.at = omega arith in
    let e = rw c.in_ok-put_u64.ensures.put at c.loop-at.invariant in
    record { put = rows_put c.loop-at.out.items c.args.out.now.items (c.loop-at.at + 1) c.loop-at.at ds le e }
