use Rattle.std.proofs.Common.{◌≡◌, ◌<◌, ◌^◌, ◌+◌, [], ◌∷◌, length, ap, arith}
use Rattle.c_parse.specs.Pieces.{depth, depth_after}
use Rattle.c_parse.specs.Cuts.{HasSeen}
use Rattle.c_parse.proofs.DepthLemmas.{depth_bound}
use Rattle.c_parse.proofs.cut.Cut.step.Goals as goal

pub returns-then-ends_with-clause-after : goal.returns-then-ends_with-clause-after
returns-then-ends_with-clause-after c before follows few = c.new.ensures [] few

-- the depth is not cut short: there are fewer tokens
pub returns-clause-after : goal.returns-clause-after
returns-clause-after c before follows few =
    let fewer : length before + 1 < 2 ^ 64 = omega (arith, few) in
    let seen : HasSeen before c.args.self.now = follows (omega arith) in
    let low = depth_bound (c.args.role ∷ before) in
    let same : depth_after c.args.role c.args.self.now.depth ≡ depth (c.args.role ∷ before) = ap (depth_after c.args.role) seen.depth in
    let exact : c.depth_after-depth.result ≡ depth (c.args.role ∷ before) = omega (arith, c.depth_after-depth.ensures, same, low) in
    c.add.ensures before seen exact
