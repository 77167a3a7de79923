use Rattle.std.proofs.Common.{◌<◌, ◌≤◌, ◌-◌, length, sym, ◌∙◌, arith}
use Rattle.cm_source.proofs.Runs.{located-last, same_position}
use Rattle.cm_source.proofs.places.goes_on.Goals as goal

-- the run is the last one, and its place at `count` is `place`
pub returns-in-Some-clause-place : goal.returns-in-Some-clause-place
returns-in-Some-clause-place c =
    let item = c.in-Some.ensures.item in
    let some = item.3.0 in
    let last = length c.args.runs.now - 1 in
    let inside : last < length c.args.runs.now = omega (arith, some) in
    let begins = c.requires last c.in-Some.run'.now inside in
    let below : c.in-Some.run'.now.from ≤ c.args.count = rw item.1 (omega arith) in
    λ equal. located-last _ _ c.in-Some.run'.now some item.1 below ∙ sym c.shifted_place.ensures ∙ same_position _ _ (sym c.eq.ensures ∙ equal)
