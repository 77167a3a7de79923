-- The work list begins with what is imported, goes on with what the next one shows, and at its end all that is shown is found.
use Rattle.std.proofs.Common.{◌<◌, sym, subst, length, get_or, arith}
use Rattle.cm_core.specs.declared.numbers.SubNo.{SubNo}
use Rattle.export_closure.specs.Closure.{shows}
use Rattle.export_closure.specs.Found.{Adds}
use Rattle.export_closure.proofs.FoundLemmas.{tracks_new, under_way_at_start, under_way_at_end, under_way_next, sub_within, done_within}
use Rattle.export_closure.proofs.work_list.closure.Goals as goal

pub add-requires-clause-tracks : goal.add-requires-clause-tracks
add-requires-clause-tracks c = tracks_new (length c.args.rows.now) c.in_ok-members.members c.in_ok-members.ensures.none c.in_ok-members.ensures.empty

pub loop-done-init : goal.loop-done-init
loop-done-init c =
    under_way_at_start c.args.rows.now c.args.from.index c.in_ok-members.members c.add.new.self c.requires.from
    c.in_ok-members.ensures.none c.in_ok-members.ensures.empty c.in_ok-add.ensures.adds c.in_ok-add.ensures.tracks

pub add_shown-requires-clause-within : goal.add_shown-requires-clause-within
add_shown-requires-clause-within c =
    let more : c.loop-done.done < length c.loop-done.members.found.items = omega (arith, c.loop-done-test.true, c.len.ensures) in
    let P : SubNo → Type 0 = λ s. s.index < length c.args.rows.now in
    subst P (sym c.index-sub.ensures) (sub_within c.args.rows.now c.args.from.index c.loop-done.members c.loop-done.done c.index-sub.result.now c.loop-done.invariant more)

pub loop-done-smaller : goal.loop-done-smaller
loop-done-smaller c =
    let more : c.loop-done.done < length c.loop-done.members.found.items = omega (arith, c.loop-done-test.true, c.len.ensures) in
    let within = done_within c.args.rows.now c.args.from.index c.loop-done.members c.loop-done.done c.loop-done.invariant more in
    omega arith

pub loop-done-preserved : goal.loop-done-preserved
loop-done-preserved c =
    let more : c.loop-done.done < length c.loop-done.members.found.items = omega (arith, c.loop-done-test.true, c.len.ensures) in
    let sub = get_or c.loop-done.members.found.items c.loop-done.done c.index-sub.result.now in
    let adds : Adds c.loop-done.members c.add_shown.new.self (shows c.args.rows.now sub.index) =
    (let P : SubNo → Type 0 = λ s. Adds c.loop-done.members c.add_shown.new.self (shows c.args.rows.now s.index) in
    subst P c.index-sub.ensures c.in_ok-add_shown.ensures.adds) in
    under_way_next c.args.rows.now c.args.from.index c.loop-done.members c.add_shown.new.self c.loop-done.done c.index-sub.result.now c.loop-done.invariant more adds
    c.in_ok-add_shown.ensures.tracks

pub returns : goal.returns
returns c =
    under_way_at_end c.args.rows.now c.args.from.index c.loop-done.members c.loop-done.done c.loop-done.invariant (omega (arith, c.loop-done-test.false, c.len.ensures))
