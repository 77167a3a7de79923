use Rattle.std.proofs.Common.{◌≡◌, ◌<◌, ◌-◌, leb, sym, ◌∙◌, ap, arith, rules, length, get_or}
use Rattle.std.proofs.lemmas.List.Sorted.{IsPartitionPoint-from_clause, IsPartitionedBy-leb}
use Rattle.cm_source.specs.declared.places.Run.{Run}
use Rattle.cm_source.specs.Places.{start, shifted}
use Rattle.cm_source.specs.Runs.{places_of}
use Rattle.cm_source.proofs.Runs.{Found, found, length-places_of, get_or-places_of}
use Rattle.cm_source.proofs.places.Places.get.Goals as goal
use Rattle.cm_source.proofs.places.Places.get.Goals.{After-partition_point-after}

below : (c : After-partition_point-after) → c.args.at < c.self.inside.count
below c = let e = ap length c.self.view_is in omega (arith, length-places_of c.self.inside.runs.items c.self.inside.count)

-- what the search found
search_found : (c : After-partition_point-after) → Found c.self.inside.runs.items c.args.at c.partition_point-after.result
search_found c =
    let parted = IsPartitionedBy-leb (λ (r : Run). r.from) _ c.args.at c.self.invariant.ascending in
    let parted_there = rw (← c.deref.ensures.value) at parted in
    let point = IsPartitionPoint-from_clause (λ (r : Run). leb r.from c.args.at) _ _ c.partition_point-after.ensures.partitioned parted_there (λ a r q k. search rules) in
    let point_here = rw c.deref.ensures.value at point in
    found _ _ _ _ c.self.invariant (below c) (omega (arith, c.partition_point-after.ensures.bound, ap length c.deref.ensures.value)) point_here

pub overflow_sub-after : goal.overflow_sub-after
overflow_sub-after c = (search_found c).some

pub index-run-requires : goal.index-run-requires
index-run-requires c =
    let f = search_found (goal.at.index-run-requires c).After-partition_point-after in
    omega (arith, f.some, f.within, c.self.inside.runs.ok.0)

pub overflow_sub-at : goal.overflow_sub-at
overflow_sub-at c =
    let f = search_found (goal.at.overflow_sub-at c).After-partition_point-after in
    rw (c.index-run.ensures) (f.here c.index-run.result.now)

pub returns : goal.returns
unfolding places_of
returns c =
    let f = search_found (goal.at.returns c).After-partition_point-after in
    let run = c.index-run.ensures in
    let place = f.place c.index-run.result.now in
    let read = get_or-places_of c.self.inside.runs.items c.self.inside.count c.args.at start (below (goal.at.returns c).After-partition_point-after) in
    let shown = c.shifted_place.ensures in
    let run_is : shifted c.index-run.result.now.first (c.args.at - c.index-run.result.now.from) ≡ shifted (get_or c.self.inside.runs.items (c.partition_point-after.result - 1) c.index-run.result.now).first (c.args.at - (get_or c.self.inside.runs.items (c.partition_point-after.result - 1) c.index-run.result.now).from) = ap (λ (r : Run). shifted r.first (c.args.at - r.from)) run in
    rw (← c.self.view_is) (shown ∙ run_is ∙ sym place ∙ sym read)
