use Rattle.std.proofs.Common.{◌≡◌, ◌<◌, ◌∙◌, ℕ, List, [], Some, ap, subst, refl, length, slice_get, get_or}
use Rattle.std.proofs.lemmas.Option.{slice_get_read}
use Rattle.std.specs.Option.{option_map_or}
use Rattle.build_store.specs.Parts.{part_of}
use Rattle.build_store.specs.Targets.{header_of}
use Rattle.build_store.specs.Walks.{IsWay, owner_far}
use Rattle.build_store.specs.declared.table.Target.{Target}
use Rattle.build_store.specs.declared.walk.Way.{Way}
use Rattle.build_store.specs.declared.walk.Way.TheVariants.{Cyclic as WayCyclic}
use Rattle.build_store.proofs.WalkEvents.{header_needs, header_cyclic, header_done}
use Rattle.build_store.proofs.walk.walk_header.Goals as goal

-- the header of an item of a table
header_at : (targets items : List Target) (number : ℕ) (target : Target) → items ≡ targets → number < length targets → target ≡ get_or items number target
    → option_map_or (λ (m : Target). m.header) (slice_get targets number) [] ≡ (get_or items number target).header
header_at targets items number target same within is =
    let here : target ≡ get_or targets number target = subst (λ (ts : List Target). target ≡ get_or ts number target) same is in
    ap (λ o. option_map_or (λ (m : Target). m.header) o []) (slice_get_read targets (length targets) number target refl within here) ∙ ap (λ (m : Target). m.header) is

pub returns-in-Needs-clause-walk : goal.returns-in-Needs-clause-walk
returns-in-Needs-clause-walk g c t agrees of are =
    let h = c.args.held.now in
    let m = c.args.number in
    let new = g.K.Keeper.records c.walk_owner.new.tree.kept in
    let before = c.args.numbers.now in
    let now = c.walk_owner.new.numbers in
    let path = (get_or c.items.result.now m c.index-items-number.result).header in
    let header : header_of h.table m ≡ path = header_at h.table.targets c.items.result.now m c.index-items-number.result c.items.ensures c.requires.number c.index-items-number.is in
    let far = owner_far h t (Some m) path in
    header_needs h t new before now m path header c.in-Needs.number (subst (λ (way : Way). IsWay new h t (Some m) path before now far way) c.in-Needs.is (c.in_ok-number.ensures.way t agrees are)).0

pub returns-in-Cyclic-clause-walk : goal.returns-in-Cyclic-clause-walk
returns-in-Cyclic-clause-walk g c t agrees of are =
    let h = c.args.held.now in
    let m = c.args.number in
    let new = g.K.Keeper.records c.walk_owner.new.tree.kept in
    let before = c.args.numbers.now in
    let now = c.walk_owner.new.numbers in
    let path = (get_or c.items.result.now m c.index-items-number.result).header in
    let header : header_of h.table m ≡ path = header_at h.table.targets c.items.result.now m c.index-items-number.result c.items.ensures c.requires.number c.index-items-number.is in
    let far = owner_far h t (Some m) path in
    let cyclic : IsWay new h t (Some m) path before now far WayCyclic = subst (λ (way : Way). IsWay new h t (Some m) path before now far way) c.in-Cyclic.is (c.in_ok-number.ensures.way t agrees are) in
    header_cyclic h t new before now m path header cyclic.0 cyclic.1

pub returns-clause-walk : goal.returns-clause-walk
returns-clause-walk g c t agrees of are =
    let h = c.args.held.now in
    let m = c.args.number in
    let new = g.K.Keeper.records c.walk_owner.new.tree.kept in
    let before = c.args.numbers.now in
    let now = c.walk_owner.new.numbers in
    let path = (get_or c.items.result.now m c.index-items-number.result).header in
    let header : header_of h.table m ≡ path = header_at h.table.targets c.items.result.now m c.index-items-number.result c.items.ensures c.requires.number c.index-items-number.is in
    let far = owner_far h t (Some m) path in
    header_done h t new before now m path header (of.table t (c.in_ok-number.ensures.went.back t agrees)) c.in-Done.items c.in_ok-part_of-in-Done.field-0
    (c.in_ok-part_of-in-Done.ensures ∙ ap part_of c.items-in-Done-2.ensures)
    (subst (λ (way : Way). IsWay new h t (Some m) path before now far way) c.in-Done.is (c.in_ok-number.ensures.way t agrees are))
