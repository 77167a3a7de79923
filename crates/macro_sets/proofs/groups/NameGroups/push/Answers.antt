-- The groups after a push are those of the map.
use Rattle.std.proofs.Common.{[], ◌∷◌, ◌++◌, string_bytes, ap, sym, ◌∙◌}
use Rattle.std.specs.Option.{option_copied_mut}
use Rattle.std.proofs.lemmas.Result.{err_from_is_err_and}
use Rattle.macro_sets.proofs.GroupLemmas.{groups_of, pushed_at, place_of_at, set_value_at-same, inserted, place_of_inserted}
use Rattle.macro_sets.proofs.groups.NameGroups.push.Goals as goal

pub returns-in_err-push-in-Some-clause-err : goal.returns-in_err-push-in-Some-clause-err
returns-in_err-push-in-Some-clause-err c =
    let p = err_from_is_err_and c.from_residual.result c.from_residual.ensures.1 in
    let stored = sym c.get_index_mut.ensures.value ∙ ap option_copied_mut c.unwrap-nodes.ensures in
    let same = set_value_at-same c.self.inside.map.entries c.in-Some.group c.unwrap-nodes.result.now stored in
    rw (p.1, c.in_err-push-in-Some.ensures.err) (ap (groups_of string_bytes c.args.name.now) same ∙ c.self.view_is)

pub returns-in_ok-push-in-Some-clause-place : goal.returns-in_ok-push-in-Some-clause-place
returns-in_ok-push-in-Some-clause-place c =
    let stored = sym c.get_index_mut.ensures.value ∙ ap option_copied_mut c.unwrap-nodes.ensures in
    rw (c.len-at.ensures, ← c.self.view_is) (place_of_at string_bytes c.args.name.now c.self.inside.map.entries c.in-Some.group _ c.in-Some.ensures.index stored)

pub returns-in_ok-push-in-Some-clause-pushed : goal.returns-in_ok-push-in-Some-clause-pushed
returns-in_ok-push-in-Some-clause-pushed c =
    let stored = sym c.get_index_mut.ensures.value ∙ ap option_copied_mut c.unwrap-nodes.ensures in
    rw (c.in_ok-push-in-Some.ensures.ok, ← c.self.view_is) (pushed_at string_bytes c.args.name.now c.args.node c.self.inside.map.entries c.in-Some.group _ c.in-Some.ensures.index stored)

pub returns-in_ok-group-in-None-clause-place : goal.returns-in_ok-group-in-None-clause-place
returns-in_ok-group-in-None-clause-place c =
    rw (← c.self.view_is) (place_of_inserted string_bytes c.args.name.now c.in_ok-from_str-in-None.field-0 c.self.inside.map.entries _ c.in_ok-from_str-in-None.ensures.ok c.in-None.ensures.found c.in_ok-group-in-None.ensures.index)

pub returns-in_ok-group-in-None-clause-pushed : goal.returns-in_ok-group-in-None-clause-pushed
returns-in_ok-group-in-None-clause-pushed c =
    let first = c.in_ok-push-in-None.ensures.ok ∙ ap (λ l. l ++ c.args.node ∷ []) c.new-nodes.ensures in
    rw (← c.self.view_is) (inserted string_bytes c.args.name.now c.args.node c.in_ok-from_str-in-None.field-0 c.self.inside.map.entries _ _ c.in_ok-from_str-in-None.ensures.ok c.in-None.ensures.found first c.in_ok-group-in-None.ensures.entries)
