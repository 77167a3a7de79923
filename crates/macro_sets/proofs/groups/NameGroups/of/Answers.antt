-- The group of a name is what the map has for it.
use Rattle.std.proofs.Common.{string_bytes, ◌∙◌}
use Rattle.macro_sets.proofs.GroupLemmas.{group_of-found, group_of-none}
use Rattle.macro_sets.proofs.groups.NameGroups.of.Goals as goal

pub returns-in-Some : goal.returns-in-Some
returns-in-Some c =
    rw (← c.self.view_is) (c.items.ensures ∙ group_of-found string_bytes c.args.name.now c.self.inside.map.entries _ c.in-Some.ensures.value)

pub returns-in-None : goal.returns-in-None
returns-in-None c = rw (← c.self.view_is) (group_of-none string_bytes c.args.name.now c.self.inside.map.entries c.in-None.ensures.value)
