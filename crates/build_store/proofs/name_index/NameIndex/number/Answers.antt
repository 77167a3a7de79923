-- What is found of a name is what the map has for it.
use Rattle.std.proofs.Common.{string_bytes, sym, ◌∙◌}
use Rattle.build_store.proofs.NameNumbers.{number_in-lookup}
use Rattle.build_store.proofs.name_index.NameIndex.number.Goals as goal

pub returns : goal.returns
returns c =
    rw (← c.self.view_is) (c.copied.ensures ∙ c.get.ensures.value ∙ sym (number_in-lookup string_bytes c.args.name.now c.self.inside.map.entries))
