-- The names after a push are those of the map.
use Rattle.std.proofs.Common.{string_bytes, ◌∙◌, sym}
use Rattle.build_store.proofs.NameNumbers.{there, inserted}
use Rattle.build_store.proofs.name_index.NameIndex.push.Goals as goal

pub returns-then-contains_key : goal.returns-then-contains_key
returns-then-contains_key c =
    rw (← c.self.view_is) (there string_bytes c.args.name.now c.args.number c.self.inside.map.entries (sym c.if-contains_key.true ∙ c.contains_key.ensures))

pub returns : goal.returns
returns c =
    rw (← c.self.view_is, c.in_ok-insert.ensures.entries) (inserted string_bytes c.args.name.now c.args.number c.in_ok-from_str.field-0 c.self.inside.map.entries c.in_ok-from_str.ensures.ok (sym c.if-contains_key.false ∙ c.contains_key.ensures))
