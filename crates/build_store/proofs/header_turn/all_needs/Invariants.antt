use Rattle.std.proofs.Common.{◌≡◌, take}
use Rattle.std.specs.List.{flat_map}
use Rattle.build_store.specs.Headers.{needs_found}
use Rattle.build_store.proofs.header_turn.all_needs.Given as goal

abbrev pub invariant-loop-name : goal.invariant-loop-name
invariant-loop-name l = l.needs ≡ flat_map (needs_found l.held) (take l.name-index l.names)
