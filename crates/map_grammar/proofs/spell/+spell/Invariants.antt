use Rattle.std.proofs.Common.{◌≡◌, ◌++◌, take}
use Rattle.std.specs.List.{flat_map}
use Rattle.map_grammar.specs.Spelling.{member_spelling}
use Rattle.map_grammar.proofs.spell.+spell.Given as goal

abbrev pub invariant-spell_members-loop-member : goal.invariant-spell_members-loop-member
invariant-spell_members-loop-member l = l.out.items ≡ l.initial.out.items ++ flat_map member_spelling (take l.member-index l.members)
