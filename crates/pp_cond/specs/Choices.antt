-- Conditional expressions that follow one another, read from the left: what their last operand then makes
-- of them. Own: no public promise cites this.
use Rattle.std.specs.Prelude.{Bool, false, ◌||◌, Option, Some, None, if◌then◌else◌}
use Rattle.int_types.specs.declared.values.Value.{Value}
use Rattle.pp_cond.specs.declared.outcome.Outcome.{Outcome}
use Rattle.pp_cond.specs.declared.choices.Choices.{Choices}
use Rattle.pp_cond.specs.declared.choices.Choices.TheVariants.{Nothing, Open, Decided}
use Rattle.pp_cond.specs.Outcomes.{is_unsigned, value_of, seen_as, is_nonzero}

abbrev pub decided_by : Bool → Option Value → Outcome → Choices
decided_by unsigned None a = Decided unsigned (seen_as false None)
decided_by unsigned (Some x) a = if is_nonzero x then Decided unsigned a else Open unsigned

unfoldable pub followed_by : Choices → Outcome → Outcome → Choices
followed_by Nothing c a = decided_by (is_unsigned a) (value_of c) a
followed_by (Open unsigned) c a = decided_by (unsigned || is_unsigned a) (value_of c) a
followed_by (Decided unsigned d) c a = Decided (unsigned || is_unsigned a) d

unfoldable pub ending_in : Choices → Outcome → Outcome
ending_in Nothing b = b
ending_in (Open unsigned) b = seen_as (unsigned || is_unsigned b) (value_of b)
ending_in (Decided unsigned d) b = seen_as (unsigned || is_unsigned b) (value_of d)
