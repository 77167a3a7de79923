-- Values and their conversion: C11 6.3.1.2 and 6.3.1.3. That conversion to a signed type wraps is own.
use Rattle.std.specs.Prelude.{◌^◌, ℤ, pos, ◌+ℤ◌, ◌-ℤ◌, IsTrue, if◌then◌else◌}
use Rattle.std.specs.Int.{int_rem_euclid}
use Rattle.std.specs.Ordering.{int_eq}
use Rattle.cm_core.specs.declared.integers.IntKind.{IntKind}
use Rattle.cm_core.specs.declared.integers.IntKind.TheVariants.{Bool as BoolKind}
use Rattle.int_types.specs.declared.values.Value.{Value}
use Rattle.int_types.specs.Kinds.{width, least, holds}

-- the type of a value holds its number
abbrev pub IsValid : Value → Type 0
IsValid v = IsTrue (holds v.kind v.number)

-- the number of the type's range that differs from z by a multiple of 2 to the type's width (6.3.1.3p2)
unfoldable pub wrapped : IntKind → ℤ → ℤ
wrapped k z = least k +ℤ int_rem_euclid (z -ℤ least k) (pos (2 ^ width k))

-- 6.3.1.2 for _Bool, 6.3.1.3 for the others
unfoldable pub converted : IntKind → ℤ → ℤ
converted BoolKind z = if int_eq z (pos 0) then pos 0 else pos 1
converted k z = if holds k z then z else wrapped k z
