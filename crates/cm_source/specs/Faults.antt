-- When a file has no text (own).
use Rattle.std.specs.Prelude.{ℕ, List}
use Rattle.std.specs.Str.{IsUtf8, IsValidUpTo}
use Rattle.cm_source.specs.declared.text.TextFault.{TextFault}
use Rattle.cm_source.specs.declared.text.TextFault.TheVariants.{NotUtf8, NoMemory}

-- the longest front that is UTF-8 has n bytes and isn't all; memory is asked only for a file that is UTF-8
abbrev pub IsTextFault : List ℕ → TextFault → Type 0
IsTextFault file (NotUtf8 n) = IsValidUpTo file n
IsTextFault file NoMemory = IsUtf8 file
