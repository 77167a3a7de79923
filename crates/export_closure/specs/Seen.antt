-- Which owners' declarations and macros are seen where a set of submodules is visible: Clang's documentation, Modules, "Macros
-- Are (not) Exported" and "Submodule declaration"; that those of the unit itself, the job and the front end are seen is own.
use Rattle.std.specs.Prelude.{Bool, true, List}
use Rattle.cm_core.specs.declared.numbers.Owner.{Owner}
use Rattle.cm_core.specs.declared.numbers.Owner.TheVariants.{Unit as OfUnit, Sub, Job, Builtin}
use Rattle.export_closure.specs.Flags.{has}

abbrev pub sees : List Bool → Owner → Bool
sees set (Sub sub) = has set sub.index
sees set OfUnit = true
sees set Job = true
sees set Builtin = true
