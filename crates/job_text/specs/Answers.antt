-- How a call answers what a definition gives. own
use Rattle.std.specs.Prelude.{◌≡◌, ℕ, List, Option, Some, None, Result, Ok, Err}
use Rattle.std.specs.Str.{IsUtf8, IsValidUpTo}
use Rattle.c_lex.specs.declared.lexer.LexFault.{LexFault}
use Rattle.c_lex.specs.declared.lexer.LexFault.TheVariants.{Unclosed, BadByte, LongName, NoMemory as LexNoMemory}
use Rattle.job_text.specs.declared.fault.JobKind.{JobKind}
use Rattle.job_text.specs.declared.fault.JobKind.TheVariants.{Macro}
use Rattle.job_text.specs.declared.fault.JobFault.{JobFault}
use Rattle.job_text.specs.declared.fault.JobFault.TheVariants.{Line, Text, NoMemory as OutOfMemory}
use Rattle.job_text.specs.declared.fault.LineFault.{LineFault}
use Rattle.job_text.specs.declared.fault.LineFault.TheVariants.{Bad, NoMemory}

-- what is there, or a line of this kind
abbrev pub or_bad : {A : Type 0} → JobKind → Option A → Result A JobKind
or_bad kind None = Err kind
or_bad kind (Some x) = Ok x

-- one part of a line and then the next
abbrev pub and_then : {A B : Type 0} → Result A JobKind → (A → Result B JobKind) → Result B JobKind
and_then (Err kind) more = Err kind
and_then (Ok x) more = more x

-- the fault of line n
abbrev pub at_line : {A : Type 0} → ℕ → Result A JobKind → Result A (ℕ × JobKind)
at_line n (Ok x) = Ok x
at_line n (Err kind) = Err (n, kind)

-- a text has this fault: it isn't UTF-8, which is told first, or `wanted` is the fault of a line
abbrev pub IsRefusal : {A : Type 0} → List ℕ → Result A (ℕ × JobKind) → JobFault → Type 0
IsRefusal bytes wanted (Text n) = IsValidUpTo bytes n
IsRefusal bytes wanted (Line n kind) = IsUtf8 bytes × (wanted ≡ Err (n, kind))
IsRefusal bytes wanted OutOfMemory = IsUtf8 bytes

-- For the contracts of private functions: a call answers what is wanted, or memory ran out.
abbrev pub Gives : {A : Type 0} → Result A JobKind → Result A LineFault → Type 0
Gives wanted (Ok x) = wanted ≡ Ok x
Gives wanted (Err (Bad kind)) = wanted ≡ Err kind
Gives wanted (Err NoMemory) = Unit {0}

-- the same, where the value is what the call leaves
abbrev pub Leaves : {A : Type 0} → Result A JobKind → A → Result (Unit {0}) LineFault → Type 0
Leaves wanted left (Ok _) = wanted ≡ Ok left
Leaves wanted left (Err (Bad kind)) = wanted ≡ Err kind
Leaves wanted left (Err NoMemory) = Unit {0}

-- a text that the lexer refuses is no body of a macro
abbrev pub fault_from : LexFault → LineFault
fault_from (Unclosed place) = Bad Macro
fault_from (BadByte place) = Bad Macro
fault_from (LongName place) = Bad Macro
fault_from LexNoMemory = NoMemory

-- this is the fault of the first bad line, or memory ran out
abbrev pub IsLineFault : {A : Type 0} → Result A (ℕ × JobKind) → JobFault → Type 0
IsLineFault wanted (Line n kind) = wanted ≡ Err (n, kind)
IsLineFault wanted (Text n) = ⊥
IsLineFault wanted OutOfMemory = Unit {0}

-- a fault of a line as that of line n
abbrev pub fault_at : ℕ → LineFault → JobFault
fault_at n (Bad kind) = Line n kind
fault_at n NoMemory = OutOfMemory
