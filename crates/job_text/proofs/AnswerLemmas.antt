-- What is known of an answer whichever it is.
use Rattle.std.proofs.Common.{◌≡◌, ℕ, List, Result, Ok, Err, IfOk, IfErr, ◌∙◌, sym}
use Rattle.std.specs.Str.{IsUtf8}
use Rattle.job_text.specs.declared.fault.JobKind.{JobKind}
use Rattle.job_text.specs.declared.fault.JobFault.{JobFault}
use Rattle.job_text.specs.declared.fault.JobFault.TheVariants.{Line, Text, NoMemory}
use Rattle.job_text.specs.Answers.{IsLineFault, IsRefusal}

pub if_ok : {B : Type 0} (r : Result B JobFault) (P Q : B → Type 0) → ((x : B) → P x → Q x) → IfOk r P → IfOk r Q
if_ok (Ok x) P Q f h = f x h
if_ok (Err e) P Q f h = h

pub if_refused : {A B : Type 0} (r : Result B JobFault) (bytes : List ℕ) (wanted whole : Result A (ℕ × JobKind)) → wanted ≡ whole → IsUtf8 bytes → IfErr r (IsLineFault wanted) → IfErr r (IsRefusal bytes whole)
if_refused (Ok x) bytes wanted whole same utf8 h = h
if_refused (Err (Line n kind)) bytes wanted whole same utf8 h = (utf8, sym same ∙ h)
if_refused (Err (Text n)) bytes wanted whole same utf8 h = absurd h
if_refused (Err NoMemory) bytes wanted whole same utf8 h = utf8
