use Rattle.std.proofs.Common.{◌≡◌, drop}
use Rattle.module_file.specs.Reading.{pass_bytes}
use Rattle.module_file.proofs.form.pass_bytes.Given as goal

abbrev pub invariant-loop-byte : goal.invariant-loop-byte
invariant-loop-byte l = pass_bytes (drop l.byte-index l.wanted) l.reader ≡ pass_bytes l.wanted l.initial.reader
