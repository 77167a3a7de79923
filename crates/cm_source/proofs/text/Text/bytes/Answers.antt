use Rattle.std.proofs.lemmas.Str.{IsUtf8-string_bytes}
use Rattle.cm_source.proofs.text.Text.bytes.Goals as goal

pub returns-clause-utf8 : goal.returns-clause-utf8
returns-clause-utf8 c = rw c.as_bytes.ensures.value (IsUtf8-string_bytes c.self.inside.bytes)
