-- A token ends behind the place where it is sought, in a text that goes on there.
use Rattle.std.proofs.Common.{ℕ, ◌<◌, Bool, true, false, List, length, if◌then◌else◌}
use Rattle.cm_source.specs.LogicalText.{Logical}
use Rattle.c_lex.specs.Nexts.{NextLexeme, NoLexeme, OpenComment, ZeroByte, LongWord, OneLexeme, next_header, next_lexeme}
use Rattle.c_lex.proofs.Nexts.{LeadsOn, next_leads, header_leads}
use Rattle.unit_fold.specs.Tokens.{Next, NoneLeft, Faulty, LineEnds, Gives, is_line_end, token_at, next_of, next, next_name, own_file}

abbrev pub Leads : List ℕ → ℕ → Next → Type 0
Leads bytes at NoneLeft = Unit {0}
Leads bytes at (Faulty fault) = at < length bytes
Leads bytes at (LineEnds to) = (at < to) × (at < length bytes)
Leads bytes at (Gives t to) = (at < to) × (at < length bytes)

leads_as : (bytes : List ℕ) (at : ℕ) (found : NextLexeme) → LeadsOn bytes at found → Leads bytes at (next_of found)
leads_as bytes at NoLexeme h = tt
leads_as bytes at (OpenComment place) h = h
leads_as bytes at (ZeroByte place) h = h
leads_as bytes at (LongWord place) h = h
leads_as bytes at (OneLexeme l to) h = by (is_line_end l.kind)
  where
    by : (b : Bool) → Leads bytes at (if b then LineEnds to else Gives (token_at l) to)
    by true = h
    by false = h

pub leads : (text : Logical) (at : ℕ) → Leads text.bytes at (next text at)
leads text at = leads_as text.bytes at (next_lexeme text own_file at) (next_leads text own_file at)

pub name_leads : (text : Logical) (at : ℕ) → Leads text.bytes at (next_name text at)
name_leads text at = leads_as text.bytes at (next_header text own_file at) (header_leads text own_file at)
