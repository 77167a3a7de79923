-- Identifiers (C11 6.4.2.1), the names that may be declared, and the texts that may name a file. own, where no section is named
use Rattle.std.specs.Prelude.{ℕ, Bool, not, ◌&&◌, ◌||◌, ◌==◌, nat_le, nat_lt, List, [], ◌∷◌, length, slice_index, codes}
use Rattle.std.specs.List.{list_all, list_any}
use Rattle.std.specs.Str.{bytes_eq}

abbrev pub is_digit : ℕ → Bool
is_digit c = nat_le 48 c && nat_le c 57

-- a nondigit: a letter or `_`
abbrev pub is_nondigit : ℕ → Bool
is_nondigit c = nat_le 97 c && nat_le c 122 || nat_le 65 c && nat_le c 90 || c == 95

abbrev pub is_identifier : List ℕ → Bool
is_identifier name = nat_lt 0 (length name) && is_nondigit (slice_index name 0) && list_all (λ c. is_nondigit c || is_digit c) name

-- the keywords of C11 6.4.1
unfoldable pub keywords : List (List ℕ)
keywords =
    codes "auto" ∷ codes "break" ∷ codes "case" ∷ codes "char" ∷ codes "const" ∷ codes "continue" ∷ codes "default" ∷ codes "do"
    ∷ codes "double" ∷ codes "else" ∷ codes "enum" ∷ codes "extern" ∷ codes "float" ∷ codes "for" ∷ codes "goto" ∷ codes "if"
    ∷ codes "inline" ∷ codes "int" ∷ codes "long" ∷ codes "register" ∷ codes "restrict" ∷ codes "return" ∷ codes "short"
    ∷ codes "signed" ∷ codes "sizeof" ∷ codes "static" ∷ codes "struct" ∷ codes "switch" ∷ codes "typedef" ∷ codes "union"
    ∷ codes "unsigned" ∷ codes "void" ∷ codes "volatile" ∷ codes "while" ∷ codes "_Alignas" ∷ codes "_Alignof" ∷ codes "_Atomic"
    ∷ codes "_Bool" ∷ codes "_Complex" ∷ codes "_Generic" ∷ codes "_Imaginary" ∷ codes "_Noreturn" ∷ codes "_Static_assert"
    ∷ codes "_Thread_local" ∷ []

-- the words of the module map language (Clang documentation, Modules) that its identifiers leave out
unfoldable pub map_words : List (List ℕ)
map_words =
    codes "config_macros" ∷ codes "conflict" ∷ codes "exclude" ∷ codes "explicit" ∷ codes "export" ∷ codes "export_as"
    ∷ codes "extern" ∷ codes "framework" ∷ codes "header" ∷ codes "link" ∷ codes "module" ∷ codes "private" ∷ codes "requires"
    ∷ codes "textual" ∷ codes "umbrella" ∷ codes "use" ∷ []

-- the predefined macro names of C11 6.10.8.1
unfoldable pub predefined_names : List (List ℕ)
predefined_names =
    codes "__DATE__" ∷ codes "__FILE__" ∷ codes "__LINE__" ∷ codes "__STDC__" ∷ codes "__STDC_HOSTED__"
    ∷ codes "__STDC_VERSION__" ∷ codes "__TIME__" ∷ []

abbrev pub is_one_of : List (List ℕ) → List ℕ → Bool
is_one_of words name = list_any (λ word. bytes_eq word name) words

abbrev pub is_reserved : List ℕ → Bool
is_reserved name = is_one_of keywords name || is_one_of map_words name || is_one_of predefined_names name

-- an identifier of at most 4,096 bytes that is no reserved word
abbrev pub is_name : List ℕ → Bool
is_name name = is_identifier name && nat_le (length name) 4096 && not (is_reserved name)

-- letters, digits, `_`, `-`, `.` and `/`
abbrev pub is_path_byte : ℕ → Bool
is_path_byte c = is_nondigit c || is_digit c || c == 45 || c == 46 || c == 47

abbrev pub is_path_text : List ℕ → Bool
is_path_text text = list_all is_path_byte text
