use Rattle.std.proofs.Common.{◌≡◌, ℕ, zero, suc, ◌<◌, ◌≤◌, Bool, true, false, not, ◌&&◌, ◌||◌, List, [], ◌∷◌, slice_index, refl, arith, nat_lt, nat_le, length}
use Rattle.std.specs.List.{list_all}
use Rattle.std.specs.Str.{IsAscii, IsUtf8}
use Rattle.std.proofs.lemmas.Bool.Decides.{nat_tests}
use Rattle.std.proofs.lemmas.Str.{IsUtf8-from_ascii}
use Rattle.unit_fold.specs.Names.{is_digit, is_nondigit, is_path_byte, is_path_text, is_identifier, is_reserved, is_name}

pub and-left : (a b : Bool) → (a && b) ≡ true → a ≡ true
and-left true b h = refl
and-left false b h = h

pub and-right : (a b : Bool) → (a && b) ≡ true → b ≡ true
and-right true b h = h
and-right false b h = absurd (cc)

-- a list of bytes that all pass a test of ASCII alone
ascii_from_all : (test : ℕ → Bool) (small : (c : ℕ) → test c ≡ true → c < 128) (bs : List ℕ) → list_all test bs ≡ true → IsAscii bs
ascii_from_all test small [] h i = omega arith
ascii_from_all test small (c ∷ cs) h zero = small c (and-left (test c) (list_all test cs) h)
ascii_from_all test small (c ∷ cs) h (suc i) = ascii_from_all test small cs (and-right (test c) (list_all test cs) h) i

-- bytes that may stand in a path are ASCII
path_byte_small : (c : ℕ) → is_path_byte c ≡ true → c < 128
path_byte_small c h = grind (arith, nat_tests)

word_byte_small : (c : ℕ) → (is_nondigit c || is_digit c) ≡ true → c < 128
word_byte_small c h = grind (arith, nat_tests)

pub utf8_path_text : (text : List ℕ) → is_path_text text ≡ true → IsUtf8 text
utf8_path_text text h = IsUtf8-from_ascii text (ascii_from_all is_path_byte path_byte_small text h)

pub utf8_name : (name : List ℕ) → is_name name ≡ true → IsUtf8 name
utf8_name name h =
    let identifier = and-left (is_identifier name) (nat_le (length name) 4096) (and-left (is_identifier name && nat_le (length name) 4096) (not (is_reserved name)) h) in
    let words = and-right (nat_lt 0 (length name) && is_nondigit (slice_index name 0)) (list_all (λ c. is_nondigit c || is_digit c) name) identifier in
    IsUtf8-from_ascii name (ascii_from_all (λ c. is_nondigit c || is_digit c) word_byte_small name words)

pub short_name : (name : List ℕ) → is_name name ≡ true → length name ≤ 4096
short_name name h =
    let short : nat_le (length name) 4096 ≡ true = and-right (is_identifier name) (nat_le (length name) 4096) (and-left (is_identifier name && nat_le (length name) 4096) (not (is_reserved name)) h) in
    grind (arith, nat_tests)
