-- The diagnostics that module files keep, and back.
use Rattle.std.proofs.Common.{◌≡◌, ◌≢◌, ◌∙◌, ◌<◌, ◌≤◌, ◌+◌, ◌^◌, length, ℕ, Bool, true, false, cond, List, [], ◌∷◌, Option, Some, None, Result, Ok, Err, get_or, refl, sym, ap, subst, rules, arith, true≢false}
use Rattle.std.specs.Prelude.{zero, suc, ◌/◌, ◌%◌, ◌==◌, ◌&&◌, nat_lt}
use Rattle.std.specs.Char.{is_ascii_digit}
use Rattle.std.specs.Fmt.{decimal, digits, digits_onto, digit_glyph}
use Rattle.std.specs.List.{list_all}
use Rattle.std.specs.Option.{is_some, option_map}
use Rattle.std.specs.Result.{result_ok}
use Rattle.std.specs.Str.{bytes_eq}
use Rattle.std.specs.Str.Parse.{IsNumeral, ParsesUnsigned, digits_value, without_leading_plus}
use Rattle.std.proofs.lemmas.Fmt.{decimal-digits_value, decimal_digit, decimal_is_IsNumeral, decimal_is_IsNumeral_wide, digits_value-decimal, first_decimal, length-decimal-le, parse-decimal}
use Rattle.std.proofs.lemmas.Bool.Decides.{Decides-eqb, nat_tests}
use Rattle.std.proofs.lemmas.Slice.Eq.{bytes_eq-Decides}
use Rattle.std.proofs.lemmas.Str.Parse.{IsNumeralModel, numerals_by_value, without_leading_plus_none}
use Rattle.unit_fold.specs.Lines.{when}
use Rattle.unit_fold.specs.declared.at.At.{At}
use Rattle.unit_fold.specs.declared.item.FaultAt.{FaultAt}
use Rattle.unit_fold.specs.declared.item.FaultKind.{FaultKind}
use Rattle.unit_fold.specs.declared.item.FaultKind.TheVariants.{NotBuilt, Absent, TooLarge, NotUtf8, Unclosed, BadByte, LongName, ManyTokens, CyclicModule, NotDeclared}
use Rattle.build_store.specs.KeptFaults.{fault_of_kept, is_of_header, is_padded, kept_fault, number_behind, number_bound, spelled}
use Rattle.build_store.specs.Loads.{fault_as}

own : IsNumeralModel (λ text. list_all is_ascii_digit text ≡ true) (digits_value 10)
own = numerals_by_value _ (search rules)

when_some : {A : Type 0} (b : Bool) (x y : A) → when b x ≡ Some y → (b ≡ true) × (x ≡ y)
when_some true x y e = (refl, cc)
when_some false x y e = absurd (cc)

both_true : (a b : Bool) → (a && b) ≡ true → (a ≡ true) × (b ≡ true)
both_true true b h = (refl, h)
both_true false b h = absurd (true≢false (sym h))

same_bytes : (xs : List ℕ) → bytes_eq xs xs ≡ true
same_bytes xs = (bytes_eq-Decides xs xs).1 refl

below : (n : ℕ) → nat_lt n number_bound ≡ true → n < 2 ^ 64
unfolding number_bound
below n h = grind (arith, nat_tests)

is_below : (n : ℕ) → n < 2 ^ 64 → nat_lt n number_bound ≡ true
unfolding number_bound
is_below n small = grind (arith, nat_tests)

-- a number below 2^64 is spelled by its digits
pub spelled_decimal : (n : ℕ) → nat_lt n number_bound ≡ true → spelled (decimal n) ≡ Some n
spelled_decimal n h =
    let value : digits_value 10 (decimal n) ≡ n = digits_value-decimal own n (below n h) in
    let P : ℕ → Type 0 = λ v. when (nat_lt v number_bound && bytes_eq (decimal v) (decimal n)) v ≡ Some n in
    subst P (sym value) (rw (h, same_bytes (decimal n)) refl)

-- ---- numbers

power_positive : (k : ℕ) → 0 < 10 ^ k
power_positive zero = omega arith
power_positive (suc k) = omega (arith, power_positive k)

-- a number that is printed in less than k digits, where at most k are, is below 10^k
few_digits : (k n : ℕ) (acc : List ℕ) → length (digits_onto k 10 false n acc) < k + length acc → n < 10 ^ k
few_digits zero n acc short = absurd (omega (arith, short))
few_digits (suc k) n acc short = by (n / 10 == 0) refl short (few_digits k (n / 10) (digit_glyph false (n % 10) ∷ acc))
  where
    by : (b : Bool) → (n / 10 == 0) ≡ b → length (cond b (digit_glyph false (n % 10) ∷ acc) (digits_onto k 10 false (n / 10) (digit_glyph false (n % 10) ∷ acc))) < suc k + length acc
        → (length (digits_onto k 10 false (n / 10) (digit_glyph false (n % 10) ∷ acc)) < k + length (digit_glyph false (n % 10) ∷ acc) → n / 10 < 10 ^ k) → n < 10 ^ suc k
    by true e h rest = let none : n / 10 ≡ 0 = (Decides-eqb (n / 10) 0).0 e in omega (arith, none, power_positive k)
    by false e h rest = omega (arith, rest (omega (arith, h)))

-- a number that is printed as one below 2^64 is that number
decimal_same : (v n : ℕ) → v < 2 ^ 64 → decimal v ≡ decimal n → v ≡ n
unfolding digits
decimal_same v n small e =
    let short : length (decimal n) ≤ 20 = subst (λ (ds : List ℕ). length ds ≤ 20) e (length-decimal-le 20 v (omega arith) (omega arith) small) in
    let wide : n < 10 ^ 64 = few_digits 64 n [] (omega (arith, short)) in
    sym (decimal_is_IsNumeral v small).1 ∙ ap (digits_value 10) e ∙ (decimal_is_IsNumeral_wide n wide).1

spelled_same : (n m : ℕ) → spelled (decimal n) ≡ Some m → m ≡ n
spelled_same n m e =
    let v = digits_value 10 (decimal n) in
    let is = when_some (nat_lt v number_bound && bytes_eq (decimal v) (decimal n)) v m e in
    let parts = both_true (nat_lt v number_bound) (bytes_eq (decimal v) (decimal n)) is.0 in
    sym is.1 ∙ decimal_same v n (below v parts.0) ((bytes_eq-Decides (decimal v) (decimal n)).0 parts.1)

number_same : (path : List ℕ) (n m : ℕ) → number_behind path (path ∷ decimal n ∷ []) ≡ Some m → m ≡ n
number_same path n m e = by (bytes_eq path path) e
  where
    by : (b : Bool) → cond b (spelled (decimal n)) None ≡ Some m → m ≡ n
    by true h = spelled_same n m h
    by false h = absurd (cc)

number_back : (path : List ℕ) (n : ℕ) → nat_lt n number_bound ≡ true → number_behind path (path ∷ decimal n ∷ []) ≡ Some n
number_back path n h = rw (same_bytes path) (spelled_decimal n h)

-- ---- reading numbers

-- a text is padded by its first byte and its length
plain_by : (text : List ℕ) → get_or text 0 0 ≢ 43 → (get_or text 0 0 ≡ 48 → length text ≡ 1) → is_padded text ≡ false
plain_by [] plus zero_first = refl
plain_by (c ∷ text) plus zero_first = grind (rules, arith, nat_tests)

no_plus : (text : List ℕ) → is_padded text ≡ false → get_or text 0 0 ≢ 43
no_plus [] plain e = absurd (omega (arith, e))
no_plus (c ∷ text) plain e = grind (rules, arith, nat_tests)

zero_alone : (text : List ℕ) → is_padded text ≡ false → get_or text 0 0 ≡ 48 → length text ≡ 1
zero_alone [] plain e = absurd (omega (arith, e))
zero_alone (c ∷ text) plain e = grind (rules, arith, nat_tests)

-- what is printed of a number is not padded
plain_decimal : (n : ℕ) → n < 2 ^ 64 → is_padded (decimal n) ≡ false
plain_decimal zero small = rw (decimal_digit 0 (omega arith)) refl
plain_decimal (suc n) small =
    let first = first_decimal (suc n) (omega arith) small in
    plain_by (decimal (suc n)) (λ e. omega (arith, first, e)) (λ e. absurd (omega (arith, first, e)))

pub padded_none : (text : List ℕ) → is_padded text ≡ true → None ≡ spelled text
padded_none text padded =
    by (digits_value 10 text) (nat_lt (digits_value 10 text) number_bound) (bytes_eq (decimal (digits_value 10 text)) text) refl refl
  where
    by : (v : ℕ) (a b : Bool) → nat_lt v number_bound ≡ a → bytes_eq (decimal v) text ≡ b → None ≡ when (a && b) v
    by v true true e f =
        let same : decimal v ≡ text = (bytes_eq-Decides (decimal v) text).0 f in
        absurd (true≢false (sym padded ∙ ap is_padded (sym same) ∙ plain_decimal v (below v e)))
    by v true false e f = refl
    by v false b e f = refl

pub number_read : {E : Type 0} (text : List ℕ) (r : Result ℕ E) → is_padded text ≡ false → ParsesUnsigned 64 10 text r → result_ok r ≡ spelled text
number_read text (Ok n) plain parsed =
    let signless : without_leading_plus text ≡ text = without_leading_plus_none text (no_plus text plain) in
    let read = subst (λ (t : List ℕ). (IsNumeral 10 t × (digits_value 10 t < 2 ^ 64)) × (n ≡ digits_value 10 t)) signless parsed in
    let printed : decimal (digits_value 10 text) ≡ text =
    decimal-digits_value own text (own.from text read.0.0.1) read.0.0.0 (zero_alone text plain) read.0.1 in
    rw (printed, same_bytes text, is_below (digits_value 10 text) read.0.1) (ap Some read.1)
number_read text (Err e) plain parsed =
    by (digits_value 10 text) (nat_lt (digits_value 10 text) number_bound) (bytes_eq (decimal (digits_value 10 text)) text) refl refl
  where
    by : (v : ℕ) (a b : Bool) → nat_lt v number_bound ≡ a → bytes_eq (decimal v) text ≡ b → None ≡ when (a && b) v
    by v true true d f =
        let same : text ≡ decimal v = sym ((bytes_eq-Decides (decimal v) text).0 f) in
        let read : Err e ≡ Ok v = parse-decimal 64 v text (Err e) (below v d) (below v d) same parsed in
        absurd (cc)
    by v true false d f = refl
    by v false b d f = refl

-- ---- kinds

made_same : (make : ℕ → FaultKind) (o : Option ℕ) (n : ℕ) (kind : FaultKind) → ((m : ℕ) → o ≡ Some m → m ≡ n) → option_map make o ≡ Some kind → kind ≡ make n
made_same make None n kind same e = absurd (cc)
made_same make (Some m) n kind same e = let is : make m ≡ kind = cc in sym is ∙ ap make (same m refl)

kind_back : (path : List ℕ) (at : At) (kind : FaultKind) → is_of_header kind ≡ true → fault_of_kept (kept_fault path (record { at = at; kind = kind })) ≡ Some kind
kind_back path at NotBuilt h = refl
kind_back path at Absent h = rw (same_bytes path) refl
kind_back path at (TooLarge size) h = ap (option_map TooLarge) (number_back path size h)
kind_back path at (NotUtf8 place) h = ap (option_map NotUtf8) (number_back path place h)
kind_back path at Unclosed h = refl
kind_back path at BadByte h = refl
kind_back path at LongName h = refl
kind_back path at ManyTokens h = refl
kind_back path at (CyclicModule name) h = absurd (true≢false (sym h))
kind_back path at (NotDeclared name) h = absurd (true≢false (sym h))

pub fault_comes_back : (path : List ℕ) (fault : FaultAt) → is_of_header fault.kind ≡ true → fault_of_kept (kept_fault path fault) ≡ Some fault.kind
fault_comes_back path fault h = kind_back path fault.at fault.kind h

kind_same : (path : List ℕ) (at : At) (kind other : FaultKind) → fault_of_kept (kept_fault path (record { at = at; kind = kind })) ≡ Some other → other ≡ kind
kind_same path at NotBuilt other e = cc
kind_same path at Absent other e = sym (when_some (bytes_eq path path) Absent other e).1
kind_same path at (TooLarge size) other e = made_same TooLarge (number_behind path (path ∷ decimal size ∷ [])) size other (number_same path size) e
kind_same path at (NotUtf8 place) other e = made_same NotUtf8 (number_behind path (path ∷ decimal place ∷ [])) place other (number_same path place) e
kind_same path at Unclosed other e = cc
kind_same path at BadByte other e = cc
kind_same path at LongName other e = cc
kind_same path at ManyTokens other e = cc
kind_same path at (CyclicModule name) other e = absurd (cc)
kind_same path at (NotDeclared name) other e = absurd (cc)

pub fault_is_same : (path : List ℕ) (fault : FaultAt) (kind : FaultKind) → fault_of_kept (kept_fault path fault) ≡ Some kind → kind ≡ fault.kind
fault_is_same path fault kind e = kind_same path fault.at fault.kind kind e

-- what comes back of a fault that can be kept is the fault
pub fault_back : (path : List ℕ) (fault : FaultAt) → is_some (fault_of_kept (kept_fault path fault)) ≡ true → fault_as (kept_fault path fault) (fault_of_kept (kept_fault path fault)) ≡ fault ∷ []
fault_back path fault h = by (fault_of_kept (kept_fault path fault)) refl h
  where
    by : (o : Option FaultKind) → fault_of_kept (kept_fault path fault) ≡ o → is_some o ≡ true → fault_as (kept_fault path fault) o ≡ fault ∷ []
    by None e g = absurd (true≢false (sym g))
    by (Some kind) e g = λ i. record { at = fault.at; kind = fault_is_same path fault kind e i } ∷ []
