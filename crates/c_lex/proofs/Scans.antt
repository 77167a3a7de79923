-- That each cut of the scanner is after the longest piece.
use Rattle.std.proofs.Common.{◌≡◌, ℕ, zero, suc, ◌+◌, ◌-◌, ◌<◌, ◌≤◌, List, [], ◌∷◌, length, get_or, take, drop, refl, sym, ap, ◌∙◌, subst, arith, add-one, Bool, true, false, ◌&&◌, ◌||◌, eqb, leb, ltb, cond, if◌then◌else◌, eqb-true, Option, Some, None, ◌⊎◌, inl, inr}
use Rattle.std.specs.Char.{is_ascii_digit}
use Rattle.std.proofs.lemmas.Bool.Decides.{nat_tests}
use Rattle.cm_core.specs.declared.token.TokenKind.{TokenKind}
use Rattle.cm_core.specs.declared.token.TokenKind.TheVariants.{Ident, Number, CharConst, Str, Punct, HeaderName, Other, LineEnd}
use Rattle.c_lex.specs.declared.piece.Piece.{Piece}
use Rattle.c_lex.specs.declared.piece.Piece.TheVariants.{Blank, OpenComment, Token}
use Rattle.c_lex.specs.Pieces.{is_nil, only, begins, header_end, header_of, named_by, is_named, begins_digit, is_nondigit, is_word, goes_on, quoted, is_unclosed, is_blank, is_mark, is_punctuator, all_continue, is_character, piece_of}
use Rattle.c_lex.specs.Runs.{word_run, number_run, line_run, continue_run, longer, quoted_run, closed_run, named_run}
use Rattle.c_lex.specs.Punctuators.{IsPunctuatorLength}
use Rattle.c_lex.specs.Cuts.{IsCut, IsNoHeader, IsSymbol, IsQuote}
use Rattle.c_lex.proofs.Fronts.{words-take, number-take, line-take, continue-take, is_at, is_before, closed-take, unclosed-take, quoted-take, named-take, nil-take}
use Rattle.c_lex.proofs.Marks.{both, either, true_or_false}

abbrev Ends : ℕ → List ℕ → ℕ → Type 0
Ends a rest n = (get_or (a ∷ rest) n 0 < 128) ⊎ (n < length rest → 128 ≤ get_or rest n 0 → 192 ≤ get_or rest n 0)

cut_beyond : (f : List ℕ → Option Piece) (a : ℕ) (rest : List ℕ) (n : ℕ) (of : ℕ → Option Piece) → ((m : ℕ) → n ≤ m → m ≤ length rest → f (a ∷ take m rest) ≡ of m) → ((m : ℕ) → n < m → m ≤ length rest → of m ≡ None) → (m : ℕ) → n + 1 < m → m ≤ length (a ∷ rest) → f (take m (a ∷ rest)) ≡ None
cut_beyond f a rest n of fronts none zero above within = absurd (omega arith)
cut_beyond f a rest n of fronts none (suc m) above within = fronts m (omega arith) (omega arith) ∙ none m (omega arith) (omega arith)

cut_ends : (a : ℕ) (rest : List ℕ) (n : ℕ) → Ends a rest n → (get_or (a ∷ rest) (n + 1 - 1) 0 < 128) ⊎ (n + 1 < length (a ∷ rest) → 128 ≤ get_or (a ∷ rest) (n + 1) 0 → 192 ≤ get_or (a ∷ rest) (n + 1) 0)
cut_ends a rest n ends =
    let back : n + 1 - 1 ≡ n = omega arith in
    elim ends [
      | inl ascii ↦ inl (rw back ascii)
      | inr next ↦ inr (rw add-one (λ within high. next (omega arith) high))
    ]

-- a cut, from what the fronts of the text are
cut_from : (f : List ℕ → Option Piece) (a : ℕ) (rest : List ℕ) (p : Piece) (n : ℕ) (of : ℕ → Option Piece) → n ≤ length rest → ((m : ℕ) → n ≤ m → m ≤ length rest → f (a ∷ take m rest) ≡ of m) → of n ≡ Some p → ((m : ℕ) → n < m → m ≤ length rest → of m ≡ None) → Ends a rest n → IsCut f (a ∷ rest) (record { piece = p; length = n + 1 })
cut_from f a rest p n of within fronts here none ends = record {
  some = omega arith;
  within = omega arith;
  here = rw add-one (fronts n (omega arith) within ∙ here);
  beyond = cut_beyond f a rest n of fronts none;
  ends = cut_ends a rest n ends;
}

leb_self : (n : ℕ) → leb n n ≡ true
leb_self n = grind (arith, nat_tests)

leb_above : (m n : ℕ) → n < m → leb m n ≡ false
leb_above m n h = grind (arith, nat_tests)

eqb_self : (n : ℕ) → eqb n n ≡ true
eqb_self n = grind (arith, nat_tests)

eqb_above : (m n : ℕ) → n < m → eqb m n ≡ false
eqb_above m n h = grind (arith, nat_tests)

ltb_self : (m n : ℕ) → n ≤ m → ltb m n ≡ false
ltb_self m n h = grind (arith, nat_tests)

-- bytes of words and numbers are ASCII
word_ascii : (b : ℕ) → is_word b ≡ true → b < 128
word_ascii b h = grind (arith, nat_tests)

goes_on_ascii : (p b : ℕ) → goes_on p b ≡ true → b < 128
goes_on_ascii p b h = grind (arith, nat_tests)

nondigit_ascii : (a : ℕ) → is_nondigit a ≡ true → a < 128
nondigit_ascii a h = grind (arith, nat_tests)

word_last : (s : List ℕ) (a : ℕ) → a < 128 → get_or (a ∷ s) (word_run s) 0 < 128
word_last [] a h = h
word_last (b ∷ bs) a h =
    elim (is_word b) as (λ w. is_word b ≡ w → get_or (a ∷ b ∷ bs) (cond w (word_run bs + 1) 0) 0 < 128) [
      | true ↦ λ e. rw add-one (word_last bs b (word_ascii b e))
      | false ↦ λ e. h
    ] refl

number_last : (s : List ℕ) (p a : ℕ) → a < 128 → get_or (a ∷ s) (number_run p s) 0 < 128
number_last [] p a h = h
number_last (b ∷ bs) p a h =
    elim (goes_on p b) as (λ w. goes_on p b ≡ w → get_or (a ∷ b ∷ bs) (cond w (number_run b bs + 1) 0) 0 < 128) [
      | true ↦ λ e. rw add-one (number_last bs b b (goes_on_ascii p b e))
      | false ↦ λ e. h
    ] refl

pub cut_word : (a : ℕ) (rest : List ℕ) → is_nondigit a ≡ true → word_run rest ≤ length rest → IsCut piece_of (a ∷ rest) (record { piece = Token Ident; length = word_run rest + 1 })
unfolding piece_of
cut_word a rest h within =
    cut_from piece_of a rest (Token Ident) (word_run rest) (λ m. only (leb m (word_run rest)) (Token Ident)) within
    (λ m _ inside. rw h (ap (λ w. only w (Token Ident)) (words-take rest m inside)))
    (ap (λ w. only w (Token Ident)) (leb_self (word_run rest)))
    (λ m above _. ap (λ w. only w (Token Ident)) (leb_above m (word_run rest) above))
    (inl (word_last rest a (nondigit_ascii a h)))

digit_goes_on : (p b : ℕ) → is_ascii_digit b ≡ true → goes_on p b ≡ true
digit_goes_on p b h = grind (arith, nat_tests)

-- a number after a `.` has a digit
dot_run : (rest : List ℕ) (p : ℕ) → begins_digit rest ≡ true → 0 < number_run p rest
dot_run [] p h = cc
dot_run (b ∷ bs) p h =
    let on : goes_on p b ≡ true = digit_goes_on p b h in
    rw on (omega arith)

begins_digit-take : (rest : List ℕ) (m : ℕ) → 0 < m → begins_digit (take m rest) ≡ begins_digit rest
begins_digit-take rest zero h = absurd (omega arith)
begins_digit-take [] (suc m) h = refl
begins_digit-take (b ∷ bs) (suc m) h = refl

begins_number-take : (a : ℕ) (rest : List ℕ) (m : ℕ) → (is_ascii_digit a || (eqb a 46 && begins_digit rest)) ≡ true → number_run a rest ≤ m → (is_ascii_digit a || (eqb a 46 && begins_digit (take m rest))) ≡ true
begins_number-take a rest m h above =
    elim (is_ascii_digit a) as (λ d. (d || (eqb a 46 && begins_digit rest)) ≡ true → (d || (eqb a 46 && begins_digit (take m rest))) ≡ true) [
      | true ↦ λ _. refl
      | false ↦ λ dot.
          let parts = both (eqb a 46) (begins_digit rest) dot in
          let some : 0 < m = omega (arith, dot_run rest a parts.1) in
          rw (parts.0, begins_digit-take rest m some, parts.1) refl
    ] h

number_ascii : (a : ℕ) (x : Bool) → (is_ascii_digit a || (eqb a 46 && x)) ≡ true → a < 128
number_ascii a x h =
    elim (is_ascii_digit a) as (λ d. is_ascii_digit a ≡ d → (d || (eqb a 46 && x)) ≡ true → a < 128) [
      | true ↦ λ e _. grind (arith, nat_tests)
      | false ↦ λ _ dot. let is = eqb-true a 46 (both (eqb a 46) x dot).0 in omega arith
    ] refl h

pub cut_number : (a : ℕ) (rest : List ℕ) → is_nondigit a ≡ false → (is_ascii_digit a || (eqb a 46 && begins_digit rest)) ≡ true → number_run a rest ≤ length rest → IsCut piece_of (a ∷ rest) (record { piece = Token Number; length = number_run a rest + 1 })
unfolding piece_of
cut_number a rest differs h within =
    cut_from piece_of a rest (Token Number) (number_run a rest) (λ m. only (leb m (number_run a rest)) (Token Number)) within
    (λ m above inside. rw (differs, begins_number-take a rest m h above) (ap (λ w. only w (Token Number)) (number-take rest a m inside)))
    (ap (λ w. only w (Token Number)) (leb_self (number_run a rest)))
    (λ m above _. ap (λ w. only w (Token Number)) (leb_above m (number_run a rest) above))
    (inl (number_last rest a a (number_ascii a (begins_digit rest) h)))

-- what a quote and the fronts of its rest are
quoted_by : TokenKind → Option ℕ → ℕ → Option Piece
quoted_by kind run m = if is_at m run then Some (Token kind) else only (eqb (suc m) 1) (Token Other)

quoted-both : (q : ℕ) (kind : TokenKind) (rest : List ℕ) (m : ℕ) → m ≤ length rest → quoted q kind (take m rest) ≡ quoted_by kind (quoted_run q false rest) m
unfolding quoted_by
quoted-both q kind rest m inside =
    ap (λ w. if w then Some (Token kind) else only (is_nil (take m rest)) (Token Other)) (quoted-take rest q false m inside)
    ∙ ap (λ w. if is_at m (quoted_run q false rest) then Some (Token kind) else only w (Token Other)) (nil-take rest m inside)

quoted-fronts : (q : ℕ) (kind : TokenKind) → IsQuote q kind → (rest : List ℕ) (m : ℕ) → m ≤ length rest → piece_of (q ∷ take m rest) ≡ quoted_by kind (quoted_run q false rest) m
unfolding piece_of quoted_by is_mark
quoted-fronts q kind h rest m inside = elim h [
  | inl is ↦ rw (is.0, is.1) (quoted-both 39 CharConst rest m inside)
  | inr is ↦ rw (is.0, is.1) (quoted-both 34 Str rest m inside)
]

some_same : (x y : ℕ) → Some x ≡ Some y → x ≡ y
some_same x y h = cc

longer-some : (r : Option ℕ) (n : ℕ) → longer r ≡ Some n → (k : ℕ) × (r ≡ Some k) × (n ≡ k + 1)
longer-some None n h = cc
longer-some (Some k) n h = (k, refl, some_same n (k + 1) (sym h))

quoted_last : (s : List ℕ) (q : ℕ) (escaped : Bool) (a n : ℕ) → quoted_run q escaped s ≡ Some n → get_or (a ∷ s) n 0 ≡ q
quoted_last [] q escaped a n h = cc
quoted_last (b ∷ bs) q escaped a n h =
    elim (eqb b 10) as (λ w. cond w None (cond escaped (longer (quoted_run q false bs)) (cond (eqb b q) (Some 1) (longer (quoted_run q (eqb b 92) bs)))) ≡ Some n → get_or (a ∷ b ∷ bs) n 0 ≡ q) [
      | true ↦ λ e. cc
      | false ↦ λ e. elim escaped as (λ w. cond w (longer (quoted_run q false bs)) (cond (eqb b q) (Some 1) (longer (quoted_run q (eqb b 92) bs))) ≡ Some n → get_or (a ∷ b ∷ bs) n 0 ≡ q) [
        | true ↦ λ g. let step = longer-some _ n g in rw (step.2, add-one) (quoted_last bs q false b step.0 step.1)
        | false ↦ λ g. elim (eqb b q) as (λ w. eqb b q ≡ w → cond w (Some 1) (longer (quoted_run q (eqb b 92) bs)) ≡ Some n → get_or (a ∷ b ∷ bs) n 0 ≡ q) [
          | true ↦ λ same one. let is_one : n ≡ 1 = some_same n 1 (sym one) in rw is_one (eqb-true b q same)
          | false ↦ λ _ more. let step = longer-some _ n more in rw (step.2, add-one) (quoted_last bs q (eqb b 92) b step.0 step.1)
        ] refl g
      ] e
    ] h

quote_ascii : (q : ℕ) (kind : TokenKind) → IsQuote q kind → q < 128
quote_ascii q kind h = elim h [ inl is ↦ omega (arith, is.0) | inr is ↦ omega (arith, is.0) ]

above_one : (m n : ℕ) → n < m → eqb (suc m) 1 ≡ false
above_one m n h = grind (arith, nat_tests)

pub cut_quoted : (q : ℕ) (kind : TokenKind) (rest : List ℕ) (n : ℕ) → IsQuote q kind → quoted_run q false rest ≡ Some n → n ≤ length rest → IsCut piece_of (q ∷ rest) (record { piece = Token kind; length = n + 1 })
unfolding quoted_by
cut_quoted q kind rest n quote run within =
    cut_from piece_of q rest (Token kind) n (λ m. quoted_by kind (Some n) m) within
    (λ m _ inside. quoted-fronts q kind quote rest m inside ∙ ap (λ r. quoted_by kind r m) run)
    (ap (λ w. if w then Some (Token kind) else only (eqb (suc n) 1) (Token Other)) (eqb_self n))
    (λ m above _. rw (eqb_above m n above, above_one m n above) refl)
    (inl (rw (quoted_last rest q false q n run) (quote_ascii q kind quote)))

pub cut_open_quote : (q : ℕ) (kind : TokenKind) (rest : List ℕ) → IsQuote q kind → quoted_run q false rest ≡ None → IsCut piece_of (q ∷ rest) (record { piece = Token Other; length = 1 })
unfolding quoted_by
cut_open_quote q kind rest quote run =
    cut_from piece_of q rest (Token Other) 0 (λ m. quoted_by kind None m) (omega arith)
    (λ m _ inside. quoted-fronts q kind quote rest m inside ∙ ap (λ r. quoted_by kind r m) run)
    refl
    (λ m above _. ap (λ w. only w (Token Other)) (above_one m 0 above))
    (inl (quote_ascii q kind quote))

-- what begins with `/*`
commented : Option ℕ → ℕ → Option Piece
commented run zero = Some OpenComment
commented run (suc j) = if is_at j run then Some Blank else only (is_before j run) OpenComment

comment-fronts : (b : ℕ) (bs : List ℕ) (k : ℕ) → k ≤ length (b ∷ bs) → piece_of (47 ∷ take (suc k) (42 ∷ b ∷ bs)) ≡ commented (closed_run b bs) k
unfolding piece_of commented is_mark
comment-fronts b bs zero inside = refl
comment-fronts b bs (suc j) inside =
    ap (λ w. if w then Some Blank else only (is_unclosed b (take j bs)) OpenComment) (closed-take bs b j (omega arith))
    ∙ ap (λ w. if is_at j (closed_run b bs) then Some Blank else only w OpenComment) (unclosed-take bs b j (omega arith))

closed_last : (s : List ℕ) (p a n : ℕ) → closed_run p s ≡ Some n → get_or (a ∷ s) n 0 ≡ 47
closed_last [] p a n h = cc
closed_last (b ∷ bs) p a n h =
    elim (eqb p 42 && eqb b 47) as (λ w. (eqb p 42 && eqb b 47) ≡ w → cond w (Some 1) (longer (closed_run b bs)) ≡ Some n → get_or (a ∷ b ∷ bs) n 0 ≡ 47) [
      | true ↦ λ same one. let is_one : n ≡ 1 = some_same n 1 (sym one) in rw is_one (eqb-true b 47 (both (eqb p 42) (eqb b 47) same).1)
      | false ↦ λ _ more. let step = longer-some _ n more in rw (step.2, add-one) (closed_last bs b b step.0 step.1)
    ] refl h

comment_fronts_from : (b : ℕ) (bs : List ℕ) (m : ℕ) → 1 ≤ m → m ≤ length (42 ∷ b ∷ bs) → piece_of (47 ∷ take m (42 ∷ b ∷ bs)) ≡ commented (closed_run b bs) (m - 1)
comment_fronts_from b bs zero above inside = absurd (omega arith)
comment_fronts_from b bs (suc k) above inside = let back : suc k - 1 ≡ k = omega arith in rw back (comment-fronts b bs k (omega arith))

closed_beyond : (n m : ℕ) → n + 2 < m → commented (Some n) (m - 1) ≡ None
unfolding commented
closed_beyond n zero above = absurd (omega arith)
closed_beyond n (suc zero) above = absurd (omega arith)
closed_beyond n (suc (suc j)) above =
    let back : suc (suc j) - 1 ≡ suc j = omega arith in
    let more : n < j = omega arith in
    rw (back, eqb_above j n more, ltb_self j n (omega arith)) refl

comment_last : (b : ℕ) (bs : List ℕ) (n : ℕ) → closed_run b bs ≡ Some n → get_or (47 ∷ 42 ∷ b ∷ bs) (n + 2) 0 < 128
comment_last b bs n run =
    let two : n + 2 ≡ suc (suc n) = omega arith in
    let last = closed_last bs b b n run in
    rw two (omega arith)

pub cut_closed_comment : (b : ℕ) (bs : List ℕ) (n : ℕ) → closed_run b bs ≡ Some n → n ≤ length bs → IsCut piece_of (47 ∷ 42 ∷ b ∷ bs) (record { piece = Blank; length = n + 3 })
unfolding commented
cut_closed_comment b bs n run within =
    let length_is : n + 3 ≡ n + 2 + 1 = omega arith in
    let at_end : n + 2 - 1 ≡ suc n = omega arith in
    rw length_is
    (cut_from piece_of 47 (42 ∷ b ∷ bs) Blank (n + 2) (λ m. commented (Some n) (m - 1)) (omega arith)
    (λ m above inside. comment_fronts_from b bs m (omega arith) inside ∙ ap (λ r. commented r (m - 1)) run)
    (rw (at_end, eqb_self n) refl)
    (λ m above _. closed_beyond n m above)
    (inl (comment_last b bs n run)))

pub cut_open_comment : (b : ℕ) (bs : List ℕ) → closed_run b bs ≡ None → IsCut piece_of (47 ∷ 42 ∷ b ∷ bs) (record { piece = OpenComment; length = length bs + 3 })
unfolding commented
cut_open_comment b bs run =
    let length_is : length bs + 3 ≡ length bs + 2 + 1 = omega arith in
    let at_end : length bs + 2 - 1 ≡ suc (length bs) = omega arith in
    rw length_is
    (cut_from piece_of 47 (42 ∷ b ∷ bs) OpenComment (length bs + 2) (λ m. commented None (m - 1)) (omega arith)
    (λ m above inside. comment_fronts_from b bs m (omega arith) inside ∙ ap (λ r. commented r (m - 1)) run)
    (rw at_end refl)
    (λ m above within. absurd (omega arith))
    (inr (λ within. absurd (omega arith))))

pub cut_bare_comment : IsCut piece_of (47 ∷ 42 ∷ []) (record { piece = OpenComment; length = 2 })
unfolding piece_of is_mark
cut_bare_comment = record {
  some = omega arith;
  within = omega arith;
  here = refl;
  beyond = λ m above within. absurd (omega arith);
  ends = inl (omega arith);
}

-- what begins with `//`
line_stop : (s : List ℕ) → line_run s < length s → get_or s (line_run s) 0 ≡ 10
line_stop [] h = absurd (omega arith)
line_stop (b ∷ bs) h =
    elim (eqb b 10) as (λ w. eqb b 10 ≡ w → cond w 0 (line_run bs + 1) < length (b ∷ bs) → get_or (b ∷ bs) (cond w 0 (line_run bs + 1)) 0 ≡ 10) [
      | true ↦ λ e _. eqb-true b 10 e
      | false ↦ λ e g. rw add-one (line_stop bs (omega arith))
    ] refl h

line-fronts : (t : List ℕ) (m : ℕ) → 1 ≤ m → m ≤ length (47 ∷ t) → piece_of (47 ∷ take m (47 ∷ t)) ≡ only (leb m (line_run (47 ∷ t))) Blank
unfolding piece_of is_mark
line-fronts t zero above inside = absurd (omega arith)
line-fronts t (suc m) above inside = ap (λ w. only w Blank) (line-take (47 ∷ t) (suc m) inside)

pub cut_line_comment : (t : List ℕ) → line_run (47 ∷ t) ≤ length (47 ∷ t) → IsCut piece_of (47 ∷ 47 ∷ t) (record { piece = Blank; length = line_run (47 ∷ t) + 1 })
cut_line_comment t within =
    let n = line_run (47 ∷ t) in
    cut_from piece_of 47 (47 ∷ t) Blank n (λ m. only (leb m n) Blank) within
    (λ m above inside. line-fronts t m (omega arith) inside)
    (ap (λ w. only w Blank) (leb_self n))
    (λ m above _. ap (λ w. only w Blank) (leb_above m n above))
    (inr (λ inside high. let stop = line_stop (47 ∷ t) inside in absurd (omega arith)))

-- one byte
pub cut_line_end : (rest : List ℕ) → IsCut piece_of (10 ∷ rest) (record { piece = Token LineEnd; length = 1 })
unfolding piece_of is_mark
cut_line_end rest =
    cut_from piece_of 10 rest (Token LineEnd) 0 (λ m. only (eqb (suc m) 1) (Token LineEnd)) (omega arith)
    (λ m _ inside. ap (λ w. only w (Token LineEnd)) (nil-take rest m inside))
    refl
    (λ m above _. ap (λ w. only w (Token LineEnd)) (above_one m 0 above))
    (inl (omega arith))

blank_cut : (a : ℕ) (rest : List ℕ) → a < 128 → ((t : List ℕ) → piece_of (a ∷ t) ≡ only (is_nil t) Blank) → IsCut piece_of (a ∷ rest) (record { piece = Blank; length = 1 })
blank_cut a rest ascii all =
    cut_from piece_of a rest Blank 0 (λ m. only (eqb (suc m) 1) Blank) (omega arith)
    (λ m _ inside. all (take m rest) ∙ ap (λ w. only w Blank) (nil-take rest m inside))
    refl
    (λ m above _. ap (λ w. only w Blank) (above_one m 0 above))
    (inl ascii)

blank_32 : (t : List ℕ) → piece_of (32 ∷ t) ≡ only (is_nil t) Blank
unfolding piece_of is_mark
blank_32 t = refl

blank_9 : (t : List ℕ) → piece_of (9 ∷ t) ≡ only (is_nil t) Blank
unfolding piece_of is_mark
blank_9 t = refl

blank_11 : (t : List ℕ) → piece_of (11 ∷ t) ≡ only (is_nil t) Blank
unfolding piece_of is_mark
blank_11 t = refl

blank_12 : (t : List ℕ) → piece_of (12 ∷ t) ≡ only (is_nil t) Blank
unfolding piece_of is_mark
blank_12 t = refl

pub cut_blank : (a : ℕ) (rest : List ℕ) → is_blank a ≡ true → IsCut piece_of (a ∷ rest) (record { piece = Blank; length = 1 })
cut_blank a rest h = elim (either (eqb a 32 || eqb a 9 || eqb a 11) (eqb a 12) h) [
  | inr is ↦ rw (eqb-true a 12 is) (blank_cut 12 rest (omega arith) (λ t. blank_12 t))
  | inl h1 ↦ elim (either (eqb a 32 || eqb a 9) (eqb a 11) h1) [
    | inr is ↦ rw (eqb-true a 11 is) (blank_cut 11 rest (omega arith) (λ t. blank_11 t))
    | inl h2 ↦ elim (either (eqb a 32) (eqb a 9) h2) [
      | inr is ↦ rw (eqb-true a 9 is) (blank_cut 9 rest (omega arith) (λ t. blank_9 t))
      | inl is ↦ rw (eqb-true a 32 is) (blank_cut 32 rest (omega arith) (λ t. blank_32 t))
    ]
  ]
]

-- a punctuator or an Other
pub cut_punctuator : (a : ℕ) (rest : List ℕ) (n : ℕ) → IsSymbol a rest → is_mark a ≡ true → IsPunctuatorLength a rest n → IsCut piece_of (a ∷ rest) (record { piece = Token Punct; length = n })
cut_punctuator a rest n symbol mark is =
    let length_is : n ≡ n - 1 + 1 = omega (arith, is.some) in
    rw length_is
    (cut_from piece_of a rest (Token Punct) (n - 1) (λ m. only (is_punctuator (a ∷ take m rest)) (Token Punct)) (omega (arith, is.within))
    (λ m _ _. symbol m ∙ ap (λ w. if w then only (is_punctuator (a ∷ take m rest)) (Token Punct) else only (is_character a (take m rest)) (Token Other)) mark)
    (ap (λ w. only w (Token Punct)) is.here)
    (λ m above inside. ap (λ w. only w (Token Punct)) (is.beyond m (omega (arith, is.some)) inside))
    (inl is.ascii))

pub cut_other_ascii : (a : ℕ) (rest : List ℕ) → IsSymbol a rest → is_mark a ≡ false → a < 128 → IsCut piece_of (a ∷ rest) (record { piece = Token Other; length = 1 })
cut_other_ascii a rest symbol mark ascii =
    let low : ltb a 128 ≡ true = grind (arith, nat_tests) in
    cut_from piece_of a rest (Token Other) 0 (λ m. only (eqb (suc m) 1) (Token Other)) (omega arith)
    (λ m _ inside. symbol m ∙ ap (λ w. if w then only (is_punctuator (a ∷ take m rest)) (Token Punct) else only (is_character a (take m rest)) (Token Other)) mark ∙ ap (λ w. only (cond w (is_nil (take m rest)) (all_continue (take m rest))) (Token Other)) low ∙ ap (λ w. only w (Token Other)) (nil-take rest m inside))
    refl
    (λ m above _. ap (λ w. only w (Token Other)) (above_one m 0 above))
    (inl ascii)

continue_stop : (s : List ℕ) → continue_run s < length s → 128 ≤ get_or s (continue_run s) 0 → 192 ≤ get_or s (continue_run s) 0
continue_stop [] h high = absurd (omega arith)
continue_stop (b ∷ bs) h high =
    elim (leb 128 b && ltb b 192) as (λ w. (leb 128 b && ltb b 192) ≡ w → cond w (continue_run bs + 1) 0 < length (b ∷ bs) → 128 ≤ get_or (b ∷ bs) (cond w (continue_run bs + 1) 0) 0 → 192 ≤ get_or (b ∷ bs) (cond w (continue_run bs + 1) 0) 0) [
      | true ↦ λ e g i. rw add-one (continue_stop bs (omega arith) (rw add-one at i))
      | false ↦ λ e g i. grind (arith, nat_tests)
    ] refl h high

pub cut_other : (a : ℕ) (rest : List ℕ) → IsSymbol a rest → is_mark a ≡ false → 128 ≤ a → continue_run rest ≤ length rest → IsCut piece_of (a ∷ rest) (record { piece = Token Other; length = continue_run rest + 1 })
cut_other a rest symbol mark high within =
    let above_ascii : ltb a 128 ≡ false = grind (arith, nat_tests) in
    let n = continue_run rest in
    cut_from piece_of a rest (Token Other) n (λ m. only (leb m n) (Token Other)) within
    (λ m _ inside. symbol m ∙ ap (λ w. if w then only (is_punctuator (a ∷ take m rest)) (Token Punct) else only (is_character a (take m rest)) (Token Other)) mark ∙ ap (λ w. only (cond w (is_nil (take m rest)) (all_continue (take m rest))) (Token Other)) above_ascii ∙ ap (λ w. only w (Token Other)) (continue-take rest m inside))
    (ap (λ w. only w (Token Other)) (leb_self n))
    (λ m above _. ap (λ w. only w (Token Other)) (leb_above m n above))
    (inr (continue_stop rest))

-- what begins with a byte is that byte and the rest
pub begins_is : (b : ℕ) (rest : List ℕ) → begins b rest ≡ true → rest ≡ b ∷ drop 1 rest
begins_is b [] h = cc
begins_is b (x ∷ xs) h = ap (λ y. y ∷ xs) (eqb-true x b h)

begins-take : (b : ℕ) (rest : List ℕ) (m : ℕ) → begins b rest ≡ false → begins b (take m rest) ≡ false
begins-take b rest zero h = refl
begins-take b [] (suc m) h = refl
begins-take b (x ∷ xs) (suc m) h = h

pub slash_symbol : (rest : List ℕ) → begins 42 rest ≡ false → begins 47 rest ≡ false → IsSymbol 47 rest
unfolding piece_of
slash_symbol rest star line = λ m. rw (begins-take 42 rest m star, begins-take 47 rest m line) refl

differs : (a b : ℕ) → (a ≡ b → ⊥) → eqb a b ≡ false
differs a b h = true_or_false (eqb a b) (λ e. h (eqb-true a b e))

no_number-take : (a : ℕ) (rest : List ℕ) (m : ℕ) → (is_ascii_digit a || (eqb a 46 && begins_digit rest)) ≡ false → (is_ascii_digit a || (eqb a 46 && begins_digit (take m rest))) ≡ false
no_number-take a rest zero h =
    elim (is_ascii_digit a) as (λ d. (d || (eqb a 46 && begins_digit rest)) ≡ false → (d || (eqb a 46 && false)) ≡ false) [
      | true ↦ λ e. e
      | false ↦ λ _. elim (eqb a 46) as (λ w. (w && false) ≡ false) [ true ↦ refl | false ↦ refl ]
    ] h
no_number-take a [] (suc m) h = h
no_number-take a (x ∷ xs) (suc m) h = h

pub other_symbol : (a : ℕ) (rest : List ℕ) → is_nondigit a ≡ false → (is_ascii_digit a || (eqb a 46 && begins_digit rest)) ≡ false → (a ≡ 39 → ⊥) → (a ≡ 34 → ⊥) → (a ≡ 47 → ⊥) → (a ≡ 10 → ⊥) → is_blank a ≡ false → IsSymbol a rest
unfolding piece_of
other_symbol a rest word number quote double slash line blank = λ m.
    rw (word, no_number-take a rest m number, differs a 39 quote, differs a 34 double, differs a 47 slash, differs a 10 line, blank) refl

-- `rest` after the slash of a comment
pub cut_line_rest : (rest : List ℕ) → begins 47 rest ≡ true → line_run rest ≤ length rest → IsCut piece_of (47 ∷ rest) (record { piece = Blank; length = line_run rest + 1 })
cut_line_rest rest h within =
    let is = begins_is 47 rest h in
    let P : List ℕ → Type 0 = λ r. line_run r ≤ length r → IsCut piece_of (47 ∷ r) (record { piece = Blank; length = line_run r + 1 }) in
    subst P (sym is) (λ inside. cut_line_comment (drop 1 rest) inside) within

pub cut_closed_rest : (rest inside more : List ℕ) (b n : ℕ) → begins 42 rest ≡ true → inside ≡ drop 1 rest → inside ≡ b ∷ more → closed_run b more ≡ Some n → n ≤ length more → IsCut piece_of (47 ∷ rest) (record { piece = Blank; length = n + 3 })
cut_closed_rest rest inside more b n h dropped parts run within =
    let is : rest ≡ 42 ∷ b ∷ more = begins_is 42 rest h ∙ ap (λ r. 42 ∷ r) (sym dropped ∙ parts) in
    rw is (cut_closed_comment b more n run within)

pub cut_open_rest : (rest inside more : List ℕ) (b : ℕ) → begins 42 rest ≡ true → inside ≡ drop 1 rest → inside ≡ b ∷ more → closed_run b more ≡ None → IsCut piece_of (47 ∷ rest) (record { piece = OpenComment; length = length more + 3 })
cut_open_rest rest inside more b h dropped parts run =
    let is : rest ≡ 42 ∷ b ∷ more = begins_is 42 rest h ∙ ap (λ r. 42 ∷ r) (sym dropped ∙ parts) in
    rw is (cut_open_comment b more run)

empty : (xs : List ℕ) → length xs ≡ 0 → xs ≡ []
empty [] h = refl
empty (x ∷ xs) h = absurd (omega arith)

pub cut_bare_rest : (rest inside : List ℕ) → begins 42 rest ≡ true → inside ≡ drop 1 rest → length inside ≡ 0 → IsCut piece_of (47 ∷ rest) (record { piece = OpenComment; length = 2 })
cut_bare_rest rest inside h dropped none =
    let is : rest ≡ 42 ∷ [] = begins_is 42 rest h ∙ ap (λ r. 42 ∷ r) (sym dropped ∙ empty inside none) in
    rw is cut_bare_comment

-- header names
named_last : (s : List ℕ) (q a n : ℕ) → named_run q s ≡ Some n → get_or (a ∷ s) n 0 ≡ q
named_last [] q a n h = cc
named_last (b ∷ bs) q a n h =
    elim (eqb b 10) as (λ w. cond w None (cond (eqb b q) (Some 1) (longer (named_run q bs))) ≡ Some n → get_or (a ∷ b ∷ bs) n 0 ≡ q) [
      | true ↦ λ e. cc
      | false ↦ λ e. elim (eqb b q) as (λ w. eqb b q ≡ w → cond w (Some 1) (longer (named_run q bs)) ≡ Some n → get_or (a ∷ b ∷ bs) n 0 ≡ q) [
        | true ↦ λ same one. let is_one : n ≡ 1 = some_same n 1 (sym one) in rw is_one (eqb-true b q same)
        | false ↦ λ _ more. let step = longer-some _ n more in rw (step.2, add-one) (named_last bs q b step.0 step.1)
      ] refl e
    ] h

named_some : (s : List ℕ) (q n : ℕ) → named_run q s ≡ Some n → 0 < n
named_some s q zero h = let none = named-take s q 0 (omega arith) ∙ ap (is_at 0) h in cc
named_some s q (suc n) h = omega arith

nil_some : (rest : List ℕ) (m : ℕ) → 0 < m → m ≤ length rest → is_nil (take m rest) ≡ false
nil_some rest zero h within = absurd (omega arith)
nil_some [] (suc m) h within = absurd (omega arith)
nil_some (x ∷ xs) (suc m) h within = refl

named-fronts : (a q : ℕ) (rest : List ℕ) (m : ℕ) → header_end a ≡ Some q → begins q rest ≡ false → 0 < m → m ≤ length rest → header_of (a ∷ take m rest) ≡ only (is_at m (named_run q rest)) (Token HeaderName)
unfolding header_of
named-fronts a q rest m end first some inside =
    ap (λ e. named_by e (take m rest)) end
    ∙ ap (λ w. if w || begins q (take m rest) then None else only (is_named q (take m rest)) (Token HeaderName)) (nil_some rest m some inside)
    ∙ ap (λ w. if w then None else only (is_named q (take m rest)) (Token HeaderName)) (begins-take q rest m first)
    ∙ ap (λ w. only w (Token HeaderName)) (named-take rest q m inside)

end_ascii : (a q : ℕ) → header_end a ≡ Some q → q < 128
end_ascii a q h =
    elim (eqb a 60) as (λ w. cond w (Some 62) (cond (eqb a 34) (Some 34) None) ≡ Some q → q < 128) [
      | true ↦ λ e. let is = some_same 62 q e in omega arith
      | false ↦ λ e. elim (eqb a 34) as (λ w. cond w (Some 34) None ≡ Some q → q < 128) [
        | true ↦ λ g. let is = some_same 34 q g in omega arith
        | false ↦ λ g. cc
      ] e
    ] h

pub cut_named : (a q : ℕ) (rest : List ℕ) (n : ℕ) → header_end a ≡ Some q → begins q rest ≡ false → named_run q rest ≡ Some n → n ≤ length rest → IsCut header_of (a ∷ rest) (record { piece = Token HeaderName; length = n + 1 })
cut_named a q rest n end first run within =
    let some = named_some rest q n run in
    cut_from header_of a rest (Token HeaderName) n (λ m. only (is_at m (Some n)) (Token HeaderName)) within
    (λ m above inside. named-fronts a q rest m end first (omega arith) inside ∙ ap (λ r. only (is_at m r) (Token HeaderName)) run)
    (ap (λ w. only w (Token HeaderName)) (eqb_self n))
    (λ m above _. ap (λ w. only w (Token HeaderName)) (eqb_above m n above))
    (inl (rw (named_last rest q a n run) (end_ascii a q end)))

bare_none : (a : ℕ) (end : Option ℕ) → named_by end [] ≡ None
bare_none a None = refl
bare_none a (Some q) = refl

no_header : (a : ℕ) (rest : List ℕ) → ((m : ℕ) → 0 < m → m ≤ length rest → header_of (a ∷ take m rest) ≡ None) → IsNoHeader (a ∷ rest)
unfolding header_of
no_header a rest h zero within = refl
no_header a rest h (suc zero) within = bare_none a (header_end a)
no_header a rest h (suc (suc m)) within = h (suc m) (omega arith) (omega arith)

pub no_header_end : (a : ℕ) (rest : List ℕ) → header_end a ≡ None → IsNoHeader (a ∷ rest)
unfolding header_of
no_header_end a rest end = no_header a rest (λ m _ _. ap (λ e. named_by e (take m rest)) end)

pub no_header_empty : (a : ℕ) (rest : List ℕ) → length rest ≡ 0 → IsNoHeader (a ∷ rest)
no_header_empty a rest none = no_header a rest (λ m some within. absurd (omega arith))

begins_take_some : (b : ℕ) (rest : List ℕ) (m : ℕ) → 0 < m → begins b (take m rest) ≡ begins b rest
begins_take_some b rest zero h = absurd (omega arith)
begins_take_some b [] (suc m) h = refl
begins_take_some b (x ∷ xs) (suc m) h = refl

pub no_header_named : (a q : ℕ) (rest : List ℕ) → header_end a ≡ Some q → begins q rest ≡ true → IsNoHeader (a ∷ rest)
unfolding header_of
no_header_named a q rest end first = no_header a rest (λ m some within.
    ap (λ e. named_by e (take m rest)) end
    ∙ ap (λ w. if w || begins q (take m rest) then None else only (is_named q (take m rest)) (Token HeaderName)) (nil_some rest m some within)
    ∙ ap (λ w. if w then None else only (is_named q (take m rest)) (Token HeaderName)) (begins_take_some q rest m some ∙ first))

pub no_header_run : (a q : ℕ) (rest : List ℕ) → header_end a ≡ Some q → begins q rest ≡ false → named_run q rest ≡ None → IsNoHeader (a ∷ rest)
no_header_run a q rest end first run = no_header a rest (λ m some within.
    named-fronts a q rest m end first some within ∙ ap (λ r. only (is_at m r) (Token HeaderName)) run)
