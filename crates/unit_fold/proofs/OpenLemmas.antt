-- The tokens of an open piece, and what a lexer adds to their names.
use Rattle.std.proofs.Common.{◌≡◌, ◌⊎◌, inl, inr, ℕ, ◌<◌, Bool, true, false, List, [], ◌∷◌, ◌++◌, length, map, refl, sym, ap, subst, ◌∙◌, arith, length-append, Option, Some, None, if◌then◌else◌}
use Rattle.std.specs.Prelude.{reverse, unwrap_or}
use Rattle.std.proofs.lemmas.Option.{slice_get_within}
use Rattle.std.proofs.lemmas.List.{reverse-append, map-append}
use Rattle.std.proofs.lemmas.List.Elements.{All-weaker, All-head, All-tail, All-nil, All-push}
use Rattle.cm_core.specs.declared.token.Token.{Token}
use Rattle.cm_core.specs.Tables.{Extends}
use Rattle.c_lex.specs.declared.lexer.LexFault.{LexFault}
use Rattle.c_lex.specs.declared.lexer.LexFault.TheVariants.{Unclosed as LexUnclosed, BadByte as LexBadByte, LongName as LexLongName, NoMemory}
use Rattle.c_lex.specs.Nexts.{NextLexeme, GivesLexeme, fault_as}
use Rattle.c_lex.specs.Readings.{LexerState}
use Rattle.c_parse.specs.declared.cut.Cut.{Cut}
use Rattle.c_parse.specs.Cuts.{IsAfter, Follows}
use Rattle.c_parse.specs.Pieces.{role_of, is_whole, ends_piece}
use Rattle.c_parse.proofs.NameLaws.{same_roles}
use Rattle.unit_fold.specs.Tokens.{TokenAt, Next, Faulty, LineEnds, Gives, is_line_end, next_of, place_at}
use Rattle.unit_fold.specs.Forms.{is_whole_piece}
use Rattle.unit_fold.specs.Opened.{IsNumbered, AreNumbered, IsSound, token_in, tokens_in}
use Rattle.unit_fold.specs.Reads.{GoesOn, IsFresh, fault_in, token_next}
use Rattle.unit_fold.specs.declared.item.FaultAt.{FaultAt}
use Rattle.unit_fold.specs.declared.item.FaultKind.TheVariants.{Unclosed, BadByte, LongName}

-- ---- names that are numbered later change no token

same_token : (names more : List (List ℕ)) (t : Token) → Extends names more → IsNumbered names t → token_in more t ≡ token_in names t
same_token names more t extends here =
    ap (λ (o : Option (List ℕ)). let x : TokenAt = record { kind = t.kind; text = unwrap_or o []; at = place_at t.place } in x) (extends.kept t.name.index here)

pub same_tokens : (names more : List (List ℕ)) (tokens : List Token) → Extends names more → AreNumbered names tokens → tokens_in more tokens ≡ tokens_in names tokens
same_tokens names more [] extends all = refl
same_tokens names more (t ∷ tokens) extends all =
    let rest = same_tokens names more tokens extends (All-tail (IsNumbered names) t tokens all) in
    ap (λ (x : TokenAt). x ∷ tokens_in more tokens) (same_token names more t extends (All-head (IsNumbered names) t tokens all))
    ∙ ap (λ (xs : List TokenAt). token_in names t ∷ xs) rest

pub still_numbered : (names more : List (List ℕ)) (t : Token) → Extends names more → IsNumbered names t → IsNumbered more t
still_numbered names more t extends here = omega (arith, extends.longer)

pub are_numbered : (names more : List (List ℕ)) (tokens : List Token) → Extends names more → AreNumbered names tokens → AreNumbered more tokens
are_numbered names more tokens extends all = All-weaker (IsNumbered names) (IsNumbered more) (λ t here. still_numbered names more t extends here) tokens all

pub still_sound : (names more : List (List ℕ)) (tokens : List Token) (cut : Cut) (taken : ℕ) → Extends names more → IsSound names tokens cut taken → IsSound more tokens cut taken
still_sound names more tokens cut taken extends sound = record {
  numbered = are_numbered names more tokens extends sound.numbered;
  after = subst (λ rs. Follows rs cut) (sym (same_roles names more extends tokens sound.numbered)) sound.after;
  counted = sound.counted;
}

-- no tokens, behind an end of a piece
pub sound_new : (names : List (List ℕ)) (tokens : List Token) (cut : Cut) (taken : ℕ) → tokens ≡ [] → IsAfter names [] cut → IsSound names tokens cut taken
sound_new names tokens cut taken none after =
    subst (λ (ts : List Token). IsSound names ts cut taken) (sym none) (record { numbered = All-nil (IsNumbered names); after = after; counted = omega arith })

-- ---- the ends of pieces

map_map : {A B C : Type 0} (g : B → C) (f : A → B) (xs : List A) → map g (map f xs) ≡ map (λ x. g (f x)) xs
map_map g f [] = refl
map_map g f (x ∷ xs) = ap (λ (ys : List _). g (f x) ∷ ys) (map_map g f xs)

reverse_map : {A B : Type 0} (f : A → B) (xs : List A) → reverse (map f xs) ≡ map f (reverse xs)
reverse_map f [] = refl
reverse_map f (x ∷ xs) =
    reverse-append (f x ∷ []) (map f xs)
    ∙ ap (λ (ys : List _). ys ++ f x ∷ []) (reverse_map f xs)
    ∙ sym (map-append f (reverse xs) (x ∷ []))
    ∙ ap (map f) (sym (reverse-append (x ∷ []) xs))

-- a piece ends by its spelled tokens where it does by their numbers
pub whole_as : (names : List (List ℕ)) (tokens : List Token) → ends_piece names tokens ≡ is_whole_piece (tokens_in names tokens)
whole_as names tokens =
    ap is_whole (sym (ap (map (λ (t : TokenAt). role_of t.kind t.text)) (reverse_map (token_in names) tokens) ∙ map_map (λ (t : TokenAt). role_of t.kind t.text) (token_in names) (reverse tokens)))

pub tokens_more : (names : List (List ℕ)) (tokens : List Token) (t : Token) → tokens_in names (tokens ++ t ∷ []) ≡ tokens_in names tokens ++ token_in names t ∷ []
tokens_more names tokens t = map-append (token_in names) tokens (t ∷ [])

-- ---- what a lexer gives

-- a token, as the token or as a line end
pub token_given : (found : NextLexeme) (s s' : LexerState) (names : List (List ℕ)) (t : Token) → GivesLexeme found s s' names t → next_of found ≡ token_next names s'.at t
token_given found s s' names t given =
    let spelled : List ℕ → TokenAt = λ text. record { kind = t.kind; text = text; at = place_at t.place } in
    let named : TokenAt → Next = λ x. if is_line_end t.kind then LineEnds s'.at else Gives x s'.at in
    ap next_of given.is ∙ ap (λ (o : Option (List ℕ)). named (spelled (unwrap_or o []))) (sym given.given)

pub given_numbered : (found : NextLexeme) (s s' : LexerState) (names : List (List ℕ)) (t : Token) → GivesLexeme found s s' names t → IsNumbered names t
given_numbered found s s' names t given = slice_get_within names t.name.index given.text given.given

pub goes_on : (found : NextLexeme) (s s' : LexerState) (names : List (List ℕ)) (t : Token) → IsFresh s → GivesLexeme found s s' names t → GoesOn s s'
goes_on found s s' names t fresh given = record {
  text = ap (λ (x : LexerState). x.text) given.state;
  fresh = record { file = ap (λ (x : LexerState). x.file) given.state ∙ fresh.file; unspent = ap (λ (x : LexerState). x.spent) given.state ∙ fresh.unspent };
  later = given.ahead;
  within = given.inside;
}

-- a fault that is no want of memory
known_fault : (error : LexFault) (fault : FaultAt) → fault_in error ≡ Some fault → next_of (fault_as error) ≡ Faulty fault
known_fault (LexUnclosed place) fault is = let e : record { at = place_at place; kind = Unclosed } ≡ fault = cc in ap Faulty e
known_fault (LexBadByte place) fault is = let e : record { at = place_at place; kind = BadByte } ≡ fault = cc in ap Faulty e
known_fault (LexLongName place) fault is = let e : record { at = place_at place; kind = LongName } ≡ fault = cc in ap Faulty e
known_fault NoMemory fault is = absurd (cc)

pub fault_given : (found : NextLexeme) (error : LexFault) (fault : FaultAt) → (error ≡ NoMemory) ⊎ (found ≡ fault_as error) → fault_in error ≡ Some fault → next_of found ≡ Faulty fault
fault_given found error fault (inl none) is =
    let lost : fault_in error ≡ None = ap fault_in none in
    absurd (cc (lost, is))
fault_given found error fault (inr same) is = ap next_of same ∙ known_fault error fault is

-- ---- a token more

module _ (names : List (List ℕ)) (tokens : List Token) (cut : Cut) (taken : ℕ) (sound : IsSound names tokens cut taken) (t : Token) (here : IsNumbered names t) (counted : length tokens < taken) where
  -- the open piece, which does not end there
  pub sound_more : (tokens' : List Token) (cut' : Cut) (ends : Bool) → tokens' ≡ tokens ++ t ∷ [] → ends ≡ false → IsAfter names (if ends then [] else tokens ++ t ∷ []) cut' → IsSound names tokens' cut' taken
  sound_more tokens' cut' ends more more_open after =
      subst (λ (ts : List Token). IsSound names ts cut' taken) (sym more) (record {
        numbered = All-push (IsNumbered names) tokens t sound.numbered here;
        after = subst (λ (b : Bool). IsAfter names (if b then [] else tokens ++ t ∷ []) cut') more_open after;
        counted = omega (arith, length-append tokens (t ∷ []));
      })

  -- whether it ends there
  pub whole_more : (ends : Bool) → ends ≡ ends_piece names (tokens ++ t ∷ []) → is_whole_piece (tokens_in names tokens ++ token_in names t ∷ []) ≡ ends
  whole_more ends is = ap is_whole_piece (sym (tokens_more names tokens t)) ∙ sym (whole_as names (tokens ++ t ∷ [])) ∙ sym is

  pub after_whole : (cut' : Cut) (ends : Bool) → ends ≡ true → IsAfter names (if ends then [] else tokens ++ t ∷ []) cut' → IsAfter names [] cut'
  after_whole cut' ends whole after = subst (λ (b : Bool). IsAfter names (if b then [] else tokens ++ t ∷ []) cut') whole after

  pub numbered_more : AreNumbered names (tokens ++ t ∷ [])
  numbered_more = All-push (IsNumbered names) tokens t sound.numbered here
