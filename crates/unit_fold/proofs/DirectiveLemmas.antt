-- How directives and tokens go on by what was taken.
use Rattle.std.proofs.Common.{◌≡◌, ℕ, Bool, true, false, ◌&&◌, List, Option, refl, ap, ◌∙◌, if◌then◌else◌, codes}
use Rattle.cm_core.specs.declared.numbers.Owner.{Owner}
use Rattle.cm_core.specs.declared.token.Token.{Token as CodeToken}
use Rattle.cm_source.specs.LogicalText.{Logical}
use Rattle.unit_fold.specs.Tokens.{TokenAt, Next, is_hash, is_word, quoted, next, next_name}
use Rattle.unit_fold.specs.Opened.{token_in}
use Rattle.unit_fold.specs.Owners.{SoFar, Reading, Ends, has_tokens, includes, include_end, include_line, include_name, directive, reads, stops, token_step, with_token}
use Rattle.unit_fold.specs.Reads.{taken_as}
use Rattle.unit_fold.specs.declared.at.At.{At}
use Rattle.unit_fold.specs.declared.lexed.Taken.{Taken}
use Rattle.unit_fold.specs.declared.lexed.Taken.TheVariants.{End, LineEnd, Token}
use Rattle.unit_fold.proofs.ReadLemmas.{taken_same}

abbrev pub stopping : At → SoFar → Reading
stopping hash p = stops p hash

-- what follows where nothing that a directive needs was taken
abbrev pub otherwise : List (List ℕ) → SoFar → ℕ → Taken → At → Reading
otherwise names q to taken hash = taken_as names q to taken (λ p. stops p hash) (λ p next. stops p hash) (λ p t next. stops p hash)

module _ (text : Logical) (p q : SoFar) (at to : ℕ) (names : List (List ℕ)) (taken : Taken) (hash : At) (more : Bool → SoFar → ℕ → Reading) (end : Reading) where
  -- what was taken is what the text goes on with
  abbrev pub IsTaken : Next → Type 0
  IsTaken found = (none : SoFar → Reading) (line : SoFar → ℕ → Reading) (token : SoFar → TokenAt → ℕ → Reading) → reads p found none line token ≡ taken_as names q to taken none line token

  -- ---- behind the name of an include

  abbrev end_none : List ℕ → SoFar → Reading
  end_none file r = includes r hash file (λ s. more true s at)

  abbrev end_line : List ℕ → SoFar → ℕ → Reading
  end_line file r n = includes r hash file (λ s. more true s n)

  abbrev end_token : SoFar → TokenAt → ℕ → Reading
  end_token r t n = stops r hash

  pub end_at_end : (file : List ℕ) → IsTaken (next text at) → taken ≡ End → includes q hash file (λ s. more true s at) ≡ end → include_end text p hash file at (more true) ≡ end
  end_at_end file reading is follow =
      reading (end_none file) (end_line file) end_token ∙ ap (λ (k : Taken). taken_as names q to k (end_none file) (end_line file) end_token) is ∙ follow

  pub end_at_line : (file : List ℕ) → IsTaken (next text at) → taken ≡ LineEnd → includes q hash file (λ s. more true s to) ≡ end → include_end text p hash file at (more true) ≡ end
  end_at_line file reading is follow =
      reading (end_none file) (end_line file) end_token ∙ ap (λ (k : Taken). taken_as names q to k (end_none file) (end_line file) end_token) is ∙ follow

  pub end_otherwise : (file : List ℕ) → IsTaken (next text at) → (taken ≡ End → ⊥) → (taken ≡ LineEnd → ⊥) → otherwise names q to taken hash ≡ end → include_end text p hash file at (more true) ≡ end
  end_otherwise file reading no_end no_line follow =
      reading (end_none file) (end_line file) end_token
      ∙ taken_same names q to taken (end_none file) (λ r. stops r hash) (end_line file) (λ r n. stops r hash) end_token (λ r t n. stops r hash) (λ e. absurd (no_end e)) (λ e. absurd (no_line e)) (λ t e. refl)
      ∙ follow

  -- ---- behind `#include`

  abbrev name_token : SoFar → TokenAt → ℕ → Reading
  name_token r name n = include_name text r hash (quoted name) n (more true)

  pub name_otherwise : IsTaken (next_name text at) → ((t : CodeToken) → taken ≡ Token t → ⊥) → otherwise names q to taken hash ≡ end → include_line text p hash at (more true) ≡ end
  name_otherwise reading no_token follow =
      reading (λ r. stops r hash) (λ r n. stops r hash) name_token
      ∙ taken_same names q to taken (λ r. stops r hash) (λ r. stops r hash) (λ r n. stops r hash) (λ r n. stops r hash) name_token (λ r t n. stops r hash) (λ e. refl) (λ e. refl) (λ t e. absurd (no_token t e))
      ∙ follow

  pub name_taken : (name : CodeToken) (file : Option (List ℕ)) → IsTaken (next_name text at) → taken ≡ Token name → quoted (token_in names name) ≡ file → include_name text q hash file to (more true) ≡ end → include_line text p hash at (more true) ≡ end
  name_taken name file reading is named follow =
      reading (λ r. stops r hash) (λ r n. stops r hash) name_token
      ∙ ap (λ (k : Taken). taken_as names q to k (λ r. stops r hash) (λ r n. stops r hash) name_token) is
      ∙ ap (λ (o : Option (List ℕ)). include_name text q hash o to (more true)) named
      ∙ follow

  -- ---- behind `#`

  abbrev word_token : SoFar → TokenAt → ℕ → Reading
  word_token r word n = if is_word (codes "include") word then include_line text r hash n (more true) else stops r hash

  abbrev word_read : Reading
  word_read = reads p (next text at) (λ r. stops r hash) (λ r n. stops r hash) word_token

  pub outside : has_tokens p.piece ≡ false → directive text p hash at (more true) ≡ word_read
  outside none = ap (λ (b : Bool). if b then stops p hash else word_read) none

  pub inside : has_tokens p.piece ≡ true → stops p hash ≡ end → directive text p hash at (more true) ≡ end
  inside some follow = ap (λ (b : Bool). if b then stops p hash else word_read) some ∙ follow

  pub word_otherwise : has_tokens p.piece ≡ false → IsTaken (next text at) → ((t : CodeToken) → taken ≡ Token t → ⊥) → otherwise names q to taken hash ≡ end → directive text p hash at (more true) ≡ end
  word_otherwise none reading no_token follow =
      outside none
      ∙ reading (λ r. stops r hash) (λ r n. stops r hash) word_token
      ∙ taken_same names q to taken (λ r. stops r hash) (λ r. stops r hash) (λ r n. stops r hash) (λ r n. stops r hash) word_token (λ r t n. stops r hash) (λ e. refl) (λ e. refl) (λ t e. absurd (no_token t e))
      ∙ follow

  word_taken : (word : CodeToken) → has_tokens p.piece ≡ false → IsTaken (next text at) → taken ≡ Token word → directive text p hash at (more true) ≡ word_token q (token_in names word) to
  word_taken word none reading is =
      outside none ∙ reading (λ r. stops r hash) (λ r n. stops r hash) word_token ∙ ap (λ (k : Taken). taken_as names q to k (λ r. stops r hash) (λ r n. stops r hash) word_token) is

  pub word_include : (word : CodeToken) → has_tokens p.piece ≡ false → IsTaken (next text at) → taken ≡ Token word → is_word (codes "include") (token_in names word) ≡ true → include_line text q hash to (more true) ≡ end → directive text p hash at (more true) ≡ end
  word_include word none reading is is_so follow =
      word_taken word none reading is ∙ ap (λ (b : Bool). if b then include_line text q hash to (more true) else stops q hash) is_so ∙ follow

  pub word_other : (word : CodeToken) → has_tokens p.piece ≡ false → IsTaken (next text at) → taken ≡ Token word → is_word (codes "include") (token_in names word) ≡ false → stops q hash ≡ end → directive text p hash at (more true) ≡ end
  word_other word none reading is is_not follow =
      word_taken word none reading is ∙ ap (λ (b : Bool). if b then include_line text q hash to (more true) else stops q hash) is_not ∙ follow

  -- ---- a token

  module _ (owner : Owner) (first : Bool) where
    abbrev step_token : SoFar → TokenAt → ℕ → Reading
    step_token r t n = if first && is_hash t then directive text r t.at n (more true) else more false (with_token owner r t) n

    pub step_taken : (kind : Taken) → IsTaken (next text at) → taken ≡ kind → taken_as names q to kind (λ r. Ends false r) (more true) step_token ≡ end → token_step owner text first p at more ≡ end
    step_taken kind reading is follow =
        reading (λ r. Ends false r) (more true) step_token ∙ ap (λ (k : Taken). taken_as names q to k (λ r. Ends false r) (more true) step_token) is ∙ follow

    pub step_hash : (t : CodeToken) → IsTaken (next text at) → taken ≡ Token t → (first && is_hash (token_in names t)) ≡ true → directive text q (token_in names t).at to (more true) ≡ end → token_step owner text first p at more ≡ end
    step_hash t reading is is_so follow =
        step_taken (Token t) reading is (ap (λ (b : Bool). if b then directive text q (token_in names t).at to (more true) else more false (with_token owner q (token_in names t)) to) is_so ∙ follow)

    pub step_other : (t : CodeToken) → IsTaken (next text at) → taken ≡ Token t → (first && is_hash (token_in names t)) ≡ false → more false (with_token owner q (token_in names t)) to ≡ end → token_step owner text first p at more ≡ end
    step_other t reading is is_not follow =
        step_taken (Token t) reading is (ap (λ (b : Bool). if b then directive text q (token_in names t).at to (more true) else more false (with_token owner q (token_in names t)) to) is_not ∙ follow)
