-- The bound on the tokens of a text is never met, so reading on is one step and then reading on.
use Rattle.std.proofs.Common.{◌≡◌, ℕ, zero, suc, ◌+◌, ◌<◌, ◌≤◌, Bool, true, false, ◌&&◌, nat_lt, List, length, Option, Some, None, refl, sym, ap, ◌∙◌, arith, if◌then◌else◌, codes}
use Rattle.std.proofs.Math.Path.{fun_ext}
use Rattle.cm_core.specs.declared.numbers.Owner.{Owner}
use Rattle.cm_source.specs.LogicalText.{Logical}
use Rattle.unit_fold.specs.Tokens.{TokenAt, Next, NoneLeft, Faulty, LineEnds, Gives, next, next_name, is_hash, is_word, quoted}
use Rattle.unit_fold.specs.Owners.{SoFar, Reading, Ends, Includes, most_tokens, has_tokens, has_pointer, with_import, with_token, stops, ends_at, included, includes, reads, include_end, include_name, include_line, directive, token_step, read_tokens, read_on}
use Rattle.unit_fold.specs.declared.at.At.{At}
use Rattle.unit_fold.specs.declared.item.FaultKind.TheVariants.{ManyTokens}
use Rattle.unit_fold.specs.declared.given.Given.{Given}
use Rattle.unit_fold.specs.declared.given.Given.TheVariants.{Again, Text, Imported as Import_of, Refused, Skip, NotBuilt as NotBuiltYet}
use Rattle.unit_fold.proofs.Ahead.{Leads, leads, name_leads}

if_same : {A : Type 0} (b : Bool) (x y z : A) → x ≡ y → (if b then x else z) ≡ (if b then y else z)
if_same true x y z h = h
if_same false x y z h = refl

-- an include goes on as before where what follows is the same
included_same : (p : SoFar) (at : At) (given : Given) (more other : SoFar → Reading) → ((q : SoFar) → more q ≡ other q) → included p at given more ≡ included p at given other
included_same p at (Import_of m names) more other same = by (has_pointer p names)
  where
    by : (b : Bool) → (if b then stops p at else more (with_import p m at names)) ≡ (if b then stops p at else other (with_import p m at names))
    by true = refl
    by false = same (with_import p m at names)
included_same p at (Refused kind) more other same = same _
included_same p at Skip more other same = same p
included_same p at NotBuiltYet more other same = refl
included_same p at Again more other same = refl
included_same p at (Text bytes path) more other same = refl

pub includes_same : (p : SoFar) (at : At) (file : List ℕ) (more other : SoFar → Reading) → ((q : SoFar) → more q ≡ other q) → includes p at file more ≡ includes p at file other
includes_same p at file more other same =
    ap (λ (f : Given → Reading). Includes at file f) (fun_ext (λ (given : Given). included_same p at given more other same))

-- what follows the next token is the same, where it is so behind that
reads_same : (text : Logical) (at : ℕ) (p : SoFar) (found : Next) (none none' : SoFar → Reading) (line line' : SoFar → ℕ → Reading) (token token' : SoFar → TokenAt → ℕ → Reading)
    → Leads text.bytes at found → ((q : SoFar) → none q ≡ none' q) → ((q : SoFar) (to : ℕ) → at < to → line q to ≡ line' q to)
    → ((q : SoFar) (t : TokenAt) (to : ℕ) → at < to → token q t to ≡ token' q t to) → reads p found none line token ≡ reads p found none' line' token'
reads_same text at p NoneLeft none none' line line' token token' ahead at_end at_line at_token = at_end p
reads_same text at p (Faulty fault) none none' line line' token token' ahead at_end at_line at_token = refl
reads_same text at p (LineEnds to) none none' line line' token token' ahead at_end at_line at_token = at_line p to ahead.0
reads_same text at p (Gives t to) none none' line line' token token' ahead at_end at_line at_token =
    let q : SoFar = record p { taken = p.taken + 1 } in
    if_same (nat_lt p.taken most_tokens) (token q t to) (token' q t to) (ends_at p t.at ManyTokens) (at_token q t to ahead.0)

module _ (text : Logical) (at : ℕ) (more other : SoFar → ℕ → Reading) (same : (q : SoFar) (to : ℕ) → at ≤ to → more q to ≡ other q to) where
  include_end_same : (p : SoFar) (hash : At) (file : List ℕ) (here : ℕ) → at ≤ here → include_end text p hash file here more ≡ include_end text p hash file here other
  include_end_same p hash file here later =
      reads_same text here p (next text here) _ _ _ _ _ _ (leads text here)
      (λ q. includes_same q hash file (λ r. more r here) (λ r. other r here) (λ r. same r here later))
      (λ q to ahead. includes_same q hash file (λ r. more r to) (λ r. other r to) (λ r. same r to (omega arith)))
      (λ q t to ahead. refl)

  include_name_same : (p : SoFar) (hash : At) (file : Option (List ℕ)) (here : ℕ) → at ≤ here → include_name text p hash file here more ≡ include_name text p hash file here other
  include_name_same p hash None here later = refl
  include_name_same p hash (Some file) here later = include_end_same p hash file here later

  include_line_same : (p : SoFar) (hash : At) (here : ℕ) → at ≤ here → include_line text p hash here more ≡ include_line text p hash here other
  include_line_same p hash here later =
      reads_same text here p (next_name text here) _ _ _ _ _ _ (name_leads text here) (λ q. refl) (λ q to ahead. refl)
      (λ q t to ahead. include_name_same q hash (quoted t) to (omega arith))

  pub directive_same : (p : SoFar) (hash : At) (here : ℕ) → at ≤ here → directive text p hash here more ≡ directive text p hash here other
  directive_same p hash here later = by (has_tokens p.piece)
    where
      line : (SoFar → ℕ → Reading) → SoFar → TokenAt → ℕ → Reading
      line go q word to = if is_word (codes "include") word then include_line text q hash to go else stops q hash

      go_on : (SoFar → ℕ → Reading) → Reading
      go_on go = reads p (next text here) (λ q. stops q hash) (λ q to. stops q hash) (line go)

      by : (b : Bool) → (if b then stops p hash else go_on more) ≡ (if b then stops p hash else go_on other)
      by true = refl
      by false =
          reads_same text here p (next text here) (λ q. stops q hash) (λ q. stops q hash) (λ q to. stops q hash) (λ q to. stops q hash) (line more) (line other) (leads text here) (λ q. refl) (λ q to ahead. refl)
          (λ q word to ahead. if_same (is_word (codes "include") word) _ _ (stops q hash) (include_line_same q hash to (omega arith)))

-- a step leads to places behind it alone
step_same : (owner : Owner) (text : Logical) (first : Bool) (p : SoFar) (at : ℕ) (more other : Bool → SoFar → ℕ → Reading)
    → ((b : Bool) (q : SoFar) (to : ℕ) → at < to → more b q to ≡ other b q to) → token_step owner text first p at more ≡ token_step owner text first p at other
step_same owner text first p at more other same =
    reads_same text at p (next text at) (λ q. Ends false q) (λ q. Ends false q) (more true) (other true) (line more) (line other) (leads text at)
    (λ q. refl) (λ q to ahead. same true q to ahead)
    (λ q t to ahead. by q t to ahead (first && is_hash t))
  where
    line : (Bool → SoFar → ℕ → Reading) → SoFar → TokenAt → ℕ → Reading
    line go q t to = if first && is_hash t then directive text q t.at to (go true) else go false (with_token owner q t) to

    by : (q : SoFar) (t : TokenAt) (to : ℕ) → at < to → (b : Bool)
        → (if b then directive text q t.at to (more true) else more false (with_token owner q t) to) ≡ (if b then directive text q t.at to (other true) else other false (with_token owner q t) to)
    by q t to ahead true = directive_same text to (more true) (other true) (λ r next later. same true r next (omega arith)) q t.at to (omega arith)
    by q t to ahead false = same false (with_token owner q t) to ahead

-- a text that has no bytes from there on
none_left : (text : Logical) (at : ℕ) (found : Next) → length text.bytes ≤ at → Leads text.bytes at found → found ≡ NoneLeft
none_left text at NoneLeft end h = refl
none_left text at (Faulty fault) end h = absurd (omega arith)
none_left text at (LineEnds to) end h = absurd (omega (arith, h.1))
none_left text at (Gives t to) end h = absurd (omega (arith, h.1))

step_at_end : (owner : Owner) (text : Logical) (first : Bool) (p : SoFar) (at : ℕ) (more : Bool → SoFar → ℕ → Reading) → length text.bytes ≤ at → token_step owner text first p at more ≡ Ends false p
step_at_end owner text first p at more end =
    ap (λ (found : Next). reads p found (λ q. Ends false q) (more true) (λ q t to. if first && is_hash t then directive text q t.at to (more true) else more false (with_token owner q t) to))
    (none_left text at (next text at) end (leads text at))

enough : (owner : Owner) (text : Logical) (n m : ℕ) (first : Bool) (p : SoFar) (at : ℕ) → length text.bytes ≤ n + at → length text.bytes ≤ m + at
    → read_tokens n owner text first p at ≡ read_tokens m owner text first p at
enough owner text zero zero first p at h k = refl
enough owner text zero (suc m) first p at h k = sym (step_at_end owner text first p at (read_tokens m owner text) (omega arith))
enough owner text (suc n) zero first p at h k = step_at_end owner text first p at (read_tokens n owner text) (omega arith)
enough owner text (suc n) (suc m) first p at h k =
    step_same owner text first p at (read_tokens n owner text) (read_tokens m owner text) (λ b q to ahead. enough owner text n m b q to (omega arith) (omega arith))

-- reading on is a step, and reading on from there
pub read_on-step : (owner : Owner) (text : Logical) (first : Bool) (p : SoFar) (at : ℕ) → read_on owner text first p at ≡ token_step owner text first p at (read_on owner text)
unfolding read_on
read_on-step owner text first p at =
    let n = length text.bytes in
    ap (λ (k : ℕ). read_tokens k owner text first p at) (plus_one n)
    ∙ step_same owner text first p at (read_tokens n owner text) (read_on owner text) (λ b q to ahead. enough owner text n (n + 1) b q to (omega arith) (omega arith))
  where
    plus_one : (n : ℕ) → n + 1 ≡ suc n
    plus_one n = omega arith
