-- What a lexer gives next, as an owner takes it.
use Rattle.std.proofs.Common.{◌≡◌, ℕ, ◌+◌, Bool, true, false, nat_lt, List, ap, sym, ◌∙◌, if◌then◌else◌}
use Rattle.unit_fold.specs.Tokens.{TokenAt, Next, Gives}
use Rattle.unit_fold.specs.Owners.{SoFar, Reading, most_tokens, ends_at, reads}
use Rattle.unit_fold.specs.Reads.{next_as}
use Rattle.unit_fold.specs.declared.item.FaultKind.TheVariants.{ManyTokens}
use Rattle.unit_fold.specs.declared.lexed.Lexed.{Lexed}

-- the open piece is held anew, with the same tokens
pub same_so_far : (p : SoFar) (taken : ℕ) (piece : List TokenAt) → taken ≡ p.taken → piece ≡ p.piece → p ≡ record p { taken = taken; piece = piece }
same_so_far p taken piece count same =
    let with_taken : ℕ → SoFar = λ n. record p { taken = n; piece = piece } in
    let with_piece : List TokenAt → SoFar = λ ts. record p { piece = ts } in
    ap with_piece (sym same) ∙ ap with_taken (sym count)

-- a lexer's answer goes on as what the text goes on with
pub reads_as : (p m : SoFar) (found : Next) (names : List (List ℕ)) (at : ℕ) (lexed kind : Lexed) (none : SoFar → Reading) (line : SoFar → ℕ → Reading) (token : SoFar → TokenAt → ℕ → Reading)
    → p ≡ m → found ≡ next_as names at lexed → lexed ≡ kind → reads p found none line token ≡ reads m (next_as names at kind) none line token
reads_as p m found names at lexed kind none line token same is kind_is =
    ap (λ (x : SoFar). reads x found none line token) same
    ∙ ap (λ (f : Next). reads m f none line token) is
    ∙ ap (λ (l : Lexed). reads m (next_as names at l) none line token) kind_is

-- a token that is counted, and one past the most
pub reads_counted : (p : SoFar) (t : TokenAt) (at : ℕ) (none : SoFar → Reading) (line : SoFar → ℕ → Reading) (token : SoFar → TokenAt → ℕ → Reading) → true ≡ nat_lt p.taken most_tokens
    → reads p (Gives t at) none line token ≡ token (record p { taken = p.taken + 1 }) t at
reads_counted p t at none line token few =
    ap (λ (b : Bool). if b then token (record p { taken = p.taken + 1 }) t at else ends_at p t.at ManyTokens) (sym few)

pub reads_past : (p : SoFar) (t : TokenAt) (at : ℕ) (none : SoFar → Reading) (line : SoFar → ℕ → Reading) (token : SoFar → TokenAt → ℕ → Reading) → false ≡ nat_lt p.taken most_tokens
    → reads p (Gives t at) none line token ≡ ends_at p t.at ManyTokens
reads_past p t at none line token many =
    ap (λ (b : Bool). if b then token (record p { taken = p.taken + 1 }) t at else ends_at p t.at ManyTokens) (sym many)
