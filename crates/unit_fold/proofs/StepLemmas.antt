-- What a token and a piece come to.
use Rattle.std.proofs.Common.{◌≡◌, ℕ, Bool, true, false, List, [], ◌∷◌, ◌++◌, slice_get, Some, None, refl, sym, ap, ◌∙◌, append_assoc, if◌then◌else◌}
use Rattle.cm_core.specs.declared.numbers.Owner.{Owner}
use Rattle.cm_core.specs.declared.token.Token.{Token}
use Rattle.unit_fold.specs.Tokens.{TokenAt, place_at}
use Rattle.unit_fold.specs.Forms.{form_of, is_whole_piece}
use Rattle.unit_fold.specs.Opened.{tokens_in}
use Rattle.unit_fold.specs.Owners.{SoFar, add_fault, clashes, fault_item, named, is_int, pointing, with_form, with_piece, with_pointer, with_token}
use Rattle.unit_fold.specs.declared.at.At.{At}
use Rattle.unit_fold.specs.declared.item.Item.{Item}
use Rattle.unit_fold.specs.declared.item.Item.TheVariants.{Pointer}
use Rattle.unit_fold.specs.declared.item.FaultKind.TheVariants.{NotBuilt, NotDeclared}

-- a piece that is empty, or has a first token
pub piece_none : (owner : Owner) (p : SoFar) (names : List (List ℕ)) (tokens : List Token) → slice_get tokens 0 ≡ None → with_piece owner p (tokens_in names tokens) ≡ p
piece_none owner p names [] none = refl
piece_none owner p names (t ∷ tokens) none = absurd (cc)

pub piece_first : (owner : Owner) (p : SoFar) (names : List (List ℕ)) (tokens : List Token) (first : Token) → slice_get tokens 0 ≡ Some first
    → with_piece owner p (tokens_in names tokens) ≡ with_form p (place_at first.place) (form_of owner (tokens_in names tokens))
piece_first owner p names [] first is = absurd (cc)
piece_first owner p names (t ∷ tokens) first is =
    let same : t ≡ first = cc in
    ap (λ (x : Token). with_form p (place_at x.place) (form_of owner (tokens_in names (t ∷ tokens)))) same

-- a token in the open piece
pub token_open : (owner : Owner) (p : SoFar) (t : TokenAt) (q : SoFar) → is_whole_piece (p.piece ++ t ∷ []) ≡ false → q ≡ record p { piece = p.piece ++ t ∷ [] } → with_token owner p t ≡ q
token_open owner p t q is_open is =
    ap (λ (b : Bool). if b then with_piece owner (record p { piece = [] }) (p.piece ++ t ∷ []) else record p { piece = p.piece ++ t ∷ [] }) is_open ∙ sym is

pub token_whole : (owner : Owner) (p : SoFar) (t : TokenAt) → is_whole_piece (p.piece ++ t ∷ []) ≡ true → with_token owner p t ≡ with_piece owner (record p { piece = [] }) (p.piece ++ t ∷ [])
token_whole owner p t is =
    ap (λ (b : Bool). if b then with_piece owner (record p { piece = [] }) (p.piece ++ t ∷ []) else record p { piece = p.piece ++ t ∷ [] }) is

-- the open piece is held anew, with these tokens
pub held_anew : (p : SoFar) (taken : ℕ) (now piece : List TokenAt) → taken ≡ p.taken → now ≡ piece → record p { taken = taken; piece = now } ≡ record p { piece = piece }
held_anew p taken now piece count same =
    let with_taken : ℕ → SoFar = λ n. record p { taken = n; piece = now } in
    let with_tokens : List TokenAt → SoFar = λ ts. record p { piece = ts } in
    ap with_taken count ∙ ap with_tokens same

pub take_whole : (owner : Owner) (p m r : SoFar) (t : TokenAt) (piece : List TokenAt) → is_whole_piece (p.piece ++ t ∷ []) ≡ true → m ≡ record p { piece = [] } → piece ≡ p.piece ++ t ∷ [] → r ≡ with_piece owner m piece
    → r ≡ with_token owner p t
take_whole owner p m r t piece whole drained same is =
    is
    ∙ ap (λ (x : SoFar). with_piece owner x piece) drained
    ∙ ap (λ (ts : List TokenAt). with_piece owner (record p { piece = [] }) ts) same
    ∙ sym (token_whole owner p t whole)

pub pointer_clear : (p : SoFar) (first : At) (name target : TokenAt) → clashes p name.text target.text ≡ false → with_pointer p first name target ≡ pointing p name target
pointer_clear p first name target clear = ap (λ (b : Bool). if b then add_fault p first NotBuilt else pointing p name target) clear

-- a pointer, whose operand is visible or told
pub pointer_declared : (p q : SoFar) (name target : TokenAt) → is_int p target.text ≡ true
    → q ≡ record p { items = p.items ++ (Pointer (named name) ∷ []); pointers = p.pointers ++ (name.text ∷ []) } → pointing p name target ≡ q
pointer_declared p q name target visible is =
    ap (λ (b : Bool). let r : SoFar = record p { items = p.items ++ (Pointer (named name) ∷ (if b then [] else fault_item target.at (NotDeclared target.text) ∷ [])); pointers = p.pointers ++ (name.text ∷ []) } in r) visible ∙ sym is

pub pointer_undeclared : (p q r : SoFar) (name target : TokenAt) → is_int p target.text ≡ false
    → q ≡ record p { items = p.items ++ (Pointer (named name) ∷ []); pointers = p.pointers ++ (name.text ∷ []) } → r ≡ add_fault q target.at (NotDeclared target.text) → pointing p name target ≡ r
pointer_undeclared p q r name target hidden first second =
    let told : List Item = fault_item target.at (NotDeclared target.text) ∷ [] in
    let with_items : List Item → SoFar = λ items. record p { items = items; pointers = p.pointers ++ (name.text ∷ []) } in
    ap (λ (b : Bool). with_items (p.items ++ (Pointer (named name) ∷ (if b then [] else told)))) hidden
    ∙ ap with_items (sym (append_assoc p.items (Pointer (named name) ∷ []) told))
    ∙ ap (λ (x : SoFar). add_fault x target.at (NotDeclared target.text)) (sym first)
    ∙ sym second
