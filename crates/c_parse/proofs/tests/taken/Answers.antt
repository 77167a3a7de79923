use Rattle.std.proofs.Common.{◌≡◌, ◌∙◌, refl, sym, ap, subst, ℕ, ◌+◌, ◌<◌, ◌≤◌, ◌^◌, Bool, true, false, if◌then◌else◌, List, [], ◌∷◌, ◌++◌, length, drop, get_or, add-one, drop-cons, append_assoc, length-append, arith}
use Rattle.cm_core.specs.declared.token.Token.{Token}
use Rattle.c_parse.specs.declared.cut.Cut.{Cut}
use Rattle.c_parse.specs.Cuts.{IsAfter}
use Rattle.c_parse.specs.Pieces.{ends_piece, pieces, pieces_after}
use Rattle.c_parse.proofs.tests.taken.Goals as goal
use Rattle.c_parse.proofs.tests.taken.Goals.{then-take+in_ok-push-2, else-take}

-- the invariant, and it with one token more
abbrev Cuts : List (List ℕ) → List Token → ℕ → List (List Token) → List Token → Cut → Type 0
Cuts names tokens i parts part cut = (parts ++ pieces_after names part (drop i tokens) ≡ pieces names tokens) × IsAfter names part cut × (length part ≤ i)

module _ (names : List (List ℕ)) (tokens : List Token) (i : ℕ) (d : Token) (within : i < length tokens) (parts : List (List Token)) (part : List Token) (old new : Cut) (is_last : Bool) (now : Cuts names tokens i parts part old) where
  abbrev next : List Token
  next = part ++ get_or tokens i d ∷ []

  abbrev cut_there : Bool → List (List Token)
  cut_there b = if b then next ∷ pieces_after names [] (drop (i + 1) tokens) else pieces_after names next (drop (i + 1) tokens)

  cut_as : is_last ≡ ends_piece names next → (b : Bool) → is_last ≡ b → parts ++ cut_there b ≡ pieces names tokens
  cut_as e b same =
      let rest : drop i tokens ≡ get_or tokens i d ∷ drop (i + 1) tokens = drop-cons tokens i d within ∙ ap (λ n. get_or tokens i d ∷ drop n tokens) (sym (add-one i)) in
      ap (λ x. parts ++ cut_there x) (sym same ∙ e) ∙ ap (λ ts. parts ++ pieces_after names part ts) (sym rest) ∙ now.0

  more : is_last ≡ ends_piece names next → IsAfter names (if is_last then [] else next) new → (ps : List (List Token)) (p : List Token)
      → is_last ≡ true → ps ≡ parts ++ next ∷ [] → p ≡ [] → Cuts names tokens (i + 1) ps p new
  more e after ps p last put left =
      let F : Bool → Type 0 = λ b. IsAfter names (if b then [] else next) new in
      let G : List Token → Type 0 = λ ts. IsAfter names ts new in
      let tail = drop (i + 1) tokens in (
        ap (λ x. x ++ pieces_after names p tail) put ∙ ap (λ x. (parts ++ next ∷ []) ++ pieces_after names x tail) left
            ∙ append_assoc parts (next ∷ []) (pieces_after names [] tail) ∙ cut_as e true last,
        subst G (sym left) (subst F last after),
        omega (arith, ap length left),
      )

  longer : is_last ≡ ends_piece names next → IsAfter names (if is_last then [] else next) new → (ps : List (List Token)) (p : List Token)
      → is_last ≡ false → ps ≡ parts → p ≡ next → Cuts names tokens (i + 1) ps p new
  longer e after ps p not_last put left =
      let F : Bool → Type 0 = λ b. IsAfter names (if b then [] else next) new in
      let G : List Token → Type 0 = λ ts. IsAfter names ts new in
      let tail = drop (i + 1) tokens in (
        ap (λ x. x ++ pieces_after names p tail) put ∙ ap (λ x. parts ++ pieces_after names x tail) left ∙ cut_as e false not_last,
        subst G (sym left) (subst F not_last after),
        omega (arith, ap length left, length-append part (get_or tokens i d ∷ []), now.2),
      )

pub loop-token-init : goal.loop-token-init
unfolding pieces
loop-token-init c =
    let F : List Token → Type 0 = λ ts. IsAfter c.args.names.now ts c.new-cut.result in
    (rw (c.new-parts.ensures, c.new-part.ensures) refl, subst F (sym c.new-part.ensures) (c.new-cut.ensures c.args.names.now), rw c.new-part.ensures (omega arith))

pub loop-token-preserved : goal.loop-token-preserved
loop-token-preserved c =
    let now = c.loop-token.invariant in
    let part = c.loop-token.part in
    let few : length part < 2 ^ 64 = omega (arith, now.2) in
    let ends = c.take.ensures.ends part few now.1 in
    let after = c.take.ensures.after part now.1 in
    let pushed = c.in_ok-push.ensures.ok in
    let within = c.loop-token-test.true in
    let names = c.args.names.now in
    let tokens = c.args.tokens.now in
    let i = c.loop-token.token-index in
    elim c.if-take.branch [
      | then-take+in_ok-push-2 w ↦ more names tokens i _ within c.loop-token.parts part c.loop-token.cut c.take.new.self c.take.result now ends after c.if-take.parts c.if-take.part w.if-take.true (w.parts-is ∙ w.in_ok-push-2.ensures.ok ∙ ap (λ p. c.loop-token.parts ++ p ∷ []) pushed) (w.part-is ∙ w.new-part-then-take.ensures)
      | else-take w ↦ longer names tokens i _ within c.loop-token.parts part c.loop-token.cut c.take.new.self c.take.result now ends after c.if-take.parts c.if-take.part w.if-take.false w.parts-is (w.part-is ∙ pushed)
    ]
