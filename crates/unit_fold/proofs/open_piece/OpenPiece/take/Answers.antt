use Rattle.std.proofs.Common.{◌≡◌, ◌∙◌, ◌<◌, ◌++◌, ◌∷◌, [], true, false, length, refl, sym, ap, subst, arith}
use Rattle.unit_fold.specs.Forms.{is_whole_piece}
use Rattle.unit_fold.specs.Opened.{Opened, AreNumbered, IsNumbered, token_in, tokens_in}
use Rattle.unit_fold.proofs.OpenLemmas.{numbered_more, sound_more, tokens_more, whole_more}
use Rattle.unit_fold.proofs.open_piece.OpenPiece.take.Goals as goal

pub invariant_of-self-then-not-take : goal.invariant_of-self-then-not-take
invariant_of-self-then-not-take c =
    let o = c.self.inside in
    let here = subst (λ (v : Opened). IsNumbered v.names c.args.token) (sym c.self.view_is) c.requires.numbered in
    let counted = subst (λ (v : Opened). length v.tokens < v.taken) (sym c.self.view_is) c.requires.counted in
    sound_more o.names o.tokens o.cut o.taken c.self.invariant c.args.token here counted c.push.new.self c.take.new.self false c.in_ok-push.ensures.ok refl (c.if-not-take.ensures.after o.tokens c.self.invariant.after)

pub returns-then-not-take-clause-piece : goal.returns-then-not-take-clause-piece
returns-then-not-take-clause-piece c =
    let o = c.self.inside in
    let here = subst (λ (v : Opened). IsNumbered v.names c.args.token) (sym c.self.view_is) c.requires.numbered in
    let counted = subst (λ (v : Opened). length v.tokens < v.taken) (sym c.self.view_is) c.requires.counted in
    let is_open = c.if-not-take.ensures.ends o.tokens (omega (arith, counted, c.self.ranges)) c.self.invariant.after in
    subst (λ (v : Opened). (is_whole_piece (tokens_in v.names v.tokens ++ token_in v.names c.args.token ∷ []) ≡ false) × (tokens_in o.names c.push.new.self ≡ tokens_in v.names v.tokens ++ token_in v.names c.args.token ∷ [])) c.self.view_is
    (whole_more o.names o.tokens o.cut o.taken c.self.invariant c.args.token here counted false is_open, ap (tokens_in o.names) c.in_ok-push.ensures.ok ∙ tokens_more o.names o.tokens c.args.token)

pub returns-clause-piece : goal.returns-clause-piece
returns-clause-piece c =
    let o = c.self.inside in
    let here = subst (λ (v : Opened). IsNumbered v.names c.args.token) (sym c.self.view_is) c.requires.numbered in
    let counted = subst (λ (v : Opened). length v.tokens < v.taken) (sym c.self.view_is) c.requires.counted in
    let whole = c.if-not-take.ensures.ends o.tokens (omega (arith, counted, c.self.ranges)) c.self.invariant.after in
    let given = c.replace.ensures.value ∙ c.in_ok-push.ensures.ok in
    subst (λ (v : Opened). (is_whole_piece (tokens_in v.names v.tokens ++ token_in v.names c.args.token ∷ []) ≡ true) × (tokens_in o.names c.replace.result ≡ tokens_in v.names v.tokens ++ token_in v.names c.args.token ∷ [])
    × AreNumbered o.names c.replace.result × (c.replace.new.dest ≡ [])) c.self.view_is (
      whole_more o.names o.tokens o.cut o.taken c.self.invariant c.args.token here counted true whole,
      ap (tokens_in o.names) given ∙ tokens_more o.names o.tokens c.args.token,
      subst (AreNumbered o.names) (sym given) (numbered_more o.names o.tokens o.cut o.taken c.self.invariant c.args.token here counted),
      c.replace.ensures.after ∙ c.new.ensures,
    )
