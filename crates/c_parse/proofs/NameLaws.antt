-- Names that are numbered later change no role of a token.
use Rattle.std.proofs.Common.{◌≡◌, ◌∙◌, refl, sym, ap, if◌then◌else◌, ℕ, ◌<◌, List, [], ◌∷◌, ◌++◌, length, map}
use Rattle.std.specs.List.{All}
use Rattle.std.specs.Prelude.{reverse, unwrap_or}
use Rattle.std.proofs.lemmas.List.{reverse-append, map-append}
use Rattle.std.proofs.lemmas.List.Elements.{All-append, All-cons, All-head, All-nil, All-tail}
use Rattle.cm_core.specs.declared.token.Token.{Token}
use Rattle.cm_core.specs.Tables.{Extends}
use Rattle.c_parse.specs.Pieces.{token_role, roles, role_of, is_whole, ends_piece, pieces_after}

module _ (names more : List (List ℕ)) (extends : Extends names more) where
  abbrev pub IsNamed : Token → Type 0
  IsNamed t = t.name.index < length names

  same_role : (t : Token) → IsNamed t → token_role more t ≡ token_role names t
  same_role t named = ap (λ text. role_of t.kind (unwrap_or text [])) (extends.kept t.name.index named)

  roles_cons : (table : List (List ℕ)) (t : Token) (tokens : List Token) → roles table (t ∷ tokens) ≡ roles table tokens ++ token_role table t ∷ []
  roles_cons table t tokens = ap (map (token_role table)) (reverse-append (t ∷ []) tokens) ∙ map-append (token_role table) (reverse tokens) (t ∷ [])

  pub same_roles : (tokens : List Token) → All IsNamed tokens → roles more tokens ≡ roles names tokens
  same_roles [] all = refl
  same_roles (t ∷ tokens) all =
      let rest = same_roles tokens (All-tail IsNamed t tokens all) in
      let here = same_role t (All-head IsNamed t tokens all) in
      roles_cons more t tokens ∙ ap (λ rs. rs ++ token_role more t ∷ []) rest ∙ ap (λ r. roles names tokens ++ r ∷ []) here ∙ sym (roles_cons names t tokens)

  pub same_pieces : (before tokens : List Token) → All IsNamed before → All IsNamed tokens → pieces_after more before tokens ≡ pieces_after names before tokens
  same_pieces before [] all_before all = refl
  same_pieces before (t ∷ tokens) all_before all =
      let here : All IsNamed (t ∷ []) = All-cons IsNamed t [] (All-head IsNamed t tokens all) (All-nil IsNamed) in
      let next = before ++ t ∷ [] in
      let all_next : All IsNamed next = All-append IsNamed before (t ∷ []) all_before here in
      let rest = All-tail IsNamed t tokens all in
      let ends : ends_piece more next ≡ ends_piece names next = ap is_whole (same_roles next all_next) in
      ap (λ b. if b then next ∷ pieces_after more [] tokens else pieces_after more next tokens) ends
      ∙ ap (λ parts. if ends_piece names next then next ∷ parts else pieces_after more next tokens) (same_pieces [] tokens (All-nil IsNamed) rest)
      ∙ ap (λ parts. if ends_piece names next then next ∷ pieces_after names [] tokens else parts) (same_pieces next tokens all_next rest)
