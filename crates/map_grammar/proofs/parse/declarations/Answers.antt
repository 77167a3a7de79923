use Rattle.std.proofs.Common.{◌≡◌, ◌<◌, ◌≤◌, ◌∷◌, ◌++◌, [], ℕ, List, length, take, drop, sym, ap, subst, ◌∙◌, rules, arith}
use Rattle.std.proofs.lemmas.Grind.{common_steps}
use Rattle.std.proofs.lemmas.Bool.Decides.{nat_tests}
use Rattle.map_grammar.specs.declared.word.Word.{Word}
use Rattle.map_grammar.specs.Grammar.{IsDeclaration}
use Rattle.map_grammar.specs.MapText.{declaration_length}
use Rattle.map_grammar.specs.Faults.{IsStray}
use Rattle.map_grammar.proofs.Cutting.{Cutting, cut_start, cut_next, cut_ends, cut_fails}
use Rattle.map_grammar.proofs.parse.declarations.Goals as goal

pub loop-rest-init : goal.loop-rest-init
loop-rest-init c = rw c.new-found.ensures.items (cut_start c.args.words.now)

pub returns-in_err-declaration-clause-err : goal.returns-in_err-declaration-clause-err
returns-in_err-declaration-clause-err c =
    let some : 0 < length c.loop-rest.rest.now = grind (arith, nat_tests) in
    let cut : c.split_at.result.0.now ≡ take (declaration_length c.loop-rest.rest.now) c.loop-rest.rest.now = c.split_at.ensures.front ∙ ap (λ (n : ℕ). take n c.loop-rest.rest.now) c.declaration_length.ensures.value in
    let P : List Word → Type 0 = λ ws. IsStray ws c.in_err-declaration.field-0.0 in
    let fails = cut_fails c.args.words.now c.loop-rest.found.items c.loop-rest.rest.now c.in_err-declaration.field-0.0 c.loop-rest.invariant some (subst P cut c.in_err-declaration.ensures.err) in
    first_of (search rules, grind (arith, common_steps))

pub loop-rest-preserved : goal.loop-rest-preserved
loop-rest-preserved c =
    let some : 0 < length c.loop-rest.rest.now = grind (arith, nat_tests) in
    let first : 0 < declaration_length c.loop-rest.rest.now = omega (arith, c.declaration_length.ensures.some some, c.declaration_length.ensures.value) in
    let cut : c.split_at.result.0.now ≡ take (declaration_length c.loop-rest.rest.now) c.loop-rest.rest.now = c.split_at.ensures.front ∙ ap (λ (n : ℕ). take n c.loop-rest.rest.now) c.declaration_length.ensures.value in
    let after : drop (declaration_length c.loop-rest.rest.now) c.loop-rest.rest.now ≡ c.split_at.result.1.now = ap (λ (n : ℕ). drop n c.loop-rest.rest.now) (sym c.declaration_length.ensures.value) ∙ sym c.split_at.ensures.back in
    let P : List Word → Type 0 = λ ws. IsDeclaration c.in_ok-declaration.field-0 ws in
    let Q : List Word → Type 0 = λ ws. Cutting c.args.words.now (c.loop-rest.found.items ++ c.in_ok-declaration.field-0 ∷ []) ws in
    rw c.in_ok-push.ensures.items (subst Q after (cut_next c.args.words.now c.loop-rest.found.items c.loop-rest.rest.now c.in_ok-declaration.field-0 c.loop-rest.invariant some first (subst P cut c.in_ok-declaration.ensures.ok)))

pub returns-clause-ok : goal.returns-clause-ok
returns-clause-ok c =
    let none : length c.loop-rest.rest.now ≤ 0 = grind (arith, nat_tests) in
    cut_ends c.args.words.now c.loop-rest.found.items c.loop-rest.rest.now c.loop-rest.invariant none
