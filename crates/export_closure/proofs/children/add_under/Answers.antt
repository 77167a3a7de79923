-- The list of the parent takes one submodule more.
use Rattle.std.proofs.Common.{◌∙◌, ap, [], ◌∷◌, ◌++◌, ◌==◌, ◌&&◌, ◌||◌}
use Rattle.std.proofs.lemmas.List.{get_or_read}
use Rattle.export_closure.specs.Found.{is_found}
use Rattle.export_closure.proofs.FoundLemmas.{child_put}
use Rattle.export_closure.proofs.children.add_under.Goals as goal

pub returns-clause-added : goal.returns-clause-added
returns-clause-added c p at =
    let grown = c.grow.new.lists.items in
    let parent = c.args.parent.index in
    let there = c.in_ok-grow.ensures.there in
    child_put grown parent c.args.sub c.push.new.self there
    (c.in_ok-push.ensures.ok ∙ ap (λ list. list ++ c.args.sub ∷ []) (get_or_read grown parent c.index_mut.result.now there c.index_mut.ensures.value [])) p at
    ∙ ap (λ list. is_found list at || (c.args.sub.index == at) && (parent == p)) (c.in_ok-grow.ensures.same p)
