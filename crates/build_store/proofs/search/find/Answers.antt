use Rattle.std.proofs.Common.{sym, ap, ◌∙◌}
use Rattle.build_store.specs.Search.{find_in}
use Rattle.build_store.specs.declared.finding.Find.TheVariants.{Nothing}
use Rattle.build_store.proofs.SearchFound.{find_pushed, find_told}
use Rattle.build_store.proofs.search.find.Goals as goal

pub returns-in-Some-clause-told : goal.returns-in-Some-clause-told
returns-in-Some-clause-told g c =
    find_told (g.K.Keeper.records c.find_path.new.tree.kept) c.args.numbers.now c.find_path.new.numbers c.args.includes.now c.args.table.now c.args.file.now c.args.text.now c.in_ok-path.field-0 c.find_at.result
    c.in_ok-path.ensures.came (c.find_at.ensures.found ∙ ap (find_in c.args.table.now) (sym c.in-Some.is))

pub returns-in-Some-clause-pushed : goal.returns-in-Some-clause-pushed
returns-in-Some-clause-pushed g c =
    find_pushed (g.K.Keeper.records c.find_path.new.tree.kept) c.args.numbers.now c.find_path.new.numbers c.args.includes.now c.args.table.now c.args.file.now c.args.text.now c.in_ok-path.field-0 c.find_at.result
    c.in_ok-path.ensures.came (c.find_at.ensures.found ∙ ap (find_in c.args.table.now) (sym c.in-Some.is))

pub returns-in-None-clause-told : goal.returns-in-None-clause-told
returns-in-None-clause-told g c =
    find_told (g.K.Keeper.records c.find_path.new.tree.kept) c.args.numbers.now c.find_path.new.numbers c.args.includes.now c.args.table.now c.args.file.now c.args.text.now c.in_ok-path.field-0 Nothing
    c.in_ok-path.ensures.came (ap (find_in c.args.table.now) (sym c.in-None.is))

pub returns-in-None-clause-pushed : goal.returns-in-None-clause-pushed
returns-in-None-clause-pushed g c =
    find_pushed (g.K.Keeper.records c.find_path.new.tree.kept) c.args.numbers.now c.find_path.new.numbers c.args.includes.now c.args.table.now c.args.file.now c.args.text.now c.in_ok-path.field-0 Nothing
    c.in_ok-path.ensures.came (ap (find_in c.args.table.now) (sym c.in-None.is))
