use Rattle.build_store.proofs.ChangesWent.{went_asked}
use Rattle.build_store.proofs.changes.ask.Goals as goal

pub returns-in-Read-clause-went : goal.returns-in-Read-clause-went
returns-in-Read-clause-went g c =
    let made = c.ask_file.ensures in
    went_asked g.T.Tree g.K.Keeper _ _ _ _ made.same_reference made.err made.kept made.grew made.back made.told made.contents made.untouched made.noted made.cause

pub returns-in-List-clause-went : goal.returns-in-List-clause-went
returns-in-List-clause-went g c =
    let made = c.ask_folder.ensures in
    went_asked g.T.Tree g.K.Keeper _ _ _ _ made.same_reference made.err made.kept made.grew made.back made.told made.contents made.untouched made.noted made.cause

pub returns-in-Read-clause-fixed : goal.returns-in-Read-clause-fixed
returns-in-Read-clause-fixed g c = rw c.in-Read.is c.ask_file.ensures.fixed

pub returns-in-List-clause-fixed : goal.returns-in-List-clause-fixed
returns-in-List-clause-fixed g c = rw c.in-List.is c.ask_folder.ensures.fixed
