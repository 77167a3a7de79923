use Rattle.std.proofs.Common.{◌≡◌, Some, None, sym, ap, subst, ◌∙◌, rules}
use Rattle.cm_outside.specs.Asks.{value}
use Rattle.build_store.specs.Changes.{Went, fault_of}
use Rattle.build_store.specs.Steps.{HasPushed}
use Rattle.build_store.specs.Tables.{table_of}
use Rattle.build_store.specs.declared.loading.Loaded.TheVariants.{Bad}
use Rattle.build_store.proofs.BuildEnds.{of_load}
use Rattle.build_store.proofs.ChangesWent.{fault_given, went_then}
use Rattle.build_store.proofs.TableRead.{job_bad, job_ready}
use Rattle.build_store.proofs.loading.load.Goals as goal

pub returns-in_err-table-in-Ok-clause-went : goal.returns-in_err-table-in-Ok-clause-went
returns-in_err-table-in-Ok-clause-went g c =
    let fault = c.in_err-table-in-Ok.field-0.0 in
    let ended = c.from_residual-in_err-table-in-Ok in
    let whole : Went g.T.Tree g.K.Keeper c.args.tree.now c.table_of.new.tree (Some fault) =
    went_then g.T.Tree g.K.Keeper c.args.tree.now c.ask_path.new.tree c.table_of.new.tree (Some fault) c.in_ok-at.ensures.went c.in_err-table-in-Ok.ensures.went in
    let same : Some fault ≡ fault_of ended.result = sym (fault_given ended.result fault ended.ensures.1) in
    subst (Went g.T.Tree g.K.Keeper c.args.tree.now c.table_of.new.tree) same whole

pub returns-in_ok-table-in-Ok-clause-went : goal.returns-in_ok-table-in-Ok-clause-went
returns-in_ok-table-in-Ok-clause-went g c =
    went_then g.T.Tree g.K.Keeper c.args.tree.now c.ask_path.new.tree c.table_of.new.tree None c.in_ok-at.ensures.went c.in_ok-table-in-Ok.ensures.went

pub returns-in_ok-table-in-Ok-clause-told : goal.returns-in_ok-table-in-Ok-clause-told
returns-in_ok-table-in-Ok-clause-told g c f h =
    let made = c.in_ok-table-in-Ok.ensures in
    let table : value (table_of c.in-Ok.job.maps) f ≡ c.in_ok-table-in-Ok.table = ap (λ ms. value (table_of ms) f) (sym c.items.ensures) ∙ made.came.told f h in
    job_ready c.args.path.now (g.K.Keeper.records c.ask_path.new.tree.kept) c.in_ok-at.at c.record.result.now c.in-Ok.job c.in_ok-table-in-Ok.table f
    c.record.ensures.record (c.in_ok-at.ensures.fixed f (made.went.back f h)) c.in-Ok.ensures table

pub returns-in-Err-At-clause-told : goal.returns-in-Err-At-clause-told
returns-in-Err-At-clause-told g c f h =
    ap Bad c.in-Err-At.number-is
    ∙ job_bad c.args.path.now (g.K.Keeper.records c.ask_path.new.tree.kept) c.in_ok-at.at c.record.result.now c.in-Err-At.number f c.record.ensures.record (c.in_ok-at.ensures.fixed f h)
    (rw c.in-Err-At.field-0-is at c.in-Err-At.ensures)

pub returns-in_ok-table-in-Ok-clause-maps : goal.returns-in_ok-table-in-Ok-clause-maps
returns-in_ok-table-in-Ok-clause-maps g c none =
    let kept = g.K.Keeper.records c.table_of.new.tree.kept in
    let job = c.in-Ok.job in
    let table = c.in_ok-table-in-Ok.table in
    let pushed : HasPushed kept c.args.numbers.now c.table_of.new.numbers (table_of job.maps) = search rules in
    of_load kept c.args.path.now job table c.args.numbers.now c.table_of.new.numbers none (returns-in_ok-table-in-Ok-clause-told g c) pushed
