use Rattle.std.proofs.Common.{◌∙◌, ◌++◌, ap, arith}
use Rattle.cm_core.specs.declared.numbers.SubNo.{SubNo}
use Rattle.export_closure.specs.Flags.{has}
use Rattle.build_store.specs.Parts.{names_if}
use Rattle.build_store.proofs.RowLemmas.{declared_more}
use Rattle.build_store.proofs.library.declared_in.Goals as goal

pub loop-x-preserved : goal.loop-x-preserved
loop-x-preserved c =
    let in_set = c.has.ensures ∙ ap (λ (s : SubNo). has c.args.set.now s.index) c.sub_no.ensures in
    declared_more c.args.parts.now c.args.set.now c.loop-x.x c.loop-x.names c.push_names.new.names c.index-parts-x.result (omega arith) c.index-parts-x.is c.loop-x.invariant
    (c.in_ok-push_names.ensures ∙ ap (λ b. c.loop-x.names ++ names_if b c.index-parts-x.result) in_set)
