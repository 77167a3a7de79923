use Rattle.std.proofs.Common.{◌∙◌, sym, ap, length, false}
use Rattle.std.proofs.lemmas.List.{length-replicate}
use Rattle.export_closure.proofs.FlagLemmas.{length_union}
use Rattle.export_closure.proofs.ClosureLaws.{length_closure}
use Rattle.export_closure.proofs.tests.joined.Goals as goal

pub join-requires : goal.join-requires
join-requires c =
    ap length c.in_ok-closure.ensures ∙ length_closure c.args.rows.now _
    ∙ sym (ap length c.in_ok-set.ensures ∙ length-replicate (length c.args.rows.now) false)

pub join-requires-then-are_rows : goal.join-requires-then-are_rows
join-requires-then-are_rows c =
    ap length c.in_ok-closure-2.ensures ∙ length_closure c.args.rows.now _
    ∙ sym (ap length c.join.ensures ∙ length_union _ _ ∙ ap length c.in_ok-set.ensures ∙ length-replicate (length c.args.rows.now) false)
