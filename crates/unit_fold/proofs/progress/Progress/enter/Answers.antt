use Rattle.std.proofs.Common.{true, false, ℕ, List, sym, ap, subst, ◌∙◌}
use Rattle.std.proofs.lemmas.Str.{IsCharBoundary-start}
use Rattle.cm_source.specs.LogicalText.{Logical, text_of}
use Rattle.unit_fold.specs.Owners.{Reading, Ends, SoFar, add_fault, read_on}
use Rattle.unit_fold.specs.declared.at.At.{At}
use Rattle.unit_fold.specs.declared.item.FaultKind.TheVariants.{NotUtf8}
use Rattle.unit_fold.specs.Reads.{Pauses}
use Rattle.unit_fold.specs.Told.{told}
use Rattle.unit_fold.proofs.EnterLemmas.{reads_entered, reads_refused}
use Rattle.unit_fold.proofs.ReadLemmas.{if_ok, pauses_for_text}
use Rattle.unit_fold.proofs.progress.Progress.enter.Goals as goal

pub read_on-requires : goal.read_on-requires
read_on-requires c = λ utf8. IsCharBoundary-start _ utf8

pub returns-in-Ok : goal.returns-in-Ok
returns-in-Ok c =
    let p = told c.args.self.now in
    let entered : List (List ℕ) → SoFar = λ files. record p { entered = files } in
    if_ok c.read_on.result _ _
    (λ pause follow.
    subst (λ (r : Reading). Pauses r c.args.owner (told c.read_on.new.self) pause)
    (sym (reads_entered c.args.owner p c.args.path c.args.bytes.now c.in-Ok.ensures.0
    ∙ ap (λ (files : List (List ℕ)). read_on c.args.owner (text_of c.args.bytes.now) true (entered files) 0) (sym c.in_ok-push-in-Ok.ensures.ok)
    ∙ ap (λ (t : Logical). read_on c.args.owner t true (entered c.push.new.self) 0) (sym c.in-Ok.ensures.1))) follow)
    c.read_on.ensures.pauses

pub returns-in-Err-NotUtf8 : goal.returns-in-Err-NotUtf8
returns-in-Err-NotUtf8 c =
    let p = told c.args.self.now in
    let valid = rw c.in-Err-NotUtf8.field-0-is at c.in-Err-NotUtf8.ensures in
    let wrote = rw c.in-Err-NotUtf8.field-0-is at c.in_ok-add_fault-in-Err-NotUtf8.ensures.told in
    pauses_for_text _ c.args.owner (told c.add_fault.new.self) c.for_text.result
    (reads_refused c.args.owner p c.args.path c.args.bytes.now c.in-Err-NotUtf8.at valid
    ∙ ap (λ (a : At). Ends false (add_fault p a (NotUtf8 c.in-Err-NotUtf8.at))) (sym c.start.ensures)
    ∙ ap (Ends false) (sym wrote))
    c.for_text.ensures
