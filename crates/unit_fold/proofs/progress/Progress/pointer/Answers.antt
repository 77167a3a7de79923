use Rattle.std.proofs.Common.{◌≡◌, ◌∙◌, ℕ, List, true, false, sym, ap}
use Rattle.unit_fold.specs.Opened.{Opened, token_in}
use Rattle.unit_fold.specs.Owners.{add_fault, clashes, is_int}
use Rattle.unit_fold.specs.Told.{told}
use Rattle.unit_fold.specs.declared.at.At.{At}
use Rattle.unit_fold.specs.declared.item.FaultKind.TheVariants.{NotDeclared}
use Rattle.unit_fold.proofs.ReadLemmas.{on_ok}
use Rattle.unit_fold.proofs.StepLemmas.{pointer_clear, pointer_declared, pointer_undeclared}
use Rattle.unit_fold.proofs.progress.Progress.pointer.Goals as goal

pub returns-then-is_declared : goal.returns-then-is_declared
returns-then-is_declared c =
    let p = told c.args.self.now in
    let name = token_in c.args.self.now.piece.names c.args.name.now in
    let target = token_in c.args.self.now.piece.names c.args.target.now in
    let clear : clashes p name.text target.text ≡ false =
    ap (λ (x : List ℕ). clashes p x target.text) (sym c.text.ensures) ∙ ap (λ (x : List ℕ). clashes p c.text.result.now x) (sym c.text-2.ensures) ∙ sym c.if-clashes.ensures in
    let visible : is_int p target.text ≡ true = ap (is_int p) (sym c.text-3.ensures) ∙ sym c.if-is_declared.ensures in
    sym (pointer_clear p c.args.first name target clear ∙ pointer_declared p (told c.add_pointer.new.self) name target visible c.in_ok-add_pointer.ensures.told)

pub returns : goal.returns
returns c =
    let p = told c.args.self.now in
    let q = told c.add_pointer.new.self in
    let name = token_in c.args.self.now.piece.names c.args.name.now in
    let target = token_in c.args.self.now.piece.names c.args.target.now in
    let clear : clashes p name.text target.text ≡ false =
    ap (λ (x : List ℕ). clashes p x target.text) (sym c.text.ensures) ∙ ap (λ (x : List ℕ). clashes p c.text.result.now x) (sym c.text-2.ensures) ∙ sym c.if-clashes.ensures in
    let hidden : is_int p target.text ≡ false = ap (is_int p) (sym c.text-3.ensures) ∙ sym c.if-is_declared.ensures in
    let operand : c.in_ok-operand.operand ≡ target.text =
    c.in_ok-operand.ensures ∙ c.text-4.ensures ∙ ap (λ (o : Opened). (token_in o.names c.args.target.now).text) c.add_pointer.ensures.piece in
    on_ok c.add_fault-2.result _ _
    (λ follow.
    sym (pointer_clear p c.args.first name target clear
    ∙ pointer_undeclared p q (told c.add_fault-2.new.self) name target hidden c.in_ok-add_pointer.ensures.told
    (follow ∙ ap (λ (a : At). add_fault q a (NotDeclared c.in_ok-operand.operand)) c.of.ensures ∙ ap (λ (t : List ℕ). add_fault q target.at (NotDeclared t)) operand)))
    c.add_fault-2.ensures.told
