use Rattle.std.proofs.Common.{◌≡◌, ◌==◌, ℕ, List, [], map, Ok, ap, sym, ◌∙◌}
use Rattle.std.specs.List.{slice_split}
use Rattle.std.specs.Str.{IsUtf8}
use Rattle.job_text.specs.Drafts.{after_script}
use Rattle.job_text.specs.Scripts.{script_of}
use Rattle.job_text.proofs.AnswerLemmas.{if_ok, if_refused}
use Rattle.job_text.proofs.ScriptLemmas.{script_of_lines}
use Rattle.job_text.proofs.script.parse_script.Goals as goal

pub returns-clause-script : goal.returns-clause-script
returns-clause-script c =
    let ls : List (List ℕ) = map (λ line. line.now) c.deref.result.now in
    let whole : after_script [] 1 ls ≡ script_of c.args.bytes.now =
    script_of_lines c.args.bytes.now ls (ap (map (λ line. line.now)) c.deref.ensures.value ∙ c.in_ok-lines.ensures ∙ ap (slice_split (λ b. b == 10)) c.in_ok-text.ensures.text.0) in
    if_ok c.read_lines.result (λ script. after_script [] 1 ls ≡ Ok script.items) (λ script. IsUtf8 c.args.bytes.now × (script_of c.args.bytes.now ≡ Ok script.items))
    (λ script h. (c.in_ok-text.ensures.text.1, sym whole ∙ h)) c.read_lines.ensures.lines

pub returns-clause-refused : goal.returns-clause-refused
returns-clause-refused c =
    let ls : List (List ℕ) = map (λ line. line.now) c.deref.result.now in
    let whole : after_script [] 1 ls ≡ script_of c.args.bytes.now =
    script_of_lines c.args.bytes.now ls (ap (map (λ line. line.now)) c.deref.ensures.value ∙ c.in_ok-lines.ensures ∙ ap (slice_split (λ b. b == 10)) c.in_ok-text.ensures.text.0) in
    if_refused c.read_lines.result c.args.bytes.now (after_script [] 1 ls) (script_of c.args.bytes.now) whole c.in_ok-text.ensures.text.1 c.read_lines.ensures.fault
