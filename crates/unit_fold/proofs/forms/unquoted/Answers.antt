use Rattle.std.proofs.Common.{arith, sym}
use Rattle.std.proofs.lemmas.Str.Pattern.{strip_prefix_char, strip_suffix_char}
use Rattle.unit_fold.proofs.QuoteLemmas.{prefix_found, unquoted_none, unquoted_some}
use Rattle.unit_fold.proofs.forms.unquoted.Goals as goal

pub returns-in_err-strip_prefix : goal.returns-in_err-strip_prefix
returns-in_err-strip_prefix c =
    let cases = strip_prefix_char 34 c.args.text.now c.strip_prefix.result c.strip_prefix.ensures.cases (omega arith) in
    rw c.from_residual.ensures (sym (unquoted_none c.args.text.now c.strip_prefix.result cases c.in_err-strip_prefix.was))

pub returns : goal.returns
returns c =
    let cases = strip_prefix_char 34 c.args.text.now c.strip_prefix.result c.strip_prefix.ensures.cases (omega arith) in
    let opens = prefix_found c.args.text.now c.strip_prefix.result c.in_ok-strip_prefix.field-0 cases c.in_ok-strip_prefix.was in
    let rest = c.in_ok-strip_prefix.field-0.now in
    unquoted_some c.args.text.now rest c.strip_suffix.result opens (strip_suffix_char 34 rest c.strip_suffix.result c.strip_suffix.ensures.cases (omega arith))
