use Rattle.std.proofs.Common.{rules, position, ap, ◌∙◌}
use Rattle.job_text.specs.Fields.{is_blank}
use Rattle.job_text.proofs.FieldLemmas.{blank_at, whole_keyword, no_field}
use Rattle.job_text.proofs.fields.cut_keyword.Goals as goal

pub returns-in-Some-clause-keyword : goal.returns-in-Some-clause-keyword
returns-in-Some-clause-keyword c = rw (blank_at c.args.line.now c.in-Some.end (c.in-Some.ensures.place ∙ ap (position is_blank) c.as_bytes.ensures.value)) (search rules)

pub returns-in-Some-clause-field : goal.returns-in-Some-clause-field
returns-in-Some-clause-field c = rw (blank_at c.args.line.now c.in-Some.end (c.in-Some.ensures.place ∙ ap (position is_blank) c.as_bytes.ensures.value)) (search rules)

pub returns-in-None-clause-keyword : goal.returns-in-None-clause-keyword
returns-in-None-clause-keyword c = whole_keyword c.args.line.now (c.in-None.ensures.place ∙ ap (position is_blank) c.as_bytes.ensures.value)

pub returns-in-None-clause-field : goal.returns-in-None-clause-field
returns-in-None-clause-field c = no_field c.args.line.now (c.in-None.ensures.place ∙ ap (position is_blank) c.as_bytes.ensures.value)
