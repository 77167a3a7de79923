-- The report that was built is the one that is written, and it tells of what is left behind.
use Rattle.std.proofs.Common.{◌≡◌, ◌⊎◌, inl, inr, ℕ, List, Option, string_bytes}
use Rattle.cm_core.specs.declared.status.Status.{Status}
use Rattle.cm_core.specs.declared.status.Status.TheVariants.{Clean, Diagnosed, Usage, ReadFault, WriteFault, NoMemory}
use Rattle.cm_outside.specs.Sinks.{and_then, TakesFront}
use Rattle.driver.specs.Ends.{IsWhole, Reports}
use Rattle.driver.proofs.top.build.Goals as goal

reports_whole : (says : List ℕ → Type 0) (before now : Option (List ℕ)) (text : List ℕ) (status : Status) → IsWhole status → says text → now ≡ and_then before text → Reports says before now status
reports_whole says before now text Clean whole said is = (text, said, is)
reports_whole says before now text Diagnosed whole said is = (text, said, is)
reports_whole says before now text Usage whole said is = absurd whole
reports_whole says before now text ReadFault whole said is = absurd whole
reports_whole says before now text WriteFault whole said is = absurd whole
reports_whole says before now text NoMemory whole said is = absurd whole

reports_front : (says : List ℕ → Type 0) (before now : Option (List ℕ)) (text : List ℕ) → says text → (now ≡ before) ⊎ TakesFront text before now
    → (now ≡ before) ⊎ ((x : List ℕ) × says x × TakesFront x before now)
reports_front says before now text said (inl same) = inl same
reports_front says before now text said (inr front) = inr (text, said, front)

pub returns-in-Ok-write_built-clause-report : goal.returns-in-Ok-write_built-clause-report
returns-in-Ok-write_built-clause-report g c t fs told tells honest own asks =
    reports_whole _ (g.R.Sink.taken c.args.report.now) (g.R.Sink.taken c.write_built.new.report) (string_bytes c.in-Ok.built.report) c.in-Ok-write_built.status
    (c.in-Ok-write_built.ensures.output.1) (c.in-Ok.ensures.report t fs told tells honest own) (c.in-Ok-write_built.ensures.report asks)

pub returns-in-Err-Failed-write_built-clause-report : goal.returns-in-Err-Failed-write_built-clause-report
returns-in-Err-Failed-write_built-clause-report g c t fs told tells honest own asks =
    reports_front _ (g.R.Sink.taken c.args.report.now) (g.R.Sink.taken c.write_built.new.report) (string_bytes c.in-Ok.built.report)
    (c.in-Ok.ensures.report t fs told tells honest own) (c.in-Err-Failed-write_built.ensures.report asks)

pub returns-clause-report : goal.returns-clause-report
returns-clause-report g c t fs told tells honest own asks =
    reports_front _ (g.R.Sink.taken c.args.report.now) (g.R.Sink.taken c.write_built.new.report) (string_bytes c.in-Ok.built.report)
    (c.in-Ok.ensures.report t fs told tells honest own) (c.in-Err-NoMemory-write_built.ensures.report asks)

pub returns-in-Ok-write_built-clause-count : goal.returns-in-Ok-write_built-clause-count
returns-in-Ok-write_built-clause-count g c t fs told tells honest own whole =
    (string_bytes c.in-Ok.built.report, c.in-Ok.ensures.report t fs told tells honest own)

pub returns-in-Ok-write_built-clause-behind : goal.returns-in-Ok-write_built-clause-behind
returns-in-Ok-write_built-clause-behind g c t fs told tells honest own whole =
    (string_bytes c.in-Ok.built.report, c.in-Ok.ensures.behind t fs told tells honest own, λ asks. c.in-Ok-write_built.ensures.report asks)
