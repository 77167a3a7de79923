-- The first active `#define` and the first other one are the meaning.
use Rattle.std.proofs.Common.{◌∙◌, ap, sym}
use Rattle.std.specs.Option.{option_copied}
use Rattle.macro_sets.specs.ActiveMacros as spec
use Rattle.macro_sets.proofs.MeaningLemmas.{meaning_by, meaning-none, meaning-found}
use Rattle.macro_sets.proofs.ambiguity.meaning.Goals as goal

pub returns-in_default : goal.returns-in_default
returns-in_default g c =
    let none = sym (ap option_copied c.in_default.is) ∙ c.first_define.ensures in
    meaning-none (spec.is_active_define (g.S.Sees.seen c.args.seen.now) c.args.nodes.now) c.args.nodes.now none

pub returns-in-None : goal.returns-in-None
returns-in-None g c =
    let first = c.in-Some.first.now in
    ap (meaning_by first) c.in-None.ensures ∙ meaning-found (spec.is_active_define (g.S.Sees.seen c.args.seen.now) c.args.nodes.now) c.args.nodes.now first c.in-Some.ensures

pub returns-in-Some-first_other : goal.returns-in-Some-first_other
returns-in-Some-first_other g c =
    let first = c.in-Some.first.now in
    ap (meaning_by first) c.in-Some-first_other.ensures ∙ meaning-found (spec.is_active_define (g.S.Sees.seen c.args.seen.now) c.args.nodes.now) c.args.nodes.now first c.in-Some.ensures
