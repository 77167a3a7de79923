use Rattle.std.proofs.Common.{refl, rules}
use Rattle.cm_outside.proofs.Keeping.{lent_grows, lent_fixed}
use Rattle.cm_outside.proofs.snapshot.Snapshot.list.Goals as goal

pub returns : goal.returns
returns g c =
    let made = c.in_ok-at.ensures in
    let asked = made.asked in
    let there = c.record.ensures.record in (
      (
        refl,
        (λ _. tt),
        record {
          same_reference = made.same_reference;
          grows = lent_grows _ _ _ _ _ _ asked there c.paths_of.ensures;
          err = tt;
          kept = made.kept;
          grew = made.grew;
          back = made.back;
          fixed = lent_fixed _ _ _ _ _ _ asked there c.paths_of.ensures;
          told = made.told;
          contents = made.contents;
          untouched = made.untouched;
          noted = record { once = made.noted.once; all = made.noted.all };
          cause = search rules;
        },
      ),
      record { ends = tt },
    )
