use Rattle.std.proofs.Common.{refl, rules}
use Rattle.cm_outside.proofs.Keeping.{lent_grows, lent_kind, lent_fixed}
use Rattle.cm_outside.proofs.snapshot.Snapshot.read.Goals as goal

pub returns : goal.returns
returns g c =
    let made = c.in_ok-at.ensures in
    let asked = made.asked in
    let there = c.record.ensures.record in (
      (
        refl,
        (λ _. tt),
        record {
          same_reference = made.same_reference;
          grows = lent_grows _ _ _ _ _ _ asked there refl;
          err = tt;
          kept = made.kept;
          grew = made.grew;
          back = made.back;
          fixed = lent_fixed _ _ _ _ _ _ asked there refl;
          told = made.told;
          contents = made.contents;
          untouched = made.untouched;
          noted = record { once = made.noted.once; all = made.noted.all };
          cause = search rules;
        },
      ),
      record { ends = tt; kind = lent_kind _ _ _ _ _ _ asked there refl },
    )
