use Rattle.std.proofs.Common.{◌≡◌, Some, ◌∙◌, take, rules, arith, ◌<◌}
use Rattle.std.proofs.lemmas.Result.{IfOk-weaker}
use Rattle.cm_outside.specs.Faults.{Rose}
use Rattle.cm_outside.specs.Caches.{part_in}
use Rattle.build_store.specs.Kept.{IsOpenedFrom}
use Rattle.build_store.proofs.KeptFound.{short_is_damaged, head_is, opened_weaker, rose_in, unreadable_in}
use Rattle.build_store.proofs.kept.open_head.Goals as goal

pub returns-then-size-lt-HEAD-clause-told : goal.returns-then-size-lt-HEAD-clause-told
returns-then-size-lt-HEAD-clause-told g c fs file tells at size_is =
    let less : c.args.size < 56 = search rules in
    short_is_damaged file (omega (arith, size_is, less))

pub returns-in-Ok-Some-clause-told : goal.returns-in-Ok-Some-clause-told
returns-in-Ok-Some-clause-told g c fs file tells at size_is =
    let part : Some c.in-Ok-Some.head.items ≡ part_in c.args.name.now 0 56 fs = search rules in
    let head : c.deref.result.now ≡ take 56 file = c.deref.ensures.value ∙ head_is c.args.name.now fs file c.in-Ok-Some.head.items at part in
    let before = g.C.Cache.faults c.args.cache.now in
    let mid = g.C.Cache.faults c.read_at.new.self in
    let after = g.C.Cache.faults c.open_index.new.cache in
    IfOk-weaker c.open_index.result (IsOpenedFrom (Rose mid after) c.args.key.now (Some file)) (IsOpenedFrom (Rose before after) c.args.key.now (Some file))
    (opened_weaker (Rose mid after) (Rose before after) (λ r. rose_in before mid after after c.read_at.ensures.cause.later (omega arith) r) c.args.key.now (Some file))
    (c.open_index.ensures.told fs file (c.read_at.ensures.kept ∙ tells) at size_is head)

pub returns-in-Ok-Some-clause-unreadable : goal.returns-in-Ok-Some-clause-unreadable
returns-in-Ok-Some-clause-unreadable g c =
    let before = g.C.Cache.faults c.args.cache.now in
    let mid = g.C.Cache.faults c.read_at.new.self in
    let after = g.C.Cache.faults c.open_index.new.cache in
    unreadable_in before mid after c.read_at.ensures.cause.later c.open_index.result c.open_index.ensures.unreadable
