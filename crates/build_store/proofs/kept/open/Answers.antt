use Rattle.std.proofs.Common.{◌≡◌, Some, IfOk, sym, ap, ◌∙◌, subst, rules, arith}
use Rattle.std.proofs.lemmas.Result.{IfOk-weaker}
use Rattle.cm_outside.specs.Faults.{Rose}
use Rattle.cm_outside.specs.Trees.{file_at}
use Rattle.cm_outside.specs.Caches.{size_in}
use Rattle.module_file.specs.ModuleFile.{file_name_of}
use Rattle.build_store.specs.Kept.{IsOpenedFrom}
use Rattle.build_store.proofs.KeptFound.{size_of, opened_weaker, rose_in, unreadable_in}
use Rattle.build_store.proofs.kept.open.Goals as goal

pub returns-in-Ok-Some-clause-told : goal.returns-in-Ok-Some-clause-told
returns-in-Ok-Some-clause-told g c fs tells =
    let name = file_name_of c.args.key.now in
    let same_name : c.as_str.result.now ≡ name = c.as_str.ensures.value ∙ c.in_ok-name.ensures in
    let size : Some c.in-Ok-Some.size ≡ size_in c.as_str.result.now fs = search rules in
    let there = size_of (file_at name fs) c.in-Ok-Some.size (size ∙ ap (λ n. size_in n fs) same_name) in
    let same_name2 : c.as_str-in-Ok-Some.result.now ≡ name = c.as_str-in-Ok-Some.ensures.value ∙ c.in_ok-name.ensures in
    let before = g.C.Cache.faults c.args.cache.now in
    let mid = g.C.Cache.faults c.size.new.self in
    let after = g.C.Cache.faults c.open_head.new.cache in
    let own : IfOk c.open_head.result (IsOpenedFrom (Rose mid after) c.args.key.now (Some there.0)) =
    c.open_head.ensures.told fs there.0 (c.size.ensures.kept ∙ tells) (ap (λ n. file_at n fs) same_name2 ∙ there.1) there.2 in
    IfOk-weaker c.open_head.result (IsOpenedFrom (Rose mid after) c.args.key.now (Some there.0)) (IsOpenedFrom (Rose before after) c.args.key.now (file_at name fs))
    (λ o h. subst (λ f. IsOpenedFrom (Rose before after) c.args.key.now f o) (sym there.1)
    (opened_weaker (Rose mid after) (Rose before after) (λ r. rose_in before mid after after c.size.ensures.cause.later (omega arith) r) c.args.key.now (Some there.0) o h))
    own

pub returns-in-Ok-Some-clause-unreadable : goal.returns-in-Ok-Some-clause-unreadable
returns-in-Ok-Some-clause-unreadable g c =
    let before = g.C.Cache.faults c.args.cache.now in
    let mid = g.C.Cache.faults c.size.new.self in
    let after = g.C.Cache.faults c.open_head.new.cache in
    unreadable_in before mid after c.size.ensures.cause.later c.open_head.result c.open_head.ensures.unreadable
