use Rattle.std.proofs.Common.{◌≡◌, ◌≢◌, IfOk, sym, ◌∙◌, ◌++◌, Some, length, rules}
use Rattle.std.proofs.lemmas.Result.{IfOk-weaker}
use Rattle.cm_outside.specs.declared.cache.CallKind.TheVariants.{ReadAt}
use Rattle.cm_outside.specs.declared.cache.CallAnswer.TheVariants.{Read}
use Rattle.build_store.specs.Kept.{IsDecoded, IsOpened}
use Rattle.std.proofs.lemmas.List.{take-append-drop}
use Rattle.std.proofs.Common.{ap, drop, arith, length-drop}
use Rattle.cm_outside.specs.Faults.{Rose}
use Rattle.cm_outside.specs.Caches.{part_in}
use Rattle.build_store.specs.Kept.{IsOpenedFrom}
use Rattle.build_store.specs.declared.kept.Opened.TheVariants.{Not}
use Rattle.build_store.specs.declared.origin.Reason.TheVariants.{Unreadable}
use Rattle.build_store.proofs.KeptParts.{opened_is, index_len_fits}
use Rattle.build_store.proofs.KeptFound.{damaged_by, rest_is, opened_weaker}
use Rattle.build_store.proofs.kept.open_index.Goals as goal

pub returns-in-Ok-Some-clause-opened : goal.returns-in-Ok-Some-clause-opened
returns-in-Ok-Some-clause-opened g c size_given head_given names =
    let fits = index_len_fits c.args.head.now c.args.size c.in-Ok.len (sym c.index_len.ensures ∙ c.in-Ok.is) in
    let index = c.in-Ok-Some.index.items in
    let honest = g.C.Cache.honest c.read_at.new.self in
    let has_index : length index ≡ c.in-Ok.len = search rules in
    let index_given : g.C.Cache.given c.read_at.new.self (record { call = ReadAt c.args.name.now 56 c.in-Ok.len; answer = Read (Some index) }) = search rules in
    let gave : IfOk c.decoded.result (IsDecoded c.args.key.now (c.args.head.now ++ index)) = search rules in
    IfOk-weaker c.decoded.result (IsDecoded c.args.key.now (c.args.head.now ++ index)) (IsOpened g.C.Named.Images.is_true c.args.key.now honest)
    (opened_is g.C.Named.Images.is_true c.args.key.now c.args.size c.in-Ok.len c.args.head.now index honest fits.0 has_index fits.1
    (λ is_honest file parts sealed. g.met.C.Cache.honest_gives c.read_at.new.self is_honest c.args.name.now c.args.size 56 c.in-Ok.len c.args.head.now index file
    (c.read_at.ensures.still _ size_given) (c.read_at.ensures.still _ head_given) index_given parts (names file sealed)))
    gave

pub returns-in-Err-Damaged-clause-told : goal.returns-in-Err-Damaged-clause-told
returns-in-Err-Damaged-clause-told g c fs file tells at size_is head_is =
    damaged_by c.args.head.now file c.args.size head_is size_is (sym c.index_len.ensures ∙ search rules)

pub returns-in-Ok-Some-clause-told : goal.returns-in-Ok-Some-clause-told
returns-in-Ok-Some-clause-told g c fs file tells at size_is head_is =
    let fits = index_len_fits c.args.head.now c.args.size c.in-Ok.len (sym c.index_len.ensures ∙ c.in-Ok.is) in
    let index = c.in-Ok-Some.index.items in
    let part : Some index ≡ part_in c.args.name.now 56 c.in-Ok.len fs = search rules in
    let rest : index ≡ drop 56 file = rest_is c.args.name.now fs file index c.in-Ok.len at part (sym size_is ∙ fits.1) in
    let whole : file ≡ c.args.head.now ++ index = sym (take-append-drop 56 file) ∙ (λ i. (sym head_is i) ++ (sym rest i)) in
    let own : IfOk c.decoded.result (IsOpenedFrom ⊥ c.args.key.now (Some file)) =
    c.decoded.ensures.told file (whole ∙ ap (λ xs. c.args.head.now ++ xs) (sym c.deref.ensures.value)) head_is size_is fits.0 in
    IfOk-weaker c.decoded.result (IsOpenedFrom ⊥ c.args.key.now (Some file)) (IsOpenedFrom (Rose (g.C.Cache.faults c.args.cache.now) (g.C.Cache.faults c.read_at.new.self)) c.args.key.now (Some file))
    (opened_weaker ⊥ (Rose (g.C.Cache.faults c.args.cache.now) (g.C.Cache.faults c.read_at.new.self)) (λ no. absurd no) c.args.key.now (Some file)) own

pub returns-in-Ok-Some-2-clause-told : goal.returns-in-Ok-Some-2-clause-told
returns-in-Ok-Some-2-clause-told g c fs file tells at size_is head_is =
    let fits = index_len_fits c.args.head.now c.args.size c.in-Ok.len (sym c.index_len.ensures ∙ c.in-Ok.is) in
    let index = c.in-Ok-Some-2.field-0-0.items in
    let part : Some index ≡ part_in c.args.name.now 56 c.in-Ok.len fs = search rules in
    let rest : index ≡ drop 56 file = rest_is c.args.name.now fs file index c.in-Ok.len at part (sym size_is ∙ fits.1) in
    let long : length index ≡ c.in-Ok.len = ap length rest ∙ omega (arith, length-drop 56 file, size_is, fits.1) in
    let no : ⊥ = search (rules, long) in
    absurd no

pub returns-in-Ok-Some-clause-unreadable : goal.returns-in-Ok-Some-clause-unreadable
returns-in-Ok-Some-clause-unreadable g c =
    IfOk-weaker c.decoded.result (λ o. o ≢ Not Unreadable) (λ o. o ≡ Not Unreadable → Rose (g.C.Cache.faults c.args.cache.now) (g.C.Cache.faults c.read_at.new.self)) (λ o no is. absurd (no is)) c.decoded.ensures.readable
