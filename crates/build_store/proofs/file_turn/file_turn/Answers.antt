use Rattle.std.proofs.Common.{◌∙◌, refl, sym}
use Rattle.build_store.specs.Held.{choice_at}
use Rattle.build_store.specs.Loads.{first_new}
use Rattle.build_store.proofs.FileTurns.{new_of_first, needs_at, file_needs, file_ends}
use Rattle.build_store.proofs.BehindTurns.{choices_of}
use Rattle.build_store.proofs.file_turn.file_turn.Goals as goal

pub returns-in-Some-clause-unknown : goal.returns-in-Some-clause-unknown
returns-in-Some-clause-unknown c kept =
    new_of_first kept c.args.held.now c.in_ok-needs.needs c.in-Some.other c.requires.places
    (sym (c.in-Some.ensures ∙ (λ i. first_new (c.items-2.ensures i) (c.items-3.ensures i))))

pub returns-in-Some-clause-turn : goal.returns-in-Some-clause-turn
returns-in-Some-clause-turn c kept t chain end table agrees runs =
    let h = c.args.held.now in
    let m = c.args.number in
    let by = needs_at h m c.items.result.now c.index-items-number.result c.in_ok-needs.needs c.requires.places c.requires.within c.items.ensures c.index-items-number.is c.in_ok-needs.ensures in
    file_needs kept h t chain end m c.requires.places c.requires.within table agrees runs (choice_at h m) refl c.requires.file c.in_ok-needs.needs c.in-Some.other by
    (sym (c.in-Some.ensures ∙ (λ i. first_new (c.items-2.ensures i) (c.items-3.ensures i))))

pub returns-in_ok-end_loaded-in-None-clause-turn : goal.returns-in_ok-end_loaded-in-None-clause-turn
returns-in_ok-end_loaded-in-None-clause-turn c kept t chain end table agrees runs =
    let h = c.args.held.now in
    let m = c.args.number in
    let by = needs_at h m c.items.result.now c.index-items-number.result c.in_ok-needs.needs c.requires.places c.requires.within c.items.ensures c.index-items-number.is c.in_ok-needs.ensures in
    file_ends kept h t chain end m c.requires.places c.requires.within table agrees runs (choice_at h m) refl c.end_loaded.new.held c.in_ok-needs.needs by
    c.in_ok-end_loaded-in-None.ensures.ended
    (sym (c.in-None.ensures ∙ (λ i. first_new (c.items-2.ensures i) (c.items-3.ensures i))))

pub returns-in_ok-end_loaded-in-None-clause-chosen : goal.returns-in_ok-end_loaded-in-None-clause-chosen
returns-in_ok-end_loaded-in-None-clause-chosen c =
    let h = c.args.held.now in
    let m = c.args.number in
    choices_of h c.end_loaded.new.held m c.in_ok-needs.needs c.requires.places c.requires.within (choice_at h m) c.in_ok-end_loaded-in-None.ensures.ended
