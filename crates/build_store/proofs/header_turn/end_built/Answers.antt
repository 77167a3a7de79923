use Rattle.build_store.specs.Held.{key_held}
use Rattle.build_store.proofs.HeaderEnds.{end_on, end_turn, fresh_image}
use Rattle.build_store.proofs.HeaderKeeps.{leaves_image, leaves_others}
use Rattle.std.proofs.Common.{List, ℕ, true, ap}
use Rattle.cm_outside.specs.Faults.{Rose}
use Rattle.cm_outside.specs.declared.question.Question.{Question}
use Rattle.cm_outside.specs.declared.question.Answer.{Answer}
use Rattle.build_store.specs.Headers.{HasWalked}
use Rattle.build_store.specs.LeftBehind.{ModuleBehind}
use Rattle.build_store.specs.declared.walk.Walk.TheVariants.{Done as IsRead}
use Rattle.build_store.proofs.BehindTurns.{end_choices, kept_behind}
use Rattle.build_store.proofs.HeaderEnds.{on_end}
use Rattle.build_store.proofs.header_turn.end_built.Goals as goal

pub returns-in_err-keep_file-clause-stays : goal.returns-in_err-keep_file-clause-stays
returns-in_err-keep_file-clause-stays g c told honest t chain end walked =
    c.keep_file.ensures.stays told honest c.in_ok-index.ensures.answered
    (fresh_image (g.K.Keeper.records c.args.tree.now.kept) c.args.held.now t chain c.args.number c.args.part c.in_ok-index.index c.in_ok-index.found (c.in_ok-index.ensures.built t chain end walked))

pub returns-in_err-keep_file-clause-left : goal.returns-in_err-keep_file-clause-left
returns-in_err-keep_file-clause-left g c t chain end walked =
    leaves_image c.in_ok-index.index
    (fresh_image (g.K.Keeper.records c.args.tree.now.kept) c.args.held.now t chain c.args.number c.args.part c.in_ok-index.index c.in_ok-index.found (c.in_ok-index.ensures.built t chain end walked))
    (g.C.Cache.files c.args.cache.now) (g.C.Cache.files c.keep_file.new.cache) (c.keep_file.ensures.left c.in_ok-index.ensures.answered)

pub returns-in_err-keep_file-clause-others : goal.returns-in_err-keep_file-clause-others
returns-in_err-keep_file-clause-others g c =
    leaves_others c.in_ok-index.index (key_held c.args.held.now c.args.number) c.in_ok-index.ensures.key
    (g.C.Cache.files c.args.cache.now) (g.C.Cache.files c.keep_file.new.cache) (c.keep_file.ensures.left c.in_ok-index.ensures.answered)

pub returns-clause-on : goal.returns-clause-on
returns-clause-on g c =
    end_on c.end.result (g.K.Keeper.records c.args.tree.now.kept) c.args.held.now c.end.new.self c.args.number c.args.part c.in_ok-index.found
    c.requires.places c.requires.busy c.end.ensures.ended c.end.ensures.err

pub returns-clause-turn : goal.returns-clause-turn
returns-clause-turn g c =
    end_turn c.end.result (g.K.Keeper.records c.args.tree.now.kept) c.args.held.now c.end.new.self c.args.number c.args.part c.in_ok-index.index c.in_ok-index.found c.args.numbers.now
    c.requires.places c.requires.number c.in_ok-index.ensures.built c.end.ensures.ended

pub returns-clause-stays : goal.returns-clause-stays
returns-clause-stays g c told honest t chain end walked =
    c.keep_file.ensures.stays told honest c.in_ok-index.ensures.answered
    (fresh_image (g.K.Keeper.records c.args.tree.now.kept) c.args.held.now t chain c.args.number c.args.part c.in_ok-index.index c.in_ok-index.found (c.in_ok-index.ensures.built t chain end walked))

pub returns-clause-left : goal.returns-clause-left
returns-clause-left g c t chain end walked =
    leaves_image c.in_ok-index.index
    (fresh_image (g.K.Keeper.records c.args.tree.now.kept) c.args.held.now t chain c.args.number c.args.part c.in_ok-index.index c.in_ok-index.found (c.in_ok-index.ensures.built t chain end walked))
    (g.C.Cache.files c.args.cache.now) (g.C.Cache.files c.keep_file.new.cache) (c.keep_file.ensures.left c.in_ok-index.ensures.answered)

pub returns-clause-others : goal.returns-clause-others
returns-clause-others g c =
    leaves_others c.in_ok-index.index (key_held c.args.held.now c.args.number) c.in_ok-index.ensures.key
    (g.C.Cache.files c.args.cache.now) (g.C.Cache.files c.keep_file.new.cache) (c.keep_file.ensures.left c.in_ok-index.ensures.answered)

pub returns-clause-choices : goal.returns-clause-choices
returns-clause-choices g c =
    end_choices c.end.result c.args.held.now c.end.new.self c.args.number c.args.part c.in_ok-index.found c.end.ensures.ended c.end.ensures.err

pub returns-clause-behind : goal.returns-clause-behind
returns-clause-behind g c =
    on_end c.end.result
    ((t : Question → Answer) (chain end : List ℕ) → HasWalked (g.K.Keeper.records c.args.tree.now.kept) c.args.held.now t chain end c.args.number (IsRead c.args.part) c.args.numbers.now
    → ModuleBehind c.args.held.now c.args.number true t (g.C.Cache.files c.args.cache.now) (g.C.Cache.files c.keep_file.new.cache) (Rose (g.C.Cache.faults c.args.cache.now) (g.C.Cache.faults c.keep_file.new.cache)))
    (λ t chain end walked.
    let made = c.in_ok-index.ensures.built t chain end walked in
    kept_behind c.in_ok-index.index (g.C.Cache.faults c.args.cache.now) (g.C.Cache.faults c.keep_file.new.cache) (key_held c.args.held.now c.args.number) t (g.C.Cache.files c.args.cache.now) (g.C.Cache.files c.keep_file.new.cache)
    c.in_ok-index.ensures.key made.image (c.keep_file.ensures.left c.in_ok-index.ensures.answered) c.in_ok-keep_file.ensures.put (λ large. ap g.C.Cache.files (c.keep_file.ensures.too_large large)))
