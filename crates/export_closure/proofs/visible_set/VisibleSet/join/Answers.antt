-- Each word is joined with that of the other set.
use Rattle.std.proofs.Common.{◌≡◌, ◌∙◌, ℕ, ◌<◌, ◌/◌, refl, sym, ap, length, get_or, arith}
use Rattle.std.proofs.lemmas.List.{get_or_read}
use Rattle.std.specs.Int.{div_ceil}
use Rattle.export_closure.specs.Bits.{flags_of}
use Rattle.export_closure.specs.Flags.{union}
use Rattle.export_closure.proofs.BitLemmas.{alike, joined_more, flags_of_joined, word_there}
use Rattle.export_closure.proofs.visible_set.VisibleSet.join.Goals as goal

pub index_mut-requires : goal.index_mut-requires
index_mut-requires c =
    let theirs = c.deref-word-items.result.now in
    let same = alike c.self.inside.words.items c.other.inside.words.items c.self.inside.size c.other.inside.size c.args.self.now c.args.other.now
    c.self.view_is c.other.view_is c.requires c.self.invariant c.other.invariant in
    let within : c.loop-at.at < length theirs = omega (arith, c.loop-at-test.true, c.loop-at.auto.at-end) in
    let long : length theirs ≡ length c.loop-at.self-inside.words.items = ap length c.deref-word-items.ensures.value ∙ same.1 ∙ sym c.loop-at.invariant.0.size in
    omega (arith, within, long, c.loop-at.self-inside.words.ok.0)

pub loop-at-preserved : goal.loop-at-preserved
loop-at-preserved c =
    let first = c.self.inside.words.items in
    let theirs = c.deref-word-items.result.now in
    let mine = c.loop-at.self-inside.words.items in
    let at = c.loop-at.at in
    let same = alike first c.other.inside.words.items c.self.inside.size c.other.inside.size c.args.self.now c.args.other.now
    c.self.view_is c.other.view_is c.requires c.self.invariant c.other.invariant in
    let below : at < length theirs = omega (arith, c.loop-at-test.true, c.loop-at.auto.at-end) in
    let long : length theirs ≡ length first = ap length c.deref-word-items.ensures.value ∙ same.1 in
    let within : at < length first = omega (arith, below, long) in
    let inside : at < length mine = omega (arith, within, c.loop-at.invariant.0.size) in (
      joined_more first theirs mine at c.index_mut.result.now (get_or theirs at 0) within
          (get_or_read mine at c.index_mut.result.now inside c.index_mut.ensures.value 0) refl c.loop-at.invariant.0,
      c.loop-at.invariant.1,
    )

pub returns : goal.returns
returns c =
    let first = c.self.inside.words.items in
    let theirs = c.deref-word-items.result.now in
    let now = c.loop-at.self-inside.words.items in
    let size = c.self.inside.size in
    let same = alike first c.other.inside.words.items size c.other.inside.size c.args.self.now c.args.other.now
    c.self.view_is c.other.view_is c.requires c.self.invariant c.other.invariant in
    let long : length theirs ≡ div_ceil size 64 = ap length c.deref-word-items.ensures.value ∙ same.1 ∙ c.self.invariant in
    let all : (k : ℕ) → k < size → k / 64 < c.loop-at.at =
    λ k within. let there = word_there theirs size k long within in omega (arith, there, c.loop-at-test.false) in
    ap (flags_of now) c.loop-at.invariant.1
    ∙ flags_of_joined first theirs now c.loop-at.at size c.loop-at.invariant.0 all
    ∙ ap (λ set. union set (flags_of theirs size)) c.self.view_is
    ∙ ap (union c.args.self.now)
    (ap (λ words. flags_of words size) c.deref-word-items.ensures.value ∙ ap (flags_of c.other.inside.words.items) (sym same.0) ∙ c.other.view_is)
