-- A unit between its turns, from where it began to where it is.
use Rattle.std.proofs.Common.{◌≡◌, ◌∙◌, refl, ℕ, true, List, [], Option, None}
use Rattle.cm_outside.specs.declared.question.Question.{Question}
use Rattle.cm_outside.specs.declared.question.Answer.{Answer}
use Rattle.cm_outside.specs.declared.tree.TreeFault.{TreeFault}
use Rattle.cm_outside.specs.Asks.{Agrees, begun, value}
use Rattle.unit_fold.specs.declared.item.Item.{Item}
use Rattle.build_store.specs.Modules.{mod_of, unit_of}
use Rattle.build_store.specs.Order.{with_new}
use Rattle.build_store.specs.Memo.{Grows, UnitNeeds, UnitEnds}
use Rattle.build_store.specs.Turning.{State, IsTrusted, Moved, Rests, RestsAgain, known_of}
use Rattle.build_store.proofs.MemoRuns.{moved_after, moved_start, trusted_first, trusted_second, rests_still}
use Rattle.build_store.proofs.MemoGoing.{trusts_told}
use Rattle.build_store.specs.declared.walk.Paused.{Paused}
use Rattle.build_store.proofs.MemoViews.{UnitRests, grown_by, unit_goes_on, unit_outcome, unit_again}

-- what a unit's fold begins
abbrev pub unit_begins : State → List ℕ → (Question → Answer) → List ℕ
unit_begins s path t = begun (unit_of s.plan (s.unit_fold path)) t

module _ {H : Type 0} (state : H → State) (well : H → Type 0) (same leaves : H → H → Type 0) (went : Option TreeFault → H → H → Type 0) (tells behind : (Question → Answer) → H → H → Type 0) (path : List ℕ) where
  -- Nothing is in progress, and what the unit begins is begun in part.
  pub record UnitGoing (old now : H) : Type 0 where
    pub is_well : well now
    pub is_same : same old now
    pub moved : Moved (state old) (state now)
    pub all_went : went None old now
    pub told_all : (t : Question → Answer) → Agrees t (state now).records → tells t old now
    pub rests : (t : Question → Answer) → Agrees t (state now).records → IsTrusted (state old) (state now) → Rests (state old) t → UnitRests (state old) (state now) t (unit_begins (state old) path t)
    pub stays : (state old).told ≡ true → (state old).honest → (t : Question → Answer) → Agrees t (state now).records → Rests (state old) t → (state now).honest
    pub left : (t : Question → Answer) → Agrees t (state now).records → IsTrusted (state old) (state now) → Rests (state old) t → leaves old now
    pub behind_all : (t : Question → Answer) → Agrees t (state now).records → IsTrusted (state old) (state now) → Rests (state old) t → behind t old now

  pub unit_starts : (old : H) → well old → same old old → went None old old → ((t : Question → Answer) → tells t old old) → leaves old old → ((t : Question → Answer) → behind t old old) → UnitGoing old old
  unit_starts old is_well is_same all_went told_all left behind_all = record {
    is_well = is_well;
    is_same = is_same;
    moved = moved_start (state old);
    all_went = all_went;
    told_all = λ t agrees. told_all t;
    rests = λ t agrees trust rests. record { rests = rests; order = refl };
    stays = λ told honest t agrees rests. honest;
    left = λ t agrees trust rests. left;
    behind_all = λ t agrees trust rests. behind_all t;
  }

  -- ---- a turn of the unit

  module _ (leaves_after : (a b c : H) → leaves a b → leaves b c → leaves a c) (old now mid : H) (h : UnitGoing old now) (moved : Moved (state now) (state mid))
      (stays : (state now).told ≡ true → (state now).honest → (state mid).honest) (left : leaves now mid) where
    pub turn_moved : Moved (state old) (state mid)
    turn_moved = moved_after (state old) (state now) (state mid) h.moved moved

    pub turn_stays : (state old).told ≡ true → (state old).honest → (t : Question → Answer) → Agrees t (state mid).records → Rests (state old) t → (state mid).honest
    turn_stays told honest t agrees rests = stays (h.moved.told ∙ told) (h.stays told honest t (moved.back t agrees) rests)

    pub turn_left : (t : Question → Answer) → Agrees t (state mid).records → IsTrusted (state old) (state mid) → Rests (state old) t → leaves old mid
    turn_left t agrees trust rests =
        leaves_after old now mid (h.left t (moved.back t agrees) (trusted_first (state old) (state now) (state mid) h.moved moved trust) rests) left

    pub turn_behind : ((t : Question → Answer) (a b c : H) → behind t a b → behind t b c → behind t a c) → ((t : Question → Answer) → Agrees t (state mid).records → behind t now mid)
        → (t : Question → Answer) → Agrees t (state mid).records → IsTrusted (state old) (state mid) → Rests (state old) t → behind t old mid
    turn_behind after turned t agrees trust rests =
        after t old now mid (h.behind_all t (moved.back t agrees) (trusted_first (state old) (state now) (state mid) h.moved moved trust) rests) (turned t agrees)

    trust_now : (t : Question → Answer) → IsTrusted (state old) (state mid) → IsTrusted (state old) (state now)
    trust_now t trust = trusted_first (state old) (state now) (state mid) h.moved moved trust

    before : (t : Question → Answer) → Agrees t (state mid).records → IsTrusted (state old) (state mid) → Rests (state old) t → UnitRests (state old) (state now) t (unit_begins (state old) path t)
    before t agrees trust rests = h.rests t (moved.back t agrees) (trusted_first (state old) (state now) (state mid) h.moved moved trust) rests

    module _ (slots : (state mid).slots ≡ (state now).slots) (noted : (state mid).noted ≡ (state now).noted) where
      -- the unit has ended
      pub turn_items : (items : List Item) → ((t : Question → Answer) → Agrees t (state mid).records → IsTrusted (state old) (state now) → Rests (state old) t → Rests (state now) t → UnitEnds (state now).plan t (state now).noted ((state now).unit_fold path) items)
          → (t : Question → Answer) → Agrees t (state mid).records → IsTrusted (state old) (state mid) → Rests (state old) t → items ≡ value (unit_of (state old).plan ((state old).unit_fold path)) t
      turn_items items ends t agrees trust rests =
          let on = before t agrees trust rests in
          unit_outcome (state old) (state now) t path items h.moved.plan h.moved.unit_fold (ends t agrees (trust_now t trust) rests on.rests)

      pub turn_again : (items : List Item) → ((t : Question → Answer) → Agrees t (state mid).records → IsTrusted (state old) (state now) → Rests (state old) t → Rests (state now) t → UnitEnds (state now).plan t (state now).noted ((state now).unit_fold path) items)
          → (t : Question → Answer) → Agrees t (state mid).records → IsTrusted (state old) (state mid) → Rests (state old) t → RestsAgain (state old) (state mid) t (unit_begins (state old) path t)
      turn_again items ends t agrees trust rests =
          let on = before t agrees trust rests in
          unit_again (state old) (state now) (state mid) t path items h.moved.plan h.moved.unit_fold on (ends t agrees (trust_now t trust) rests on.rests)
          (rests_still (state now) (state mid) t moved agrees on.rests slots noted) noted

      -- ---- and the module that it needs

      module _ (next : H) (moved_next : Moved (state mid) (state next)) where
        back : (t : Question → Answer) → Agrees t (state next).records → Agrees t (state mid).records
        back t agrees = moved_next.back t agrees

        trust_mid : (t : Question → Answer) → IsTrusted (state old) (state next) → IsTrusted (state old) (state mid)
        trust_mid t trust = trusted_first (state old) (state mid) (state next) turn_moved moved_next trust

        trust_then : (t : Question → Answer) → Agrees t (state next).records → IsTrusted (state old) (state next) → Rests (state old) t → IsTrusted (state mid) (state next)
        trust_then t agrees trust rests = trusted_second (state old) (state mid) (state next) turn_moved (λ told honest. turn_stays told honest t (back t agrees) rests) trust

        mid_rests : (t : Question → Answer) → Agrees t (state next).records → IsTrusted (state old) (state mid) → Rests (state old) t → Rests (state mid) t
        mid_rests t agrees trust rests =
            let on = before t (back t agrees) trust rests in rests_still (state now) (state mid) t moved (back t agrees) on.rests slots noted

        pub next_stays : ((state mid).told ≡ true → (state mid).honest → (t : Question → Answer) → Agrees t (state next).records → Rests (state mid) t → (state next).honest)
            → (state old).told ≡ true → (state old).honest → (t : Question → Answer) → Agrees t (state next).records → Rests (state old) t → (state next).honest
        next_stays stays_next told honest t agrees rests =
            stays_next (turn_moved.told ∙ told) (turn_stays told honest t (back t agrees) rests) t agrees
            (mid_rests t agrees (trusts_told (state old) (state mid) told honest) rests)

        pub next_left : ((t : Question → Answer) → Agrees t (state next).records → IsTrusted (state mid) (state next) → Rests (state mid) t → leaves mid next)
            → (t : Question → Answer) → Agrees t (state next).records → IsTrusted (state old) (state next) → Rests (state old) t → leaves old next
        next_left left_next t agrees trust rests =
            leaves_after old mid next (turn_left t (back t agrees) (trust_mid t trust) rests)
            (left_next t agrees (trust_then t agrees trust rests) (mid_rests t agrees (trust_mid t trust) rests))

        pub next_behind : ((t : Question → Answer) (a b c : H) → behind t a b → behind t b c → behind t a c) → ((t : Question → Answer) → Agrees t (state mid).records → behind t now mid)
            → ((t : Question → Answer) → Agrees t (state next).records → IsTrusted (state mid) (state next) → Rests (state mid) t → behind t mid next)
            → (t : Question → Answer) → Agrees t (state next).records → IsTrusted (state old) (state next) → Rests (state old) t → behind t old next
        next_behind after turned behind_next t agrees trust rests =
            after t old mid next (turn_behind after turned t (back t agrees) (trust_mid t trust) rests)
            (behind_next t agrees (trust_then t agrees trust rests) (mid_rests t agrees (trust_mid t trust) rests))

        pub next_rests : (x : ℕ)
            → ((t : Question → Answer) → Agrees t (state mid).records → IsTrusted (state old) (state now) → Rests (state old) t → Rests (state now) t → UnitNeeds (state now).plan t (known_of (state now).plan t (state now).slots) (state now).noted ((state now).unit_fold path) x)
            → ((t : Question → Answer) → Agrees t (state next).records → IsTrusted (state mid) (state next) → Rests (state mid) t → RestsAgain (state mid) (state next) t (begun (mod_of (state mid).plan [] x) t))
            → (t : Question → Answer) → Agrees t (state next).records → IsTrusted (state old) (state next) → Rests (state old) t → UnitRests (state old) (state next) t (unit_begins (state old) path t)
        next_rests x needs again t agrees trust rests =
            let on = before t (back t agrees) (trust_mid t trust) rests in
            let done = again t agrees (trust_then t agrees trust rests) (mid_rests t agrees (trust_mid t trust) rests) in
            unit_goes_on (state old) (state now) (state next) t (state old).unit_fold path x h.moved.plan h.moved.unit_fold on (needs t (back t agrees) (trust_now t (trust_mid t trust)) rests on.rests)
            (record { rests = done.rests; noted = done.noted ∙ (λ i. with_new (noted i) (begun (mod_of (moved.plan i) [] x) t)) })

        -- what is known stays so, and the fold of the unit waits where it did
        pub next_paused : (paused_at : (Question → Answer) → H → List ℕ → Option Paused → Type 0)
            → ((t : Question → Answer) (a b : H) (unit : List ℕ) (paused : Option Paused) → same a b → Grows (known_of (state a).plan t (state a).slots) (known_of (state b).plan t (state b).slots) → paused_at t a unit paused → paused_at t b unit paused)
            → (before after : Option Paused) → same mid next
            → ((t : Question → Answer) → Agrees t (state now).records → IsTrusted (state old) (state now) → Rests (state old) t → paused_at t now path before)
            → ((t : Question → Answer) → Agrees t (state mid).records → Rests (state now) t → paused_at t now path before → paused_at t mid path after)
            → (x : ℕ)
            → ((t : Question → Answer) → Agrees t (state next).records → IsTrusted (state mid) (state next) → Rests (state mid) t → RestsAgain (state mid) (state next) t (begun (mod_of (state mid).plan [] x) t))
            → (t : Question → Answer) → Agrees t (state next).records → IsTrusted (state old) (state next) → Rests (state old) t → paused_at t next path after
        next_paused paused_at law before_turn after is_same waits turned x again t agrees trust rests =
            let mid_agrees = back t agrees in
            let on = before t mid_agrees (trust_mid t trust) rests in
            let mid_on = mid_rests t agrees (trust_mid t trust) rests in
            let done = again t agrees (trust_then t agrees trust rests) mid_on in
            law t mid next path after is_same (grown_by (state mid) (state next) t (begun (mod_of (state mid).plan [] x) t) moved_next.plan mid_on done.rests done.noted)
            (turned t mid_agrees on.rests (waits t (moved.back t mid_agrees) (trust_now t (trust_mid t trust)) rests))
