-- What calls on a store give, from what calls on the memo give.
use Rattle.std.proofs.Common.{◌≡◌, ◌≢◌, ◌∙◌, refl, sym, ap, subst, ℕ, zero, suc, Bool, true, false, cond, true≢false, List, [], ◌∷◌, ◌++◌, length, drop, get_or, replicate, Option, Some, None, is_some, Result, Ok, Err, OnOk, IfOk, IsErrAnd}
use Rattle.std.specs.List.{AllByRecursion, IsDistinct, flat_map}
use Rattle.std.proofs.lemmas.List.{drop-map, drop_at, length-map}
use Rattle.std.proofs.lemmas.Map.Keys.{IsDistinct-head, IsDistinct-tail}
use Rattle.cm_outside.specs.Asks.{Agrees, asked, begun, value}
use Rattle.cm_outside.specs.Firsts.{firsts}
use Rattle.cm_outside.specs.Keeping.{AreKept, same_asked}
use Rattle.cm_outside.specs.QuestionLaws.{same_question_decides}
use Rattle.cm_outside.specs.Trees.{same_question}
use Rattle.cm_outside.specs.declared.question.Question.{Question}
use Rattle.cm_outside.specs.declared.question.Answer.{Answer}
use Rattle.cm_outside.specs.declared.question.Answer.TheVariants.{Absent}
use Rattle.cm_outside.specs.declared.question.Record.{Record}
use Rattle.cm_outside.specs.declared.tree.TreeFault.{TreeFault}
use Rattle.cm_outside.specs.declared.tree.TreeFault.TheVariants.{Failed, NoMemory}
use Rattle.unit_fold.specs.Blocks.{unit_block}
use Rattle.unit_fold.specs.declared.item.Item.{Item}
use Rattle.build_store.specs.CleanBuild.{first_needs, fresh_part, module_block, own_part, unit_run, unit_text}
use Rattle.build_store.specs.Held.{HasPlaces, HeldRests, Holds, numbers_noted, plan_held, setting_of_held, state_held}
use Rattle.build_store.specs.Libraries.{parts_at}
use Rattle.build_store.specs.Memo.{AreApart, Unknown}
use Rattle.build_store.specs.Modules.{is_in, mod_of}
use Rattle.build_store.specs.Order.{with_new}
use Rattle.build_store.specs.Owners.{Setting}
use Rattle.build_store.specs.Parts.{part_in}
use Rattle.build_store.specs.Stores.{GoesOn, RestsOver, told_as, tree_fault}
use Rattle.build_store.specs.Telling.{AreBegun, numbers_of_noted, state_of}
use Rattle.build_store.specs.Turning.{IsView, Rests, RestsAfter, Trusts, known_as, known_of, slot_at, view_as}
use Rattle.build_store.specs.declared.held.Held.{Held}
use Rattle.build_store.specs.declared.held.Noted.{Noted}
use Rattle.build_store.specs.declared.part.Part.{Part}
use Rattle.build_store.specs.declared.slot.Slot.{Slot}
use Rattle.build_store.specs.declared.slot.Slot.TheVariants.{Unknown as IsUnknown, Busy as IsBusy, Cyclic as IsCyclic, Good as IsGood}
use Rattle.build_store.specs.declared.store.StoreFault.{StoreFault}
use Rattle.build_store.specs.declared.store.StoreFault.TheVariants.{Failed as StoreFailed, Spent, NoMemory as NoRoom}
use Rattle.build_store.specs.declared.table.Table.{Table}
use Rattle.build_store.proofs.BegunLemmas.{with_new_has}
use Rattle.build_store.proofs.ListLemmas.{in_append_right, in_head, in_tail}
use Rattle.build_store.proofs.MemoViews.{begins_with, seen_view}
use Rattle.build_store.proofs.SourceTurns.{rests_held, rests_of}

-- ---- some answers agree with those that are kept

-- the answer that is kept of a question
abbrev answer_in : List Record → Question → Answer
answer_in [] q = Absent
answer_in (r ∷ rs) q = cond (same_question r.question q) r.answer (answer_in rs q)

still_agrees : (r : Record) (rs more : List Record) → AllByRecursion (λ s. same_asked r s ≡ false) more → Agrees (answer_in rs) more → Agrees (answer_in (r ∷ rs)) more
still_agrees r rs [] apart h = tt
still_agrees r rs (s ∷ more) apart h = (ap (λ b. cond b r.answer (answer_in rs s.question)) apart.0 ∙ h.0, still_agrees r rs more apart.1 h.1)

agrees_kept : (kept : List Record) → IsDistinct same_asked kept → Agrees (answer_in kept) kept
agrees_kept [] h = tt
agrees_kept (r ∷ rs) h = (
  ap (λ b. cond b r.answer (answer_in rs r.question)) ((same_question_decides r.question r.question).1 refl),
  still_agrees r rs rs (IsDistinct-head same_asked r rs h) (agrees_kept rs (IsDistinct-tail same_asked r rs h)),
)

pub some_agree : (kept : List Record) → AreKept kept → (t : Question → Answer) × Agrees t kept
some_agree kept are = (answer_in kept, agrees_kept kept are.once)

-- ---- a store of which nothing was needed

all_unknown : (n m : ℕ) → get_or (replicate n IsUnknown) m IsUnknown ≡ IsUnknown
all_unknown zero m = refl
all_unknown (suc n) zero = refl
all_unknown (suc n) (suc m) = all_unknown n m

module _ (h : Held) (n : ℕ) (slots : h.slots ≡ replicate n IsUnknown) (none : h.noted ≡ []) where
  unknown_at : (m : ℕ) → slot_at h.slots m ≡ IsUnknown
  unknown_at m = ap (λ s. slot_at s m) slots ∙ all_unknown n m

  none_noted : (m : ℕ) → is_in m (numbers_noted h) ≡ false
  none_noted m = ap (λ (ns : List Noted). is_in m (numbers_of_noted ns)) none

  not_good : (m : ℕ) → slot_at h.slots m ≡ IsGood → ⊥
  not_good m e = let f : IsUnknown ≡ IsGood = sym (unknown_at m) ∙ e in absurd (cc)

  nothing_known : (t : Question → Answer) (m : ℕ) → known_of (plan_held h) t h.slots m ≡ Unknown
  unfolding known_of
  nothing_known t m = ap (λ w. known_as w (value (mod_of (plan_held h) [] m) t) (firsts (asked (mod_of (plan_held h) [] m) t))) (unknown_at m)

  pub new_begun : AreBegun h
  new_begun = record {
    known = λ m e. absurd (true≢false (sym e ∙ none_noted m));
    noted = λ m other. absurd (other (unknown_at m));
    apart = (let P : List Noted → Type 0 = λ ns. AreApart (numbers_of_noted ns) in subst P (sym none) tt);
    chosen = λ m busy. absurd (let f : IsUnknown ≡ IsBusy = sym (unknown_at m) ∙ busy in cc);
  }

  pub new_rests : (kept : List Record) (t : Question → Answer) → HeldRests kept h t
  unfolding state_held
  new_rests kept t = record {
    sound = record {
      good = λ m b rs e. (let f = nothing_known t m in absurd (cc));
      cyclic = λ m e. (let f = nothing_known t m in absurd (cc));
      busy = λ m e. absurd (cc);
      waits = λ m e. (let f = nothing_known t m in absurd (cc));
      needed = λ m e. nothing_known t m;
      unneeded = λ m e. none_noted m;
      closed = λ y z e. absurd (true≢false (sym e ∙ none_noted y));
      chain = tt;
      apart = tt;
    };
    known = record { good = λ m e. absurd (not_good m e); holds = λ m e. absurd (not_good m e) };
  }

-- ---- the part of a module that was begun

module _ (kept : List Record) (h : Held) (t : Question → Answer) (places : HasPlaces h) where
  part_held : (m : ℕ) → Holds kept h t m → parts_at h.library m ≡ fresh_part (setting_of_held h) t m
  part_held m k = by (part_in k.parts m) refl
    where
      fresh : fresh_part (setting_of_held h) t m ≡ part_in k.parts m
      fresh = ap (own_part m) k.outcome

      by : (o : Option Part) → part_in k.parts m ≡ o → parts_at h.library m ≡ fresh_part (setting_of_held h) t m
      by None e = let own : is_some (part_in k.parts m) ≡ true = k.brought.own in let no = ap is_some e in absurd (cc)
      by (Some part) e = k.brought.known m part e ∙ sym e ∙ sym fresh

  part_none : (m : ℕ) → slot_at h.slots m ≢ IsGood → value (mod_of (plan_held h) [] m) t ≡ None → parts_at h.library m ≡ fresh_part (setting_of_held h) t m
  part_none m other none = places.unended m other ∙ sym (ap (own_part m) none)

  pub part_begun : (m : ℕ) → HeldRests kept h t → is_in m (numbers_noted h) ≡ true → parts_at h.library m ≡ fresh_part (setting_of_held h) t m
  unfolding state_held
  part_begun m rests here = by (slot_at h.slots m) refl (seen_view (state_held kept h) t m rests here)
    where
      other_slot : (k : Slot) → slot_at h.slots m ≡ k → k ≢ IsGood → slot_at h.slots m ≢ IsGood
      other_slot k e other good = other (sym e ∙ good)

      by : (k : Slot) → slot_at h.slots m ≡ k → IsView (value (mod_of (plan_held h) [] m) t) (view_as k) → parts_at h.library m ≡ fresh_part (setting_of_held h) t m
      by IsUnknown e view = part_none m (other_slot IsUnknown e (λ f. absurd (cc))) view
      by IsBusy e view = part_none m (other_slot IsBusy e (λ f. absurd (cc))) view
      by IsCyclic e view = part_none m (other_slot IsCyclic e (λ f. absurd (cc))) view
      by IsGood e view = let known = rests.known in part_held m (known.holds m e)

-- ---- what is printed

blocks_same : (table : Table) (p q : ℕ → Option Part) (xs : List ℕ) → ((x : ℕ) → is_in x xs ≡ true → p x ≡ q x) → flat_map (λ x. module_block table x (p x)) xs ≡ flat_map (λ x. module_block table x (q x)) xs
blocks_same table p q [] same = refl
blocks_same table p q (x ∷ xs) same =
    ap (λ o. module_block table x o ++ flat_map (λ y. module_block table y (p y)) xs) (same x (in_head x xs))
    ∙ ap (λ l. module_block table x (q x) ++ l) (blocks_same table p q xs (λ y e. same y (in_tail y x xs e)))

module _ (after : List Record) (h g : Held) (t : Question → Answer) (places : HasPlaces g) (rests : HeldRests after g t) (same : (g.job ≡ h.job) × (g.table ≡ h.table)) where
  same_setting : setting_of_held g ≡ setting_of_held h
  same_setting = λ i. record { table = same.1 i; includes = (same.0 i).includes }

  part_after : (m : ℕ) → is_in m (numbers_noted g) ≡ true → parts_at g.library m ≡ fresh_part (setting_of_held h) t m
  part_after m here = part_begun after g t places m rests here ∙ ap (λ (s : Setting). fresh_part s t m) same_setting

  -- the part of a module that was needed
  pub part_needed : (number : ℕ) → numbers_noted g ≡ with_new (numbers_noted h) (begun (mod_of (plan_held h) [] number) t) → parts_at g.library number ≡ fresh_part (setting_of_held h) t number
  part_needed number noted =
      part_after number (ap (is_in number) noted ∙ with_new_has (numbers_noted h) (begun (mod_of (plan_held h) [] number) t) number (begins_with (plan_held h) t number))

  -- the blocks of the modules that were begun since, and the unit
  module _ (path : List ℕ) (noted : numbers_noted g ≡ with_new (numbers_noted h) (begun (unit_run (setting_of_held h) path) t)) where
    news : List ℕ
    news = first_needs (setting_of_held h) t (numbers_noted h) path

    since : numbers_of_noted (drop (length h.noted) g.noted) ≡ first_needs (setting_of_held h) t (numbers_noted h) path
    since =
        sym (drop-map (λ (n : Noted). n.number) (length h.noted) g.noted)
        ∙ ap (drop (length h.noted)) noted
        ∙ drop_at (numbers_noted h) (first_needs (setting_of_held h) t (numbers_noted h) path) (length h.noted) (length-map h.noted (λ (n : Noted). n.number))

    text_whole : (items : List Item) (out : List ℕ) → items ≡ value (unit_run (setting_of_held h) path) t
        → out ≡ flat_map (λ x. module_block g.table x (parts_at g.library x)) (numbers_of_noted (drop (length h.noted) g.noted)) ++ unit_block path items
        → out ≡ unit_text (setting_of_held h) t (first_needs (setting_of_held h) t (numbers_noted h) path) path
    text_whole items out is_items is_out =
        is_out
        ∙ ap (λ ns. flat_map (λ x. module_block g.table x (parts_at g.library x)) ns ++ unit_block path items) since
        ∙ ap (λ (v : Table). flat_map (λ x. module_block v x (parts_at g.library x)) (first_needs (setting_of_held h) t (numbers_noted h) path) ++ unit_block path items) same.1
        ∙ ap (λ l. l ++ unit_block path items)
        (blocks_same h.table (parts_at g.library) (fresh_part (setting_of_held h) t) (first_needs (setting_of_held h) t (numbers_noted h) path)
        (λ x e. part_after x (ap (is_in x) noted ∙ in_append_right x (numbers_noted h) (first_needs (setting_of_held h) t (numbers_noted h) path) e)))
        ∙ ap (λ is. flat_map (λ x. module_block h.table x (fresh_part (setting_of_held h) t x)) (first_needs (setting_of_held h) t (numbers_noted h) path) ++ unit_block path is) is_items

    -- where so many were begun before
    pub text_since : (before : ℕ) (given : List ℕ) (items lines : List Item) (out : List ℕ) → before ≡ length h.noted → given ≡ path → lines ≡ items → items ≡ value (unit_run (setting_of_held h) path) t
        → out ≡ flat_map (λ x. module_block g.table x (parts_at g.library x)) (numbers_of_noted (drop before g.noted)) ++ unit_block given lines
        → out ≡ unit_text (setting_of_held h) t (first_needs (setting_of_held h) t (numbers_noted h) path) path
    text_since before given items lines out count same_path same_items is_items is_out =
        text_whole items out is_items
        (is_out ∙ (λ i. flat_map (λ x. module_block g.table x (parts_at g.library x)) (numbers_of_noted (drop (count i) g.noted)) ++ unit_block (same_path i) (same_items i)))

-- ---- what a call on the memo gives

module _ (before after : List Record) (old new : Held) (told now : Bool) (was is : Type 0) (f0 f1 : ℕ) where
  pub value_over : {A : Type 0} (r : Result A TreeFault) (P : (Question → Answer) → A → Type 0)
      → IfOk r (λ v. (t : Question → Answer) → Agrees t after → Trusts told was is → Rests (state_of before old told was f0) t → P t v)
      → IfOk r (λ v. (t : Question → Answer) → Agrees t after → Trusts told was is → HeldRests before old t → P t v)
  value_over (Ok v) P h = λ t agrees trust rests. h t agrees trust (rests_of before old told was f0 t rests)
  value_over (Err e) P h = tt

  pub on_over : {A : Type 0} (r : Result A TreeFault) (P : (Question → Answer) → Type 0)
      → OnOk r ((t : Question → Answer) → Agrees t after → Trusts told was is → Rests (state_of before old told was f0) t → P t)
      → OnOk r ((t : Question → Answer) → Agrees t after → Trusts told was is → HeldRests before old t → P t)
  on_over (Ok v) P h = λ t agrees trust rests. h t agrees trust (rests_of before old told was f0 t rests)
  on_over (Err e) P h = tt

  pub goes_on : {A : Type 0} (r : Result A TreeFault) (begins : (Question → Answer) → List ℕ)
      → OnOk r (RestsAfter (state_of before old told was f0) (state_of after new now is f1) begins) → OnOk r (GoesOn before after old new (Trusts told was is) begins)
  goes_on (Ok v) begins h = λ t agrees trust rests.
      let again = h t agrees trust (rests_of before old told was f0 t rests) in
      (rests_held after new now is f1 t again.rests, again.noted)
  goes_on (Err e) begins h = tt

  pub at_some : (Q : Type 0) → AreKept after → ((t : Question → Answer) → Agrees t after → Agrees t before) → RestsOver before old
      → ((t : Question → Answer) → Agrees t after → Rests (state_of before old told was f0) t → Q) → Q
  at_some Q are back over h =
      let some = some_agree after are in
      h some.0 some.1 (rests_of before old told was f0 some.0 (over some.0 (back some.0 some.1)))

-- ---- faults

-- a fault of the tree is told of as it is
pub fault_told : {A : Type 0} → (r : Result A StoreFault) (fault : TreeFault) → IsErrAnd r (λ e. e ≡ told_as fault) → tree_fault r ≡ Some fault
fault_told (Ok a) fault h = absurd h
fault_told (Err StoreFailed) Failed h = refl
fault_told (Err StoreFailed) NoMemory h = absurd (cc)
fault_told (Err NoRoom) Failed h = absurd (cc)
fault_told (Err NoRoom) NoMemory h = refl
fault_told (Err Spent) Failed h = absurd (cc)
fault_told (Err Spent) NoMemory h = absurd (cc)

-- and is none of a spent store
pub not_spent : {A : Type 0} → (r : Result A StoreFault) (fault : TreeFault) → IsErrAnd r (λ e. e ≡ told_as fault) → r ≢ Err Spent
not_spent (Ok a) fault h = absurd h
not_spent (Err StoreFailed) fault h = λ e. absurd (cc)
not_spent (Err NoRoom) fault h = λ e. absurd (cc)
not_spent (Err Spent) Failed h = absurd (cc)
not_spent (Err Spent) NoMemory h = absurd (cc)
