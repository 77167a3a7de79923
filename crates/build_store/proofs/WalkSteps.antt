-- How a walk goes on from one place to the next, over plain variables.
use Rattle.std.proofs.Common.{◌≡◌, ℕ, List, [], ◌++◌, map, slice_get, Some, refl, sym, ap, ◌∙◌, append_assoc}
use Rattle.std.proofs.lemmas.List.{map-append, append-nil}
use Rattle.cm_outside.specs.Asks.{asked}
use Rattle.cm_outside.specs.Keeping.{Grew}
use Rattle.cm_outside.specs.declared.question.Question.{Question}
use Rattle.cm_outside.specs.declared.question.Answer.{Answer}
use Rattle.cm_outside.specs.declared.question.Record.{Record}
use Rattle.cm_outside.proofs.Grown.{numbered_after}
use Rattle.build_store.specs.Memo.{Tried, with_records}
use Rattle.build_store.specs.Tables.{table_of}
use Rattle.build_store.specs.Walks.{AsksSame, WalksOn}
use Rattle.build_store.specs.declared.held.Held.{Held}
use Rattle.build_store.proofs.WalkQuestions.{asked_both}
use Rattle.build_store.proofs.WalkTries.{records_none, records_both}

module _ (h : Held) (t : Question → Answer) where
  -- ---- what is asked

  pub asks_nothing : (kept : List Record) → AsksSame kept h t [] []
  asks_nothing kept = record { numbered = []; are = refl; same = refl }

  pub asks_later : (old new : List Record) (numbers : List ℕ) (records : List Record) → Grew old new → AsksSame old h t numbers records → AsksSame new h t numbers records
  asks_later old new numbers records grew asks =
      record { numbered = asks.numbered; are = numbered_after old new numbers asks.numbered grew asks.are; same = asks.same }

  pub asks_then : (kept : List Record) (ns ms : List ℕ) (rs ss : List Record) → AsksSame kept h t ns rs → AsksSame kept h t ms ss → AsksSame kept h t (ns ++ ms) (rs ++ ss)
  asks_then kept ns ms rs ss a b = record {
    numbered = a.numbered ++ b.numbered;
    are = map-append (slice_get kept) ns ms ∙ (λ i. a.are i ++ b.are i) ∙ sym (map-append (λ s. Some s) a.numbered b.numbered);
    same = asked_both (asked (table_of h.job.maps) t) a.numbered rs b.numbered ss a.same b.same;
  }

  -- the questions themselves
  pub asks_these : (kept : List Record) (ns : List ℕ) (rs : List Record) → map (slice_get kept) ns ≡ map Some rs → AsksSame kept h t ns rs
  asks_these kept ns rs are = record { numbered = rs; are = are; same = refl }

  -- ---- ways

  module _ {A : Type 0} where
    pub walks_nowhere : (kept : List Record) (numbers : List ℕ) (whole rest : Tried A) → whole ≡ rest → WalksOn kept h t numbers numbers whole rest
    walks_nowhere kept numbers whole rest is =
        record { records = []; comes = is ∙ sym (records_none rest); added = []; pushed = sym (append-nil numbers); same = λ of. asks_nothing kept }

    pub walks_none : (kept : List Record) (numbers : List ℕ) (whole rest : Tried A) → whole ≡ rest → WalksOn kept h t numbers (numbers ++ []) whole rest
    walks_none kept numbers whole rest is =
        record { records = []; comes = is ∙ sym (records_none rest); added = []; pushed = refl; same = λ of. asks_nothing kept }

    pub walks_asked : (kept : List Record) (before now more : List ℕ) (rs : List Record) (whole rest : Tried A) → now ≡ before ++ more → whole ≡ with_records rs rest
        → map (slice_get kept) more ≡ map Some rs → WalksOn kept h t before now whole rest
    walks_asked kept before now more rs whole rest pushed comes are =
        record { records = rs; comes = comes; added = more; pushed = pushed; same = λ of. asks_these kept more rs are }

    pub walks_then : (mid new : List Record) (n0 n1 n2 : List ℕ) (a b c : Tried A) → Grew mid new
        → WalksOn mid h t n0 n1 a b → WalksOn new h t n1 n2 b c → WalksOn new h t n0 n2 a c
    walks_then mid new n0 n1 n2 a b c grew first second = record {
      records = first.records ++ second.records;
      comes = first.comes ∙ ap (with_records first.records) second.comes ∙ records_both first.records second.records c;
      added = first.added ++ second.added;
      pushed = second.pushed ∙ ap (λ ns. ns ++ second.added) first.pushed ∙ append_assoc n0 first.added second.added;
      same = λ of. asks_then new first.added second.added first.records second.records (asks_later mid new first.added first.records grew (first.same of)) (second.same of);
    }
