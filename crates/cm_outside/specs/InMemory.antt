-- What the objects in memory show: the files or the bytes that they hold, and how their calls went. own
use Rattle.std.specs.Prelude.{◌≡◌, ℕ, ◌+◌, ◌-◌, ◌^◌, ◌==◌, Bool, true, false, List, min, Result, IsErrOf, OnOk}
use Rattle.std.specs.List.{list_any}
use Rattle.cm_outside.specs.Trees.{Files}
use Rattle.cm_outside.specs.declared.question.Question.{Question}

-- a tree whose calls fail where their numbers, from 1, stand in `fails`
pub record FailingTree : Type 0 where
  pub files : Files
  pub fails : List ℕ
  pub calls : ℕ
  pub faults : ℕ
  pub reads : List Question

-- a tree that does not fail
pub record PlainTree : Type 0 where
  pub files : Files
  pub reads : List Question

-- a sink that takes at most `piece` bytes a call, whose calls fail where their numbers, from 1, stand in `fails`
pub record FailingSink : Type 0 where
  pub bytes : List ℕ
  pub fails : List ℕ
  pub piece : ℕ
  pub calls : ℕ
  pub faults : ℕ

-- a count after one more, which stays at its last value
abbrev pub one_more : ℕ → ℕ
one_more count = min (count + 1) (2 ^ 64 - 1)

-- the call with this number is to fail
abbrev pub is_to_fail : List ℕ → ℕ → Bool
is_to_fail fails call = list_any (λ n. n == call) fails

-- The call with this number fails exactly where it is to, but for want of memory.
pub record FailsWhereTold {A E : Type 0} (fails : List ℕ) (call : ℕ) (result : Result A E) (failed : E) : Type 0 where
  pub only : IsErrOf result failed → is_to_fail fails call ≡ true
  pub always : OnOk result (is_to_fail fails call ≡ false)

-- the faults rise by one at a fault, and only there
pub record CountsFaults {A E : Type 0} (before now : ℕ) (result : Result A E) (failed : E) : Type 0 where
  pub rises : IsErrOf result failed → now ≡ one_more before
  pub stays : OnOk result (now ≡ before)
