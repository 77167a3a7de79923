-- A module whose header was walked over. own (for the contracts of private functions)
use Rattle.std.specs.Prelude.{◌≡◌, ℕ, ◌<◌, Bool, false, List, [], ◌∷◌, drop, length, Option, Some, None}
use Rattle.std.specs.List.{slice_index_or}
use Rattle.cm_outside.specs.Asks.{Agrees, asked, value}
use Rattle.cm_outside.specs.Firsts.{firsts}
use Rattle.cm_outside.specs.declared.question.Question.{Question}
use Rattle.cm_outside.specs.declared.question.Answer.{Answer}
use Rattle.cm_outside.specs.declared.question.Record.{Record}
use Rattle.module_file.specs.declared.index.Index.{Index}
use Rattle.build_store.specs.Held.{AreNumbersOf, HeldRuns, IsTableOf, found_at, key_held, numbers_noted, plan_held}
use Rattle.build_store.specs.Images.{index_of, interpreted}
use Rattle.build_store.specs.Libraries.{IsBroughtBy, parts_at, with_part}
use Rattle.build_store.specs.Memo.{NeedsNone}
use Rattle.build_store.specs.Modules.{is_in, mod_of}
use Rattle.build_store.specs.Order.{needs_of}
use Rattle.build_store.specs.Parts.{Fragment}
use Rattle.build_store.specs.Targets.{number_of}
use Rattle.build_store.specs.Walks.{IsWalk}
use Rattle.build_store.specs.declared.held.Found.{Found}
use Rattle.build_store.specs.declared.held.Held.{Held}
use Rattle.build_store.specs.declared.part.Part.{Part}
use Rattle.build_store.specs.declared.walk.Walk.{Walk}

-- Over these answers module m is in progress behind those of the chain, and the walk over its header came to this. Where it came
-- to the end, the numbers are those of what the maps ask and of what the header asks behind them.
pub record HasWalked (kept : List Record) (h : Held) (t : Question → Answer) (chain end : List ℕ) (m : ℕ) (walk : Walk) (numbers : List ℕ) : Type 0 where
  pub agrees : Agrees t kept
  pub table : IsTableOf kept h
  pub runs : HeldRuns kept h t (m ∷ chain) end
  pub walk_is : IsWalk kept h t m h.maps numbers walk

-- Over these answers module m, in progress behind those of the chain, came to this part and needs nothing more; this is to be
-- found of it, and this is what its file says.
pub record IsFresh (kept : List Record) (h : Held) (t : Question → Answer) (chain : List ℕ) (m : ℕ) (part : Part) (index : Index) (found : Found) : Type 0 where
  pub none : NeedsNone (plan_held h) t (numbers_noted h) chain m
  pub parts : Fragment
  pub outcome : value (mod_of (plan_held h) [] m) t ≡ Some parts
  pub brought : IsBroughtBy h.table (with_part (parts_at h.library) m part) m parts
  pub questions : AreNumbersOf kept found.asked (firsts (asked (interpreted (key_held h m)) t))
  pub needs : found.needs ≡ drop 1 (needs_of (plan_held h) t m)
  pub image : index_of index.key t ≡ Some index

abbrev pub needs_of_found : Option Found → List ℕ
needs_of_found None = []
needs_of_found (Some found) = found.needs

abbrev pub with_needs : Held → Option ℕ → List ℕ
with_needs h None = []
with_needs h (Some x) = x ∷ needs_of_found (found_at h x)

-- the module of this name with all that it needs, of what is held
abbrev pub needs_found : Held → List ℕ → List ℕ
needs_found h name = with_needs h (number_of h.table name)

-- these flags say of each number whether it is in the list
pub record MarksEach (flags : List Bool) (numbers : List ℕ) : Type 0 where
  pub marks : (x : ℕ) → x < length flags → slice_index_or flags x false ≡ is_in x numbers
