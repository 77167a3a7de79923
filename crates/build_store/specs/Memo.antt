-- What is known of modules in the middle of a build: what was found of each, which are in progress, in which order they
-- were begun, and how far a fold comes by what is known. own
use Rattle.std.specs.Prelude.{◌≡◌, ℕ, Bool, true, false, ◌==◌, cond, List, [], ◌∷◌, ◌++◌, Option, Some, None}
use Rattle.cm_outside.specs.declared.question.Question.{Question}
use Rattle.cm_outside.specs.declared.question.Answer.{Answer}
use Rattle.cm_outside.specs.declared.question.Record.{Record}
use Rattle.cm_outside.specs.Asks.{value, asked, begun}
use Rattle.cm_outside.specs.Firsts.{firsts}
use Rattle.build_store.specs.Needs.{Needs, Ends, Puts, Imports, met}
use Rattle.build_store.specs.Modules.{Plan, is_in, mod_of, unit_of}
use Rattle.build_store.specs.Order.{new_of}
use Rattle.build_store.specs.Outcomes.{imports, Leads}

-- What is known of a module: nothing yet, that it is in progress, that it is Cyclic, or what an import of it brings, with
-- the first asking of each question that it asks.
pub data Known (B : Type 0) : Type 0 where
  Unknown : Known B
  Busy : Known B
  Cyclic : Known B
  Good : B → List Record → Known B

-- How far a fold comes: to its end, with the records of what it asked and of what its imports asked, or to an import of
-- a module of which nothing is known.
pub data Tried (A : Type 0) : Type 0 where
  Ended : A → List Record → Tried A
  Stands : ℕ → Tried A

-- ---- a fold by what is known

-- what an import of a known module brings: one in progress brings nothing
abbrev pub given : {B : Type 0} → Known B → Option B
given Unknown = None
given Busy = None
given Cyclic = None
given (Good b rs) = Some b

abbrev pub with_records : {A : Type 0} → List Record → Tried A → Tried A
with_records rs (Ended a more) = Ended a (rs ++ more)
with_records rs (Stands x) = Stands x

-- past an import of x, of which this is known
abbrev pub past : {B A : Type 0} → Known B → ℕ → (Option B → Tried A) → Tried A
past Unknown x more = Stands x
past Busy x more = more None
past Cyclic x more = more None
past (Good b rs) x more = with_records rs (more (Some b))

-- how far the fold comes over these answers, where this is known of what it imports
abbrev pub tried : {B A : Type 0} → (ℕ → Known B) → Needs B A → (Question → Answer) → Tried A
tried known (Ends a) t = Ended a []
tried known (Puts q next) t = with_records (record { question = q; answer = t q } ∷ []) (tried known (next (t q)) t)
tried known (Imports x next) t = past (known x) x (λ b. tried known (next b) t)

abbrev pub is_unknown : {B : Type 0} → Known B → Bool
is_unknown Unknown = true
is_unknown Busy = false
is_unknown Cyclic = false
is_unknown (Good b rs) = false

-- what is known stays so, and more may be known
abbrev pub Grows : {B : Type 0} → (ℕ → Known B) → (ℕ → Known B) → Type 0
Grows known more = (x : ℕ) → is_unknown (known x) ≡ false → more x ≡ known x

-- the first of these modules of which nothing is known
abbrev pub first_unknown : {B : Type 0} → (ℕ → Known B) → List ℕ → Option ℕ
first_unknown known [] = None
first_unknown known (x ∷ xs) = cond (is_unknown (known x)) (Some x) (first_unknown known xs)

-- what is known, and this of m
abbrev pub with_known : {B : Type 0} → (ℕ → Known B) → ℕ → Known B → ℕ → Known B
with_known known m k y = cond (y == m) k (known y)

-- no number stands in it twice
abbrev pub AreApart : List ℕ → Type 0
AreApart [] = Unit {0}
AreApart (m ∷ ms) = (is_in m ms ≡ false) × AreApart ms

module _ {B : Type 0} where
  -- ---- what is known is so

  -- each module of the chain imports the one before it
  abbrev pub IsChain : Plan B → (Question → Answer) → List ℕ → Type 0
  IsChain p t [] = Unit {0}
  IsChain p t (m ∷ c) = Leads p t c m

  -- What is known is so over these answers. The modules of `seen` were begun, in this order; those of `c` are in progress,
  -- the last begun first.
  pub record Sound (p : Plan B) (t : Question → Answer) (known : ℕ → Known B) (seen c : List ℕ) : Type 0 where
    pub good : (m : ℕ) (b : B) (rs : List Record) → known m ≡ Good b rs → (value (mod_of p [] m) t ≡ Some b) × (rs ≡ firsts (asked (mod_of p [] m) t))
    pub cyclic : (m : ℕ) → known m ≡ Cyclic → value (mod_of p [] m) t ≡ None
    pub busy : (m : ℕ) → is_in m c ≡ true → known m ≡ Busy
    pub waits : (m : ℕ) → known m ≡ Busy → is_in m c ≡ true
    pub needed : (m : ℕ) → is_in m seen ≡ false → known m ≡ Unknown
    pub unneeded : (m : ℕ) → known m ≡ Unknown → is_in m seen ≡ false
    pub closed : (y z : ℕ) → is_in y seen ≡ true → is_in y c ≡ false → is_in z (imports p t y) ≡ true → is_in z seen ≡ true
    pub chain : IsChain p t c
    pub apart : AreApart c

  -- ---- a turn of a module in progress

  -- The module m, in progress over those of `c`, needs the module x next, and goes on behind it.
  pub record NeedsNext (p : Plan B) (t : Question → Answer) (known : ℕ → Known B) (seen c : List ℕ) (m x : ℕ) : Type 0 where
    pub unknown : known x ≡ Unknown
    pub imported : is_in x (imports p t m) ≡ true
    pub behind : List ℕ
    pub order : new_of seen (begun (mod_of p c m) t) ≡ new_of seen (begun (mod_of p (m ∷ c) x) t ++ behind)

  -- The module m, in progress over those of `c`, needs no further module.
  pub record NeedsNone (p : Plan B) (t : Question → Answer) (seen c : List ℕ) (m : ℕ) : Type 0 where
    pub imported : (z : ℕ) → is_in z (imports p t m) ≡ true → is_in z seen ≡ true
    pub order : new_of seen (begun (mod_of p c m) t) ≡ []

  -- it ends, and brings b
  pub record EndsGood (p : Plan B) (t : Question → Answer) (seen c : List ℕ) (m : ℕ) (b : B) (rs : List Record) : Type 0 where
    pub none : NeedsNone p t seen c m
    pub outcome : value (mod_of p [] m) t ≡ Some b
    pub records : rs ≡ firsts (asked (mod_of p [] m) t)

  -- it ends as Cyclic
  pub record EndsCyclic (p : Plan B) (t : Question → Answer) (seen c : List ℕ) (m : ℕ) : Type 0 where
    pub none : NeedsNone p t seen c m
    pub outcome : value (mod_of p [] m) t ≡ None

  -- it ends, and this is found of it
  abbrev pub IsEnd : Plan B → (Question → Answer) → List ℕ → List ℕ → ℕ → Known B → Type 0
  IsEnd p t seen c m Unknown = ⊥
  IsEnd p t seen c m Busy = ⊥
  IsEnd p t seen c m Cyclic = EndsCyclic p t seen c m
  IsEnd p t seen c m (Good b rs) = EndsGood p t seen c m b rs

  -- ---- all modules in progress

  -- Until the topmost of these modules in progress has ended, and what is in progress above it, `front` and some more will
  -- be begun; and then the ones below go on, until those begun are `end`.
  abbrev pub Onward : Plan B → (Question → Answer) → List ℕ → List ℕ → List ℕ → List ℕ → Type 0
  Onward p t seen front [] end = seen ++ front ≡ end
  Onward p t seen front (m ∷ c) end = (more : List ℕ) × (new_of seen (begun (mod_of p c m) t) ≡ front ++ more) × Onward p t seen (front ++ more) c end

  -- What is known is so, and when all modules in progress have ended, those of `end` will have been begun.
  pub record Stack (p : Plan B) (t : Question → Answer) (known : ℕ → Known B) (seen c end : List ℕ) : Type 0 where
    pub sound : Sound p t known seen c
    pub order : Onward p t seen [] c end

-- ---- a turn of a unit

module _ {B A : Type 0} where
  -- the unit needs the module x next, and goes on behind it
  pub record UnitNeeds (p : Plan B) (t : Question → Answer) (known : ℕ → Known B) (seen : List ℕ) (fold : Needs B A) (x : ℕ) : Type 0 where
    pub unknown : known x ≡ Unknown
    pub behind : List ℕ
    pub order : new_of seen (begun (unit_of p fold) t) ≡ new_of seen (begun (mod_of p [] x) t ++ behind)

  -- it ends, with this, and needs no further module
  pub record UnitEnds (p : Plan B) (t : Question → Answer) (seen : List ℕ) (fold : Needs B A) (a : A) : Type 0 where
    pub outcome : value (unit_of p fold) t ≡ a
    pub order : new_of seen (begun (unit_of p fold) t) ≡ []

  -- every import of the fold names a module of the table
  pub record IsNamed (p : Plan B) (fold : Needs B A) : Type 0 where
    pub named : (t : Question → Answer) (brings : ℕ → Option B) (x : ℕ) → is_in x (met fold t brings) ≡ true → is_in (p.top x) p.tops ≡ true
