-- What modules come to with nothing in progress, what they import, and which chains of modules come about. own
use Rattle.std.specs.Prelude.{◌≡◌, ℕ, true, ◌==◌, cond, List, [], ◌∷◌, map, Option}
use Rattle.std.specs.List.{filter}
use Rattle.cm_outside.specs.declared.question.Question.{Question}
use Rattle.cm_outside.specs.declared.question.Answer.{Answer}
use Rattle.cm_outside.specs.Asks.{value}
use Rattle.build_store.specs.Needs.{Needs, Ends, Imports, strictly, end_of, met}
use Rattle.build_store.specs.Modules.{Plan, is_in, own_import, inside, import_in}

module _ {B : Type 0} where
  -- what an import brings where nothing is in progress
  unfoldable pub brought : Plan B → (Question → Answer) → ℕ → Option B
  brought p t x = value (import_in p [] x) t

  -- the known modules that a module imports, where each import brings what it does by itself
  unfoldable pub imports : Plan B → (Question → Answer) → ℕ → List ℕ
  imports p t m = filter (λ y. is_in y p.tops) (map p.top (met (inside p m) t (brought p t)))

  -- each module of the chain imports the one before it, and the first imports `m`
  abbrev pub Leads : Plan B → (Question → Answer) → List ℕ → ℕ → Type 0
  Leads p t [] m = Unit {0}
  Leads p t (c ∷ chain) m = (is_in m (imports p t c) ≡ true) × Leads p t chain c

  -- with each module the list has what that one imports
  pub record IsClosed (p : Plan B) (t : Question → Answer) (seen : List ℕ) : Type 0 where
    pub closed : (y z : ℕ) → is_in y seen ≡ true → is_in z (imports p t y) ≡ true → is_in z seen ≡ true

  -- ---- the same of the submodules of a module `m`, where the imports of other modules bring `brings`

  -- the fold of a submodule, which ends at its first Cyclic import
  unfoldable pub strict_fold : Plan B → ℕ → Needs B (Option B)
  strict_fold p x = strictly (λ y. Imports y (λ b. Ends b)) (p.fold x)

  -- what an import in a submodule of `m` brings where no submodule is being folded
  unfoldable pub brought_within : Plan B → ℕ → (Question → Answer) → (ℕ → Option B) → ℕ → Option B
  brought_within p m t brings y = cond (p.top y == m) (end_of (own_import p m [] y) t brings) (brings y)

  -- the submodules of `m` that the submodule `x` imports
  unfoldable pub own_imports : Plan B → ℕ → (Question → Answer) → (ℕ → Option B) → ℕ → List ℕ
  own_imports p m t brings x = filter (λ y. p.top y == m) (met (strict_fold p x) t (brought_within p m t brings))

  -- each submodule of `inner` imports the one before it, and the first imports `x`
  abbrev pub LeadsWithin : Plan B → ℕ → (Question → Answer) → (ℕ → Option B) → List ℕ → ℕ → Type 0
  LeadsWithin p m t brings [] x = Unit {0}
  LeadsWithin p m t brings (y ∷ inner) x = (is_in x (own_imports p m t brings y) ≡ true) × LeadsWithin p m t brings inner y
