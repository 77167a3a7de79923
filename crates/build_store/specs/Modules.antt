-- Submodules, modules and units, for any fold. An import of a submodule of another module brings what that whole module brings;
-- one of the same module brings what that submodule does. It is Cyclic where it leads back to what is being folded, and a
-- module ends as Cyclic at its first Cyclic import. own
use Rattle.std.specs.Prelude.{ℕ, zero, suc, Bool, false, not, ◌&&◌, ◌||◌, ◌==◌, cond, List, [], ◌∷◌, ◌++◌, length, Option, Some, None}
use Rattle.std.specs.List.{filter}
use Rattle.cm_outside.specs.Asks.{Asks, Done, Begin}
use Rattle.build_store.specs.Needs.{Needs, Ends, Imports, then_needs, or_cyclic, strictly, answered}

-- A table of modules with the folds of their submodules. `B` is what an import brings.
pub record Plan (B : Type 0) : Type 0 where
  -- the top-level modules
  pub tops : List ℕ
  -- the top-level module of a submodule
  pub top : ℕ → ℕ
  -- the available submodules of a top-level module, in order of number
  pub subs : ℕ → List ℕ
  -- the fold of a submodule, which ends with what it brings
  pub fold : ℕ → Needs B B
  -- what a module brings, from what its submodules bring
  pub together : List B → B

-- ---- what is known and not in progress

abbrev pub is_in : ℕ → List ℕ → Bool
is_in m [] = false
is_in m (x ∷ xs) = (m == x) || is_in m xs

abbrev pub is_free : List ℕ → List ℕ → ℕ → Bool
is_free known busy m = is_in m known && not (is_in m busy)

-- how many of the known are not in progress
unfoldable pub left : List ℕ → List ℕ → ℕ
left known busy = length (filter (λ m. not (is_in m busy)) known)

module _ {B : Type 0} where
  -- ---- the submodules of one module

  -- an import in a submodule of `m`: of the module itself by `own`, of another one as it is
  abbrev pub import_by : Plan B → ℕ → (ℕ → Needs B (Option B)) → ℕ → Needs B (Option B)
  import_by p m own x = cond (p.top x == m) (own x) (Imports x (λ b. Ends b))

  -- what an import of the module's own submodule `x` brings, where those of `inner` are being folded. It is deep enough for
  -- so many submodules.
  unfoldable pub within : Plan B → ℕ → ℕ → List ℕ → ℕ → Needs B (Option B)
  within p m zero inner x = Ends None
  within p m (suc more) inner x = cond (is_free (p.subs m) inner x) (strictly (import_by p m (λ y. within p m more (x ∷ inner) y)) (p.fold x)) (Ends None)

  -- the same, as deep as there are submodules of `m` that are not being folded
  unfoldable pub own_import : Plan B → ℕ → List ℕ → ℕ → Needs B (Option B)
  own_import p m inner x = within p m (left (p.subs m) inner) inner x

  -- the submodule `x` of `m`, where the folding of those of `inner` came to it
  unfoldable pub sub_of : Plan B → ℕ → List ℕ → ℕ → Needs B (Option B)
  sub_of p m inner x = strictly (import_by p m (own_import p m (x ∷ inner))) (p.fold x)

  -- submodules one after the other, each by itself, with what those before them brought
  abbrev pub in_turn : (ℕ → Needs B (Option B)) → (List B → B) → List B → List ℕ → Needs B (Option B)
  in_turn sub together done [] = Ends (Some (together done))
  in_turn sub together done (x ∷ xs) = then_needs (sub x) (or_cyclic (λ b. in_turn sub together (done ++ (b ∷ [])) xs))

  -- a module, with the imports of other modules left as needs
  unfoldable pub inside : Plan B → ℕ → Needs B (Option B)
  inside p m = in_turn (sub_of p m []) p.together [] (p.subs m)

  -- ---- modules

  -- what an import of `x` brings, where the modules of `chain` are in progress. It is deep enough for so many modules.
  unfoldable pub import_of : Plan B → ℕ → List ℕ → ℕ → Asks (Option B)
  import_of p zero chain x = Done None
  import_of p (suc more) chain x = cond (is_free p.tops chain (p.top x)) (Begin (p.top x) (answered (λ y. import_of p more (p.top x ∷ chain) y) (inside p (p.top x)))) (Done None)

  -- the same, as deep as there are modules that are not in progress
  unfoldable pub import_in : Plan B → List ℕ → ℕ → Asks (Option B)
  import_in p chain x = import_of p (left p.tops chain) chain x

  -- the module `m`, where the interpretation of those of `chain` came to it, the last begun first
  unfoldable pub mod_of : Plan B → List ℕ → ℕ → Asks (Option B)
  mod_of p chain m = Begin m (answered (import_in p (m ∷ chain)) (inside p m))

-- a unit by its fold. It is given None for a Cyclic import and goes on.
unfoldable pub unit_of : {B A : Type 0} → Plan B → Needs B A → Asks A
unit_of p fold = answered (import_in p []) fold
