-- Where the cache doesn't fail, one origin holds of a module.
use Rattle.std.proofs.Common.{◌≡◌, ◌≢◌, ◌⊎◌, inl, inr, ℕ, Bool, true, false, List, Option, Some, None, Result, Ok, Err, refl, sym, ap, subst, ◌∙◌}
use Rattle.cm_outside.specs.declared.question.Question.{Question}
use Rattle.cm_outside.specs.declared.question.Answer.{Answer}
use Rattle.cm_outside.specs.Trees.{Path}
use Rattle.module_file.specs.Whole.{spelling_injective}
use Rattle.module_file.specs.declared.fault.FileFault.{FileFault}
use Rattle.module_file.specs.declared.fault.FileFault.TheVariants.{OtherVersion as VersionFault}
use Rattle.module_file.specs.declared.index.Index.{Index}
use Rattle.module_file.specs.declared.index.Key.{Key}
use Rattle.build_store.specs.Changes.{changed}
use Rattle.build_store.specs.Origins.{IsCurrent, IsDamaged, IsOfOtherVersion, IsOrigin, IsSealed, IsSealedAs}
use Rattle.build_store.specs.declared.origin.Origin.{Origin}
use Rattle.build_store.specs.declared.origin.Origin.TheVariants.{Loaded, Built}
use Rattle.build_store.specs.declared.origin.Reason.TheVariants.{Missing, Unreadable, OtherVersion, Damaged, OtherKey, Outdated}
use Rattle.build_store.proofs.ChangesFirst.{agrees_unchanged}
use Rattle.build_store.proofs.KeptFound.{sealed_len}

version_is_not_sealed : (file : List ℕ) → IsOfOtherVersion file → IsSealed file → ⊥
version_is_not_sealed file v s = clash (sym v.1 ∙ sealed_len file s.0 s.1)
  where
    clash : {n m : ℕ} → ◌≡◌ {A = Result ℕ FileFault} (Err (VersionFault n)) (Ok m) → ⊥
    clash e = cc

-- the origin by the first change and by whether the file fits
abbrev origin_of : Option Path → Bool → Origin
origin_of (Some path) b = Built (Outdated path)
origin_of None true = Loaded
origin_of None false = Built Damaged

module _ (fits : Index → Bool) (key : Key) (t : Question → Answer) where
  -- what is judged of a sealed file
  abbrev Judges : Index → Origin → Type 0
  Judges i Loaded = IsCurrent key t i × (fits i ≡ true)
  Judges i (Built Damaged) = IsCurrent key t i × (fits i ≡ false)
  Judges i (Built OtherKey) = i.key ≢ key
  Judges i (Built (Outdated path)) = (i.key ≡ key) × (changed t i.records ≡ Some path)
  Judges i (Built Missing) = ⊥
  Judges i (Built Unreadable) = ⊥
  Judges i (Built OtherVersion) = ⊥

  current_origin : (i : Index) (b : Bool) → IsCurrent key t i → fits i ≡ b → origin_of (changed t i.records) (fits i) ≡ origin_of None b
  current_origin i b current is = (λ j. origin_of (agrees_unchanged t i.records current.1 j) (is j))

  judged_by : (i : Index) → i.key ≡ key → (o : Origin) → Judges i o → o ≡ origin_of (changed t i.records) (fits i)
  judged_by i own Loaded h = sym (current_origin i true h.0 h.1)
  judged_by i own (Built Damaged) h = sym (current_origin i false h.0 h.1)
  judged_by i own (Built OtherKey) h = absurd (h own)
  judged_by i own (Built (Outdated path)) h = sym (ap (λ c. origin_of c (fits i)) h.1)
  judged_by i own (Built Missing) h = absurd h
  judged_by i own (Built Unreadable) h = absurd h
  judged_by i own (Built OtherVersion) h = absurd h

  judged_other : (i : Index) → i.key ≢ key → (o : Origin) → Judges i o → o ≡ Built OtherKey
  judged_other i other Loaded h = absurd (other h.0.0)
  judged_other i other (Built Damaged) h = absurd (other h.0.0)
  judged_other i other (Built OtherKey) h = refl
  judged_other i other (Built (Outdated path)) h = absurd (other h.0)
  judged_other i other (Built Missing) h = absurd h
  judged_other i other (Built Unreadable) h = absurd h
  judged_other i other (Built OtherVersion) h = absurd h

  judged_key : (i : Index) (o : Origin) → Judges i o → (i.key ≡ key) ⊎ (i.key ≢ key)
  judged_key i Loaded h = inl h.0.0
  judged_key i (Built Damaged) h = inl h.0.0
  judged_key i (Built OtherKey) h = inr h
  judged_key i (Built (Outdated path)) h = inl h.0
  judged_key i (Built Missing) h = absurd h
  judged_key i (Built Unreadable) h = absurd h
  judged_key i (Built OtherVersion) h = absurd h

  judged_one : (i : Index) (o p : Origin) → Judges i o → Judges i p → o ≡ p
  judged_one i o p h k = by (judged_key i o h)
    where
      by : (i.key ≡ key) ⊎ (i.key ≢ key) → o ≡ p
      by (inl own) = judged_by i own o h ∙ sym (judged_by i own p k)
      by (inr other) = judged_other i other o h ∙ sym (judged_other i other p k)

  -- a file is of another version, damaged or sealed
  abbrev Judged : List ℕ → Origin → Type 0
  Judged file o =
      (IsOfOtherVersion file × (o ≡ Built OtherVersion))
      ⊎ ((IsDamaged file × (o ≡ Built Damaged)) ⊎ ((i : Index) × IsSealedAs file i × Judges i o))

  judged : (file : List ℕ) (o : Origin) → IsOrigin fits ⊥ key t (Some file) o → Judged file o
  judged file Loaded h = inr (inr (h.0, h.1, h.2))
  judged file (Built Missing) h = absurd (cc)
  judged file (Built Unreadable) h = absurd h
  judged file (Built OtherVersion) h = inl (h, refl)
  judged file (Built Damaged) (inl h) = inr (inl (h, refl))
  judged file (Built Damaged) (inr h) = inr (inr (h.0, h.1, h.2))
  judged file (Built OtherKey) h = inr (inr (h.0, h.1, h.2))
  judged file (Built (Outdated path)) h = inr (inr (h.0, h.1, h.2))

  both : (file : List ℕ) (o p : Origin) → Judged file o → Judged file p → o ≡ p
  both file o p (inl a) (inl b) = a.1 ∙ sym b.1
  both file o p (inl a) (inr (inl b)) = absurd (b.0.0 a.0)
  both file o p (inl a) (inr (inr s)) = absurd (version_is_not_sealed file a.0 (s.0, s.1))
  both file o p (inr (inl a)) (inl b) = absurd (a.0.0 b.0)
  both file o p (inr (inl a)) (inr (inl b)) = a.1 ∙ sym b.1
  both file o p (inr (inl a)) (inr (inr s)) = absurd (a.0.1 (s.0, s.1))
  both file o p (inr (inr s)) (inl b) = absurd (version_is_not_sealed file b.0 (s.0, s.1))
  both file o p (inr (inr s)) (inr (inl b)) = absurd (b.0.1 (s.0, s.1))
  both file o p (inr (inr s)) (inr (inr u)) =
      let same : s.0 ≡ u.0 = spelling_injective s.0 u.0 s.1.well_formed u.1.well_formed (sym s.1.spelled ∙ u.1.spelled) in
      let P : Index → Type 0 = λ i. Judges i o in
      judged_one u.0 o p (subst P same s.2) u.2

  no_file : (o : Origin) → IsOrigin fits ⊥ key t None o → o ≡ Built Missing
  no_file Loaded h = absurd h
  no_file (Built Missing) h = refl
  no_file (Built Unreadable) h = absurd h
  no_file (Built OtherVersion) h = absurd h
  no_file (Built Damaged) h = absurd h
  no_file (Built OtherKey) h = absurd h
  no_file (Built (Outdated path)) h = absurd h

  pub one_origin : (file : Option (List ℕ)) (o p : Origin) → IsOrigin fits ⊥ key t file o → IsOrigin fits ⊥ key t file p → o ≡ p
  one_origin None o p h k = no_file o h ∙ sym (no_file p k)
  one_origin (Some file) o p h k = both file o p (judged file o h) (judged file p k)
