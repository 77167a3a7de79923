-- A module that is not Cyclic asks the same and begins the same behind every chain.
use Rattle.std.proofs.Common.{◌≡◌, ◌∙◌, refl, sym, ap, subst, ℕ, zero, suc, List, ◌∷◌, ◌++◌, Option, Some, None}
use Rattle.cm_outside.specs.declared.question.Question.{Question}
use Rattle.cm_outside.specs.declared.question.Answer.{Answer}
use Rattle.cm_outside.specs.Asks.{Asks, Done, Begin, value, asked, begun, asked-then_ask, begun-then_ask}
use Rattle.build_store.specs.Needs.{Needs, Ends, Puts, Imports, answered, end_of}
use Rattle.build_store.specs.Modules.{Plan, is_free, left, inside, import_of, import_in, mod_of}
use Rattle.build_store.proofs.ListLemmas.{some≢none, cond_some, cond_true}
use Rattle.build_store.proofs.NeedLemmas.{value-answered, IsStrict, strict_met}
use Rattle.build_store.proofs.Chains.{IsBrought, chained_free}
use Rattle.build_store.proofs.ModuleLemmas.{strict-inside, modules, value-import_of, alone_too}

-- one program asks and begins what another does
pub record IsAlike {A : Type 0} (t : Question → Answer) (n o : Asks A) : Type 0 where
  pub values : value o t ≡ value n t
  pub questions : asked o t ≡ asked n t
  pub begins : begun o t ≡ begun n t

module _ {B : Type 0} where
  strict_next : (next : Option B → Needs B (Option B)) (o : Option B) → IsBrought o → ((b : B) → IsStrict (next (Some b))) → IsStrict (next o)
  strict_next next (Some b) h s = s b
  strict_next next None h s = absurd (some≢none (sym h.1))

  pub answered_alike : (t : Question → Answer) (one other : ℕ → Asks (Option B))
      → ((x : ℕ) → IsBrought (value (one x) t) → IsBrought (value (other x) t) → IsAlike t (one x) (other x))
      → (n : Needs B (Option B)) → IsStrict n → IsBrought (end_of n t (λ x. value (one x) t)) → IsBrought (end_of n t (λ x. value (other x) t))
      → (asked (answered other n) t ≡ asked (answered one n) t) × (begun (answered other n) t ≡ begun (answered one n) t)
  answered_alike t one other each (Ends a) s e h = (refl, refl)
  answered_alike t one other each (Puts q next) s e h =
      let rest = answered_alike t one other each (next (t q)) (s (t q)) e h in
      (ap (λ rs. record { question = q; answer = t q } ∷ rs) rest.0, rest.1)
  answered_alike t one other each (Imports x next) s e h =
      let here = (strict_met (Imports x next) s t (λ y. value (one y) t) e).0 in
      let there = (strict_met (Imports x next) s t (λ y. value (other y) t) h).0 in
      let same = each x here there in
      let P : Option B → Type 0 = λ o. IsBrought (end_of (next o) t (λ y. value (other y) t)) in
      let rest = answered_alike t one other each (next (value (one x) t)) (strict_next next (value (one x) t) here s.1) e (subst P same.values h) in (
        asked-then_ask (other x) (λ b. answered other (next b)) t
            ∙ (λ i. same.questions i ++ asked (answered other (next (same.values i))) t)
            ∙ ap (λ rs. asked (one x) t ++ rs) rest.0
            ∙ sym (asked-then_ask (one x) (λ b. answered one (next b)) t),
        begun-then_ask (other x) (λ b. answered other (next b)) t
            ∙ (λ i. same.begins i ++ begun (answered other (next (same.values i))) t)
            ∙ ap (λ ms. begun (one x) t ++ ms) rest.1
            ∙ sym (begun-then_ask (one x) (λ b. answered one (next b)) t),
      )

module _ {B : Type 0} (p : Plan B) (t : Question → Answer) where
  abbrev opened : ℕ → List ℕ → ℕ → Asks (Option B)
  opened k chain x = Begin (p.top x) (answered (λ y. import_of p k (p.top x ∷ chain) y) (inside p (p.top x)))

  opens : (k : ℕ) (chain : List ℕ) (x : ℕ) → IsBrought (value (import_of p (suc k) chain x) t) → import_of p (suc k) chain x ≡ opened k chain x
  unfolding import_of
  opens k chain x h =
      let parts = cond_some (is_free p.tops chain (p.top x)) _ h.0 (sym (value-import_of p t (suc k) chain x) ∙ h.1) in
      cond_true (is_free p.tops chain (p.top x)) (opened k chain x) (Done None) parts.0

  -- what brings something behind two chains brings the same
  same_brought : (k j : ℕ) (chain other : List ℕ) (x : ℕ) → IsBrought (value (import_of p k chain x) t) → IsBrought (value (import_of p j other x) t)
      → value (import_of p j other x) t ≡ value (import_of p k chain x) t
  same_brought k j chain other x e h =
      let one = chained_free (modules p t) k chain (p.top x) e.0 (sym (value-import_of p t k chain x) ∙ e.1) in
      let two = chained_free (modules p t) j other (p.top x) h.0 (sym (value-import_of p t j other x) ∙ h.1) in
      h.1 ∙ sym two ∙ one ∙ sym e.1

  imports_alike : (k j : ℕ) (chain other : List ℕ) (x : ℕ) → IsBrought (value (import_of p k chain x) t) → IsBrought (value (import_of p j other x) t)
      → IsAlike t (import_of p k chain x) (import_of p j other x)
  imports_alike zero j chain other x e h = absurd (some≢none (sym e.1 ∙ value-import_of p t zero chain x))
  imports_alike (suc k) zero chain other x e h = absurd (some≢none (sym h.1 ∙ value-import_of p t zero other x))
  imports_alike (suc k) (suc j) chain other x e h =
      let m = p.top x in
      let one = opens k chain x e in
      let two = opens j other x h in
      let P : Asks (Option B) → Type 0 = λ n. IsBrought (value n t) in
      let Q : Option B → Type 0 = λ o. IsBrought o in
      let inner = answered_alike t (λ y. import_of p k (m ∷ chain) y) (λ y. import_of p j (m ∷ other) y) (λ y r s. imports_alike k j (m ∷ chain) (m ∷ other) y r s)
      (inside p m) (strict-inside p m)
      (subst Q (value-answered (λ y. import_of p k (m ∷ chain) y) (inside p m) t) (subst P one e))
      (subst Q (value-answered (λ y. import_of p j (m ∷ other) y) (inside p m) t) (subst P two h)) in
      record {
        values = same_brought (suc k) (suc j) chain other x e h;
        questions = ap (λ n. asked n t) two ∙ inner.0 ∙ sym (ap (λ n. asked n t) one);
        begins = ap (λ n. begun n t) two ∙ ap (λ ms. m ∷ ms) inner.1 ∙ sym (ap (λ n. begun n t) one);
      }

  -- A module that is not Cyclic behind two chains is alike behind both.
  pub modules_alike : (chain other : List ℕ) (m : ℕ) (b c : B) → value (mod_of p chain m) t ≡ Some b → value (mod_of p other m) t ≡ Some c
      → IsAlike t (mod_of p chain m) (mod_of p other m)
  unfolding mod_of import_in
  modules_alike chain other m b c e h =
      let k = left p.tops (m ∷ chain) in
      let j = left p.tops (m ∷ other) in
      let inner = answered_alike t (λ y. import_of p k (m ∷ chain) y) (λ y. import_of p j (m ∷ other) y) (λ y r s. imports_alike k j (m ∷ chain) (m ∷ other) y r s)
      (inside p m) (strict-inside p m)
      (b, sym (value-answered (λ y. import_of p k (m ∷ chain) y) (inside p m) t) ∙ e)
      (c, sym (value-answered (λ y. import_of p j (m ∷ other) y) (inside p m) t) ∙ h) in
      record { values = h ∙ sym (alone_too p t other m c h) ∙ alone_too p t chain m b e ∙ sym e; questions = inner.0; begins = ap (λ ms. m ∷ ms) inner.1 }
