-- How far a walk comes past questions and imports.
use Rattle.std.proofs.Common.{◌≡◌, ℕ, Bool, true, false, List, [], ◌∷◌, ◌++◌, Option, Some, None, refl, sym, ap, ◌∙◌, append_assoc}
use Rattle.std.specs.Option.{option_map}
use Rattle.cm_outside.specs.Asks.{Asks, Done, Ask, Begin, asked, value}
use Rattle.cm_outside.specs.declared.question.Question.{Question}
use Rattle.cm_outside.specs.declared.question.Answer.{Answer}
use Rattle.cm_outside.specs.declared.question.Record.{Record}
use Rattle.build_store.specs.Memo.{Known, Unknown, Busy, Cyclic, Good, Tried, Ended, Stands, past, tried, with_records}
use Rattle.build_store.specs.Needs.{Needs, Ends, Puts, Imports, or_cyclic, then_needs}
use Rattle.build_store.specs.Owners.{puts}
use Rattle.build_store.specs.Parts.{Fragment}
use Rattle.build_store.specs.Walks.{walked}

module _ {A : Type 0} where
  pub records_none : (x : Tried A) → with_records [] x ≡ x
  records_none (Ended a rs) = refl
  records_none (Stands x) = refl

  pub records_both : (rs ss : List Record) (x : Tried A) → with_records rs (with_records ss x) ≡ with_records (rs ++ ss) x
  records_both rs ss (Ended a more) = ap (λ all. Ended a all) (sym (append_assoc rs ss more))
  records_both rs ss (Stands x) = refl

-- what is made of where a fold has ended
abbrev pub map_tried : {A C : Type 0} → (A → C) → Tried A → Tried C
map_tried f (Ended a rs) = Ended (f a) rs
map_tried f (Stands x) = Stands x

module _ (known : ℕ → Known Fragment) (t : Question → Answer) where
  -- ---- past the questions of a program

  module _ {A C : Type 0} where
    pub walked_puts : (strict : Bool) (p : Asks C) (k : C → Needs Fragment A)
        → tried known (walked strict (then_needs (puts p) k)) t ≡ with_records (asked p t) (tried known (walked strict (k (value p t))) t)
    walked_puts true (Done x) k = sym (records_none (tried known (walked true (k x)) t))
    walked_puts true (Ask q next) k =
        ap (with_records (record { question = q; answer = t q } ∷ [])) (walked_puts true (next (t q)) k)
        ∙ records_both (record { question = q; answer = t q } ∷ []) (asked (next (t q)) t) (tried known (walked true (k (value (next (t q)) t))) t)
    walked_puts true (Begin m p) k = walked_puts true p k
    walked_puts false (Done x) k = sym (records_none (tried known (walked false (k x)) t))
    walked_puts false (Ask q next) k =
        ap (with_records (record { question = q; answer = t q } ∷ [])) (walked_puts false (next (t q)) k)
        ∙ records_both (record { question = q; answer = t q } ∷ []) (asked (next (t q)) t) (tried known (walked false (k (value (next (t q)) t))) t)
    walked_puts false (Begin m p) k = walked_puts false p k

  -- ---- past an import

  module _ {A : Type 0} (x : ℕ) (next : Option Fragment → Needs Fragment A) where
    pub import_unknown : (strict : Bool) → known x ≡ Unknown → tried known (walked strict (Imports x next)) t ≡ Stands x
    import_unknown true is = ap (λ k. past k x (λ b. tried known (or_cyclic (λ c. walked true (next (Some c))) b) t)) is
    import_unknown false is = ap (λ k. past k x (λ b. tried known (walked false (next b)) t)) is

    pub strict_busy : known x ≡ Busy → tried known (walked true (Imports x next)) t ≡ Ended None []
    strict_busy is = ap (λ k. past k x (λ b. tried known (or_cyclic (λ c. walked true (next (Some c))) b) t)) is

    pub strict_cyclic : known x ≡ Cyclic → tried known (walked true (Imports x next)) t ≡ Ended None []
    strict_cyclic is = ap (λ k. past k x (λ b. tried known (or_cyclic (λ c. walked true (next (Some c))) b) t)) is

    pub told_busy : known x ≡ Busy → tried known (walked false (Imports x next)) t ≡ tried known (walked false (next None)) t
    told_busy is = ap (λ k. past k x (λ b. tried known (walked false (next b)) t)) is

    pub told_cyclic : known x ≡ Cyclic → tried known (walked false (Imports x next)) t ≡ tried known (walked false (next None)) t
    told_cyclic is = ap (λ k. past k x (λ b. tried known (walked false (next b)) t)) is

    pub import_good : (strict : Bool) (b : Fragment) (rs : List Record) → known x ≡ Good b rs
        → tried known (walked strict (Imports x next)) t ≡ with_records rs (tried known (walked strict (next (Some b))) t)
    import_good true b rs is = ap (λ k. past k x (λ b. tried known (or_cyclic (λ c. walked true (next (Some c))) b) t)) is
    import_good false b rs is = ap (λ k. past k x (λ b. tried known (walked false (next b)) t)) is

  -- ---- what is made of the end

  module _ {A C : Type 0} (f : A → C) where
    with_map : (rs : List Record) (x : Tried (Option A)) → with_records rs (map_tried (option_map f) x) ≡ map_tried (option_map f) (with_records rs x)
    with_map rs (Ended a more) = refl
    with_map rs (Stands x) = refl

    past_map : (k : Known Fragment) (x : ℕ) (g : Option Fragment → Tried (Option C)) (h : Option Fragment → Tried (Option A))
        → ((b : Option Fragment) → g b ≡ map_tried (option_map f) (h b)) → past k x g ≡ map_tried (option_map f) (past k x h)
    past_map Unknown x g h same = refl
    past_map Busy x g h same = same None
    past_map Cyclic x g h same = same None
    past_map (Good b rs) x g h same = ap (with_records rs) (same (Some b)) ∙ with_map rs (h (Some b))

    -- a strict fold
    pub strictly_then : (n : Needs Fragment A) → tried known (walked true (then_needs n (λ a. Ends (f a)))) t ≡ map_tried (option_map f) (tried known (walked true n) t)
    strictly_then (Ends a) = refl
    strictly_then (Puts q next) =
        ap (with_records (record { question = q; answer = t q } ∷ [])) (strictly_then (next (t q)))
        ∙ with_map (record { question = q; answer = t q } ∷ []) (tried known (walked true (next (t q))) t)
    strictly_then (Imports x next) =
        past_map (known x) x (λ b. tried known (or_cyclic (λ c. walked true (then_needs (next (Some c)) (λ a. Ends (f a)))) b) t)
        (λ b. tried known (or_cyclic (λ c. walked true (next (Some c))) b) t) (after_import next (λ c. strictly_then (next (Some c))))
      where
        after_import : (next : Option Fragment → Needs Fragment A)
            → ((c : Fragment) → tried known (walked true (then_needs (next (Some c)) (λ a. Ends (f a)))) t ≡ map_tried (option_map f) (tried known (walked true (next (Some c))) t))
            → (b : Option Fragment)
            → tried known (or_cyclic (λ c. walked true (then_needs (next (Some c)) (λ a. Ends (f a)))) b) t ≡ map_tried (option_map f) (tried known (or_cyclic (λ c. walked true (next (Some c))) b) t)
        after_import next more None = refl
        after_import next more (Some c) = more c

  module _ {A C D : Type 0} (f : A → C) (g : C → D) where
    told_with : (rs : List Record) (x : Tried C) → with_records rs (map_tried g x) ≡ map_tried g (with_records rs x)
    told_with rs (Ended a more) = refl
    told_with rs (Stands x) = refl

    told_past : (k : Known Fragment) (x : ℕ) (u : Option Fragment → Tried D) (v : Option Fragment → Tried C)
        → ((b : Option Fragment) → u b ≡ map_tried g (v b)) → past k x u ≡ map_tried g (past k x v)
    told_past Unknown x u v same = refl
    told_past Busy x u v same = same None
    told_past Cyclic x u v same = same None
    told_past (Good b rs) x u v same = ap (with_records rs) (same (Some b)) ∙ told_with rs (v (Some b))

    -- a fold that goes on
    pub then_then : (n : Needs Fragment A) → tried known (then_needs n (λ a. Ends (g (f a)))) t ≡ map_tried g (tried known (then_needs n (λ a. Ends (f a))) t)
    then_then (Ends a) = refl
    then_then (Puts q next) =
        ap (with_records (record { question = q; answer = t q } ∷ [])) (then_then (next (t q)))
        ∙ told_with (record { question = q; answer = t q } ∷ []) (tried known (then_needs (next (t q)) (λ a. Ends (f a))) t)
    then_then (Imports x next) =
        told_past (known x) x (λ b. tried known (then_needs (next b) (λ a. Ends (g (f a)))) t) (λ b. tried known (then_needs (next b) (λ a. Ends (f a))) t) (λ b. then_then (next b))
