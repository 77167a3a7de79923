-- The directive that is meant is the first in the order.
use Rattle.std.proofs.Common.{◌≡◌, nat_eq, nat_lt, Bool, true, false, cond, ◌&&◌, ◌||◌, List, [], ◌∷◌, filter, find, Option, Some, None, refl, sym, ap, ◌∙◌, arith}
use Rattle.std.specs.List.{list_any, list_all}
use Rattle.std.specs.Option.{option_map_or}
use Rattle.std.proofs.lemmas.Bool.Decides.{nat_tests}
use Rattle.std.proofs.lemmas.Cmp.{nat_eq_equiv}
use Rattle.cm_core.specs.Views.{same_owner}
use Rattle.cm_core.specs.declared.macros.MacroNode.{MacroNode}
use Rattle.cm_core.specs.declared.numbers.MacroRef.{MacroRef}
use Rattle.cm_core.specs.declared.numbers.Owner.{Owner}
use Rattle.macro_sets.specs.declared.meanings.Meaning.TheVariants as outcome
use Rattle.macro_sets.specs.ActiveMacros.{differ, is_active_define, meaning_from, meaning_of}
use Rattle.macro_sets.specs.Order.{differing, goes_before, has_place, is_first, is_in_order, meant_first, owner_before, same_ref}
use Rattle.macro_sets.proofs.KeptLemmas.{same_owner-refl}
use Rattle.macro_sets.proofs.LawLemmas.{filter-alike, or-true}
use Rattle.macro_sets.proofs.MeaningLemmas.{differ-self, filter-found}
use Rattle.macro_sets.proofs.NameLemmas.{list_all-filter, list_all-weaker}

in_order-filter : (own : Owner) (p : MacroNode → Bool) (nodes : List MacroNode) → is_in_order own nodes ≡ true → is_in_order own (filter p nodes) ≡ true
in_order-filter own p [] h = refl
in_order-filter own p (x ∷ xs) h =
    by (has_place own x.at.owner) (list_all (λ later. goes_before own x.at later.at) xs) (p x) refl refl h (in_order-filter own p xs)
  where
    by : (a b c : Bool) → has_place own x.at.owner ≡ a → list_all (λ later. goes_before own x.at later.at) xs ≡ b → (a && b && is_in_order own xs) ≡ true
        → (is_in_order own xs ≡ true → is_in_order own (filter p xs) ≡ true) → is_in_order own (cond c (x ∷ filter p xs) (filter p xs)) ≡ true
    by true true true e d g f =
        ap (λ b. b && list_all (λ later. goes_before own x.at later.at) (filter p xs) && is_in_order own (filter p xs)) e
        ∙ ap (λ b. b && is_in_order own (filter p xs)) (list_all-filter p (λ later. goes_before own x.at later.at) xs d) ∙ f g
    by true true false e d g f = f g
    by true false c e d g f = absurd (cc)
    by false b c e d g f = absurd (cc)

order-later : (a b c : Bool) → (a && b && c) ≡ true → b ≡ true
order-later true true c h = refl
order-later true false c h = absurd (cc)
order-later false b c h = absurd (cc)

same_ref-refl : (at : MacroRef) → same_ref at at ≡ true
same_ref-refl at = ap (λ b. b && nat_eq at.no.number at.no.number) (same_owner-refl at.owner) ∙ nat_eq_equiv.refl at.no.number

head-first : (own : Owner) (first : MacroNode) (others : List MacroNode) → is_in_order own (first ∷ others) ≡ true → is_first own first.at (first ∷ others) ≡ true
head-first own first others h =
    ap (λ b. (b || goes_before own first.at first.at) && is_first own first.at others) (same_ref-refl first.at)
    ∙ list_all-weaker (λ node. goes_before own first.at node.at) (λ node. same_ref first.at node.at || goes_before own first.at node.at)
    (λ node e. ap (λ b. same_ref first.at node.at || b) e ∙ or-true (same_ref first.at node.at)) others
    (order-later (has_place own first.at.owner) (list_all (λ later. goes_before own first.at later.at) others) (is_in_order own others) h)

head-meant : (first : MacroNode) (others : List MacroNode) → meant_first (meaning_from (first ∷ others)) ≡ Some first.at
head-meant first others = by (find (differ first) others)
  where
    by : (o : Option MacroNode) → meant_first (option_map_or (λ other. outcome.Ambiguous first.at other.at) o (outcome.Macro first.at)) ≡ Some first.at
    by None = refl
    by (Some other) = refl

pub meant-first : (own : Owner) (seen : Owner → Bool) (nodes : List MacroNode) (at : MacroRef) → is_in_order own nodes ≡ true → meant_first (meaning_of seen nodes) ≡ Some at
    → is_first own at (filter (is_active_define seen nodes) nodes) ≡ true
meant-first own seen nodes at order meant = by (filter (is_active_define seen nodes) nodes) (in_order-filter own (is_active_define seen nodes) nodes order) meant
  where
    by : (defines : List MacroNode) → is_in_order own defines ≡ true → meant_first (meaning_from defines) ≡ Some at → is_first own at defines ≡ true
    by [] h m = refl
    by (first ∷ others) h m =
        let here : Some first.at ≡ Some at = sym (head-meant first others) ∙ m in
        let same : first.at ≡ at = cc in
        ap (λ a. is_first own a (first ∷ others)) (sym same) ∙ head-first own first others h

-- ---- the other one of an ambiguous name

same_ref-before : (own : Owner) (a b : MacroRef) → goes_before own a b ≡ true → same_ref a b ≡ false
same_ref-before own a b h = by (same_owner a.owner b.owner) h
  where
    apart : nat_lt a.no.number b.no.number ≡ true → nat_eq a.no.number b.no.number ≡ false
    apart e = grind (arith, nat_tests)

    by : (s : Bool) → cond s (nat_lt a.no.number b.no.number) (owner_before own a.owner b.owner) ≡ true → (s && nat_eq a.no.number b.no.number) ≡ false
    by true g = apart g
    by false g = refl

no-other : (own : Owner) (first node : MacroNode) (others : List MacroNode) → list_all (λ later. goes_before own first.at later.at) others ≡ true
    → list_any (λ one. same_ref first.at one.at && differ one node) others ≡ false
no-other own first node [] h = refl
no-other own first node (x ∷ xs) h = by (goes_before own first.at x.at) refl h (no-other own first node xs)
  where
    by : (b : Bool) → goes_before own first.at x.at ≡ b → (b && list_all (λ later. goes_before own first.at later.at) xs) ≡ true
        → (list_all (λ later. goes_before own first.at later.at) xs ≡ true → list_any (λ one. same_ref first.at one.at && differ one node) xs ≡ false)
        → ((same_ref first.at x.at && differ x node) || list_any (λ one. same_ref first.at one.at && differ one node) xs) ≡ false
    by true e g f = ap (λ b. (b && differ x node) || list_any (λ one. same_ref first.at one.at && differ one node) xs) (same_ref-before own first.at x.at e) ∙ f g
    by false e g f = absurd (cc)

differing-first : (own : Owner) (first : MacroNode) (others : List MacroNode) → is_in_order own (first ∷ others) ≡ true → differing first.at (first ∷ others) ≡ filter (differ first) others
differing-first own first others h =
    filter-alike (λ node. list_any (λ one. same_ref first.at one.at && differ one node) (first ∷ others)) (differ first) alike (first ∷ others)
    ∙ ap (λ b. cond b (first ∷ filter (differ first) others) (filter (differ first) others)) (differ-self first)
  where
    or-false : (b : Bool) → (b || false) ≡ b
    or-false true = refl
    or-false false = refl

    later : list_all (λ later. goes_before own first.at later.at) others ≡ true
    later = order-later (has_place own first.at.owner) (list_all (λ later. goes_before own first.at later.at) others) (is_in_order own others) h

    alike : (node : MacroNode) → list_any (λ one. same_ref first.at one.at && differ one node) (first ∷ others) ≡ differ first node
    alike node =
        ap (λ b. (b && differ first node) || list_any (λ one. same_ref first.at one.at && differ one node) others) (same_ref-refl first.at)
        ∙ ap (λ b. differ first node || b) (no-other own first node others later)
        ∙ or-false (differ first node)

order-rest : (a b c : Bool) → (a && b && c) ≡ true → c ≡ true
order-rest true true c h = h
order-rest true false c h = absurd (cc)
order-rest false b c h = absurd (cc)

pub other-first : (own : Owner) (seen : Owner → Bool) (nodes : List MacroNode) (at other : MacroRef) → is_in_order own nodes ≡ true → meaning_of seen nodes ≡ outcome.Ambiguous at other
    → is_first own other (differing at (filter (is_active_define seen nodes) nodes)) ≡ true
other-first own seen nodes at other order meant = by (filter (is_active_define seen nodes) nodes) (in_order-filter own (is_active_define seen nodes) nodes order) meant
  where
    by : (defines : List MacroNode) → is_in_order own defines ≡ true → meaning_from defines ≡ outcome.Ambiguous at other → is_first own other (differing at defines) ≡ true
    by [] h m = refl
    by (first ∷ others) h m = found (find (differ first) others) refl m
      where
        rest : is_in_order own (filter (differ first) others) ≡ true
        rest = in_order-filter own (differ first) others (order-rest (has_place own first.at.owner) (list_all (λ later. goes_before own first.at later.at) others) (is_in_order own others) h)

        found : (o : Option MacroNode) → find (differ first) others ≡ o → option_map_or (λ node. outcome.Ambiguous first.at node.at) o (outcome.Macro first.at) ≡ outcome.Ambiguous at other
            → is_first own other (differing at (first ∷ others)) ≡ true
        found None e g = absurd (cc)
        found (Some node) e g =
            let one : first.at ≡ at = cc in
            let two : node.at ≡ other = cc in
            let list = filter-found (differ first) others node e in
            ap (λ a. is_first own other (differing a (first ∷ others))) (sym one)
            ∙ ap (is_first own other) (differing-first own first others h ∙ list.1)
            ∙ ap (λ a. is_first own a (node ∷ list.0)) (sym two)
            ∙ head-first own node list.0 (sym (ap (is_in_order own) list.1) ∙ rest)
