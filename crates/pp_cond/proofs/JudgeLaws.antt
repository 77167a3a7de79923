-- What the readers judge of a whole condition is the truth of its one expression.
use Rattle.std.proofs.Common.{◌≡◌, Bool, refl, sym, ◌∙◌, ap, subst, List, [], ◌∷◌, Option, Some, None}
use Rattle.std.specs.Option.{option_map, option_and_then}
use Rattle.pp_cond.specs.declared.outcome.Outcome.{Outcome}
use Rattle.pp_cond.specs.declared.symbol.Symbol.{Symbol}
use Rattle.pp_cond.specs.Outcomes.{value_of, is_nonzero}
use Rattle.pp_cond.specs.Grammar.{nesting_limit}
use Rattle.pp_cond.specs.Readers.{outcomes, truth_at_end, judged, read_conditional, read_expression}
use Rattle.pp_cond.specs.Conditions.{HasTruth, HasNoTruth}
use Rattle.pp_cond.proofs.GrammarLaws.{and_then_some, has_tree, one_meaning, one_tree, made_outcome}

ended : (v : Outcome) (ts : List Symbol) (b : Bool) → truth_at_end v ts ≡ Some b → (ts ≡ []) × (option_map is_nonzero (value_of v) ≡ Some b)
ended v [] b h = (refl, h)
ended v (s ∷ ts) b h = absurd (cc)

pub judged_some : (ts : List Symbol) (b : Bool) → judged ts ≡ Some b → HasTruth ts b
unfolding judged
judged_some ts b h =
    let q = and_then_some (read_conditional outcomes (read_expression outcomes nesting_limit) ts) (λ (r : Outcome × List Symbol). truth_at_end r.0 r.1) b h in
    let e = ended q.0.0 q.0.1 b q.2 in
    let read : read_conditional outcomes (read_expression outcomes nesting_limit) ts ≡ Some (q.0.0, []) = q.1 ∙ ap (λ (us : List Symbol). Some (q.0.0, us)) e.0 in
    let t = has_tree outcomes nesting_limit ts q.0.0 read in
    record {
      tree = t.0;
      spelled = t.1;
      one = λ f d. one_tree nesting_limit f t.0 ts d t.1;
      truth = ap (λ v. option_map is_nonzero (value_of v)) (sym (made_outcome t.0) ∙ t.2) ∙ e.1;
    }

pub judged_none : (ts : List Symbol) → judged ts ≡ None → HasNoTruth ts
unfolding judged
judged_none ts h e d =
    let read = one_meaning outcomes nesting_limit e ts d in
    let P : Option (Outcome × List Symbol) → Type 0 = λ o. option_and_then (λ r. truth_at_end r.0 r.1) o ≡ None in
    ap (λ v. option_map is_nonzero (value_of v)) (sym (made_outcome e)) ∙ subst P read h

pub judged_read : (ts : List Symbol) (v : Outcome) (us : List Symbol) → read_conditional outcomes (read_expression outcomes 256) ts ≡ Some (v, us) → judged ts ≡ truth_at_end v us
unfolding judged nesting_limit
judged_read ts v us h = rw h refl

pub judged_unread : (ts : List Symbol) → read_conditional outcomes (read_expression outcomes 256) ts ≡ None → judged ts ≡ None
unfolding judged nesting_limit
judged_unread ts h = rw h refl

pub has_truth : (ts : List Symbol) (b : Bool) → Some b ≡ judged ts → HasTruth ts b
has_truth ts b h = judged_some ts b (sym h)

pub has_no_truth : (ts : List Symbol) → None ≡ judged ts → HasNoTruth ts
has_no_truth ts h = judged_none ts (sym h)
