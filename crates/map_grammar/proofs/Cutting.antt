-- Declarations of the cuts of words, one after another.
use Rattle.std.proofs.Common.{◌≡◌, ℕ, zero, suc, ◌<◌, ◌≤◌, refl, sym, subst, List, [], ◌∷◌, ◌++◌, length, take, drop, append_assoc, append-nil, arith, length-drop}
use Rattle.cm_core.specs.declared.numbers.Place.{Place}
use Rattle.map_grammar.specs.declared.word.Word.{Word}
use Rattle.map_grammar.specs.declared.declaration.MapDecl.{MapDecl}
use Rattle.map_grammar.specs.declared.fault.MapFault.{MapFault}
use Rattle.map_grammar.specs.declared.fault.MapFault.TheVariants.{Lex, TooDeep, NotInGrammar, NoMemory}
use Rattle.map_grammar.specs.Grammar.{IsDeclaration}
use Rattle.map_grammar.specs.MapText.{declaration_length, cuts_in, cuts, AreDeclarations, no_more, one_more, IsFirstStray, here, later, IsNoDeclaration}
use Rattle.map_grammar.specs.Faults.{IsStray, IsStrayAt, AreStray}

-- the declarations of the words before `rest` are `found`
pub record Cutting (words : List Word) (found : List MapDecl) (rest : List Word) : Type 0 where
  pub fuel : ℕ
  pub enough : length rest ≤ fuel
  pub all : (ds : List MapDecl) → AreDeclarations ds (cuts_in fuel rest) → AreDeclarations (found ++ ds) (cuts words)
  pub stray : (p : Place) → IsFirstStray p (cuts_in fuel rest) → IsFirstStray p (cuts words)

pub cut_start : (words : List Word) → Cutting words [] words
unfolding cuts
cut_start words = record { fuel = length words; enough = omega arith; all = λ ds h. h; stray = λ p h. h }

-- with one cut more
next_cut : (words : List Word) (found : List MapDecl) (w : Word) (ws : List Word) (c : Cutting words found (w ∷ ws))
    → (m : ℕ) × (length (w ∷ ws) ≤ suc m)
    × ((ds : List MapDecl) → AreDeclarations ds (take (declaration_length (w ∷ ws)) (w ∷ ws) ∷ cuts_in m (drop (declaration_length (w ∷ ws)) (w ∷ ws))) → AreDeclarations (found ++ ds) (cuts words))
    × ((p : Place) → IsFirstStray p (take (declaration_length (w ∷ ws)) (w ∷ ws) ∷ cuts_in m (drop (declaration_length (w ∷ ws)) (w ∷ ws))) → IsFirstStray p (cuts words))
unfolding cuts_in
next_cut words found w ws c = by c.fuel c.enough c.all c.stray
  where
    by : (n : ℕ) → length (w ∷ ws) ≤ n
        → ((ds : List MapDecl) → AreDeclarations ds (cuts_in n (w ∷ ws)) → AreDeclarations (found ++ ds) (cuts words))
        → ((p : Place) → IsFirstStray p (cuts_in n (w ∷ ws)) → IsFirstStray p (cuts words))
        → (m : ℕ) × (length (w ∷ ws) ≤ suc m)
        × ((ds : List MapDecl) → AreDeclarations ds (take (declaration_length (w ∷ ws)) (w ∷ ws) ∷ cuts_in m (drop (declaration_length (w ∷ ws)) (w ∷ ws))) → AreDeclarations (found ++ ds) (cuts words))
        × ((p : Place) → IsFirstStray p (take (declaration_length (w ∷ ws)) (w ∷ ws) ∷ cuts_in m (drop (declaration_length (w ∷ ws)) (w ∷ ws))) → IsFirstStray p (cuts words))
    by zero enough all stray = absurd (omega arith)
    by (suc m) enough all stray = (m, enough, all, stray)

pub cut_next : (words : List Word) (found : List MapDecl) (rest : List Word) (d : MapDecl) → Cutting words found rest → 0 < length rest → 0 < declaration_length rest → IsDeclaration d (take (declaration_length rest) rest)
    → Cutting words (found ++ d ∷ []) (drop (declaration_length rest) rest)
cut_next words found [] d c some first h = absurd (omega arith)
cut_next words found (w ∷ ws) d c some first h =
    let n = next_cut words found w ws c in
    record {
      fuel = n.0;
      enough = omega (arith, length-drop (declaration_length (w ∷ ws)) (w ∷ ws), n.1);
      all = λ ds a.
          let r = n.2 (d ∷ ds) (one_more d ds _ _ h a) in
          subst (λ (xs : List MapDecl). AreDeclarations xs (cuts words)) (sym (append_assoc found (d ∷ []) ds)) r;
      stray = λ p s. n.3 p (later p d _ _ h s);
    }

pub cut_ends : (words : List Word) (found : List MapDecl) (rest : List Word) → Cutting words found rest → length rest ≤ 0 → AreDeclarations found (cuts words)
unfolding cuts_in
cut_ends words found [] c none =
    let r = c.all [] (by c.fuel) in
    subst (λ (xs : List MapDecl). AreDeclarations xs (cuts words)) (append-nil found) r
  where
    by : (n : ℕ) → AreDeclarations [] (cuts_in n [])
    by zero = no_more
    by (suc n) = no_more
cut_ends words found (w ∷ ws) c none = absurd (omega arith)

stray_here : (p : Place) (cut : List Word) (others : List (List Word)) → IsStrayAt p cut → IsFirstStray p (cut ∷ others)
stray_here p [] others h = absurd h
stray_here p (w ∷ ws) others h = subst (λ (q : Place). IsFirstStray q ((w ∷ ws) ∷ others)) (sym h.0) (here w ws others h.1)

pub cut_fails : (words : List Word) (found : List MapDecl) (rest : List Word) (fault : MapFault) → Cutting words found rest → 0 < length rest → IsStray (take (declaration_length rest) rest) fault → AreStray (cuts words) fault
cut_fails words found [] fault c some h = absurd (omega arith)
cut_fails words found (w ∷ ws) (NotInGrammar place) c some h = let n = next_cut words found w ws c in n.3 place (stray_here place _ _ h)
cut_fails words found (w ∷ ws) NoMemory c some h = tt
cut_fails words found (w ∷ ws) (TooDeep place) c some h = absurd h
cut_fails words found (w ∷ ws) (Lex fault) c some h = absurd h

pub stray_at : (words : List Word) (p : Place) → 0 < length words → ((w : Word) (ws : List Word) → words ≡ w ∷ ws → p ≡ w.place) → IsNoDeclaration words → IsStrayAt p words
stray_at [] p some place none = omega arith
stray_at (w ∷ ws) p some place none = (place w ws refl, none)
