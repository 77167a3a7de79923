-- Each list has a place for each module of the table, and the names are those of its index.
use Rattle.std.proofs.Common.{◌≡◌, ◌∙◌, ℕ, List, ap, length, replicate}
use Rattle.std.proofs.lemmas.List.{length-replicate}
use Rattle.build_store.proofs.held.Held.new.Goals as goal

places : {X : Type 0} (xs : List X) (x : X) (size n : ℕ) → xs ≡ replicate size x → size ≡ n → length xs ≡ n
places xs x size n are is = ap length are ∙ length-replicate size x ∙ is

pub returns-clause-places : goal.returns-clause-places
returns-clause-places c = record {
  names = c.in_ok-names.ensures;
  library = c.in_ok-library.ensures.of;
  slots = places _ _ _ _ c.in_ok-slots.ensures c.len-size.ensures;
  found = places _ _ _ _ c.in_ok-found.ensures c.len-size.ensures;
  choices = places _ _ _ _ c.in_ok-choices.ensures c.len-size.ensures;
  unended = λ m ended. c.in_ok-library.ensures.nothing m;
}
