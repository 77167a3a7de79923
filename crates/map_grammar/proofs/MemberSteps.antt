-- A member of a module, by the word that it begins with.
use Rattle.std.proofs.Common.{◌≡◌, ℕ, zero, suc, ◌-◌, ◌<◌, true, false, List, refl, arith}
use Rattle.map_grammar.specs.declared.word.Word.{Word}
use Rattle.map_grammar.specs.MapReaders.{member, begins_module, submodule, simple_member}

pub member_module : (n : ℕ) (ts : List Word) → 0 < n → begins_module ts ≡ true → member n ts ≡ submodule (member (n - 1)) ts
unfolding member
member_module zero ts h e = absurd (omega arith)
member_module (suc n) ts h e = let less : suc n - 1 ≡ n = omega arith in rw less (rw e refl)

pub member_simple : (n : ℕ) (ts : List Word) → 0 < n → begins_module ts ≡ false → member n ts ≡ simple_member ts
unfolding member
member_simple zero ts h e = absurd (omega arith)
member_simple (suc n) ts h e = rw e refl
