-- The parts of a file that were read, and what an honest cache says of them.
use Rattle.std.proofs.Common.{◌≡◌, ℕ, ◌+◌, Ok, List, ◌++◌, length, take, drop, sym, ap, subst, ◌∙◌, arith, length-append, length-drop}
use Rattle.std.proofs.Math.Seq.{take-length, take-append_seam, drop-append_seam}
use Rattle.std.proofs.lemmas.List.{take-append-drop}
use Rattle.cm_outside.specs.Caches.{HasParts}
use Rattle.module_file.specs.Head.{checked}
use Rattle.module_file.specs.ModuleFile.{spelling, index_len_of}
use Rattle.build_store.specs.Origins.{IsSealed}
use Rattle.build_store.specs.Kept.{IsDecoded, IsOpened}
use Rattle.module_file.specs.declared.index.Key.{Key}
use Rattle.build_store.specs.declared.kept.Opened.{Opened}
use Rattle.build_store.specs.declared.kept.Opened.TheVariants.{Sealed, Not}

-- a head and an index that fills the rest are the parts of one file
parts_of_whole : (size len : ℕ) (head index : List ℕ) → length head ≡ 56 → length index ≡ len → size ≡ 56 + len → HasParts size 56 len head index (head ++ index)
parts_of_whole size len head index has_head has_index has_size = record {
  has_size = length-append head index ∙ ap (λ n. n + length index) has_head ∙ ap (λ n. 56 + n) has_index ∙ sym has_size;
  has_front = ap (λ n. take n (head ++ index)) (sym has_head) ∙ take-append_seam head index;
  has_rest = ap (λ n. take len (drop n (head ++ index))) (sym has_head) ∙ ap (take len) (drop-append_seam head index) ∙ ap (λ n. take n index) (sym has_index) ∙ take-length index;
}

whole_of_parts : (size len : ℕ) (head index file : List ℕ) → size ≡ 56 + len → HasParts size 56 len head index file → file ≡ head ++ index
whole_of_parts size len head index file has_size parts =
    let rest_len : length (drop 56 file) ≡ len = omega (arith, length-drop 56 file, parts.has_size) in
    let rest : drop 56 file ≡ index = sym (take-length (drop 56 file)) ∙ ap (λ n. take n (drop 56 file)) rest_len ∙ parts.has_rest in
    sym (take-append-drop 56 file) ∙ ap (λ front. front ++ drop 56 file) parts.has_front ∙ ap (λ back. head ++ back) rest

-- what an honest cache gave of a file that is sealed is true
pub opened_is : (is_true : List ℕ → Type 0) (key : Key) (size len : ℕ) (head index : List ℕ) (honest : Type 0) → length head ≡ 56 → length index ≡ len → size ≡ 56 + len
    → (honest → (file : List ℕ) → HasParts size 56 len head index file → IsSealed file → (truth : List ℕ) × HasParts size 56 len head index truth × is_true truth)
    → (o : Opened) → IsDecoded key (head ++ index) o → IsOpened is_true key honest o
opened_is is_true key size len head index honest has_head has_index has_size gives (Not reason) is = tt
opened_is is_true key size len head index honest has_head has_index has_size gives (Sealed i) is = (is.0, is.1, truth)
  where
    truth : honest → is_true (spelling i)
    truth h =
        let given = gives h (head ++ index) (parts_of_whole size len head index has_head has_index has_size) (i, record { well_formed = is.0; spelled = is.2 }) in
        let P : List ℕ → Type 0 = is_true in subst P (whole_of_parts size len head index given.0 has_size given.1 ∙ is.2) given.2

-- a head that passes its checks has 56 bytes and fits the size
pub index_len_fits : (head : List ℕ) (size len : ℕ) → index_len_of head size ≡ Ok len → (length head ≡ 56) × (size ≡ 56 + len)
index_len_fits head size len is = let h = checked head size len is in (h.whole, sym h.sum)
