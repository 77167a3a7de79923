-- What the bytes of an index and of a module file say.
use Rattle.std.proofs.Common.{◌≡◌, ℕ, ◌<◌, ◌^◌, Bool, true, false, ◌==◌, cond, List, [], ◌++◌, length, take, Option, Some, None, Result, Ok, Err, refl, sym, ap, subst, ◌∙◌, arith}
use Rattle.std.specs.Prelude.{IfOk, MatchResult}
use Rattle.std.proofs.lemmas.Bool.Decides.{Decides-eqb}
use Rattle.cm_wire.specs.Unread.{Unread, AreBytes}
use Rattle.module_file.specs.declared.index.Index.{Index}
use Rattle.module_file.specs.declared.fault.FileFault.{FileFault}
use Rattle.module_file.specs.declared.fault.FileFault.TheVariants.{OtherVersion, Damaged, NoMemory}
use Rattle.module_file.specs.declared.contents.Contents.{Contents}
use Rattle.module_file.specs.ModuleFile.{rows_from, spell_index, spelling, file_around, HasParts, IsWellFormed, index_len_of}
use Rattle.module_file.specs.Reading.{read_contents, agree, index_in, index_of_read, or_damaged, is_sealed_of, checked_index, file_in, IsFileAnswerOf}
use Rattle.module_file.specs.Forms.{some_is, then_some, if_some}
use Rattle.module_file.specs.Rows.{rows_agree, agree_rows}
use Rattle.module_file.specs.Grammar.{index_again, index_takes}
use Rattle.module_file.specs.Head.{same_index, front_is_none, file_checked, file_passes, length-file}

-- what is read of the bytes of an index
pub record IsKnown (i : Index) (c : Contents) (v : Unread) : Type 0 where
  pub index : c.index ≡ i
  pub rows : c.rows ≡ rows_from 1 c.index.declarations
  pub rest : v.rest ≡ []

pub known : (bytes : List ℕ) (i : Index) (c : Contents) (v : Unread) → HasParts i → bytes ≡ spell_index i → read_contents (record { at = 0; rest = bytes }) ≡ Some (c, v) → IsKnown i c v
known bytes i c v parts e read =
    let own : Contents × Unread = (record { index = i; rows = rows_from 1 i.declarations }, record { at = length bytes; rest = [] }) in
    let same : (c, v) ≡ own = some_is (c, v) own (sym read ∙ index_again bytes i parts e) in
    let index : c.index ≡ i = ap (λ (y : Contents × Unread). y.0.index) same in
    let rows : c.rows ≡ rows_from 1 i.declarations = ap (λ (y : Contents × Unread). y.0.rows) same in
    record {
      index = index;
      rows = rows ∙ ap (λ (j : Index). rows_from 1 j.declarations) (sym index);
      rest = ap (λ (y : Contents × Unread). y.1.rest) same;
    }

-- ---- the index

read_some : (bytes : List ℕ) (i : Index) → index_in bytes ≡ Some i →
    (x : Contents × Unread) × (read_contents (record { at = 0; rest = bytes }) ≡ Some x) × (length x.1.rest ≡ 0) × (agree 1 x.0.rows x.0.index.declarations ≡ true) × (x.0.index ≡ i)
unfolding index_in
read_some bytes i e =
    let a = then_some (read_contents (record { at = 0; rest = bytes })) index_of_read i e in
    let b = if_else (length a.0.1.rest == 0) (cond (agree 1 a.0.0.rows a.0.0.index.declarations) (Some a.0.0.index) None) i a.2 in
    let d = if_some (agree 1 a.0.0.rows a.0.0.index.declarations) a.0.0.index i b.1 in
    (a.0, a.1, (Decides-eqb (length a.0.1.rest) 0).0 b.0, d.0, d.1)
  where
    if_else : (b : Bool) (o : Option Index) (j : Index) → cond b o None ≡ Some j → (b ≡ true) × (o ≡ Some j)
    if_else true o j e = (refl, e)
    if_else false o j e = absurd cc

-- bytes that say an index are its spelling
pub index_in_takes : (bytes : List ℕ) (i : Index) → AreBytes bytes → index_in bytes ≡ Some i → (bytes ≡ spell_index i) × HasParts i
index_in_takes bytes i fits e =
    let a = read_some bytes i e in
    let t = index_takes bytes a.0.0 a.0.1 fits a.1 a.2 (agree_rows 1 a.0.0.rows a.0.0.index.declarations a.3) in
    let P : Index → Type 0 = λ j. (bytes ≡ spell_index j) × HasParts j in
    subst P a.4 t

-- the spelling of an index says it
pub index_in_again : (bytes : List ℕ) (i : Index) → HasParts i → bytes ≡ spell_index i → index_in bytes ≡ Some i
unfolding index_in
index_in_again bytes i parts e =
    let rows : agree 1 (rows_from 1 i.declarations) i.declarations ≡ true = rows_agree 1 (rows_from 1 i.declarations) i.declarations refl in
    rw (index_again bytes i parts e, rows) refl

-- ---- the file

damaged_not : (o : Option Index) (i : Index) → or_damaged o ≡ Ok i → o ≡ Some i
damaged_not (Some j) i e = cc
damaged_not None i e = absurd cc

-- the steps to an index
record IsRead (size : ℕ) (head index : List ℕ) (i : Index) : Type 0 where
  pub len : index_len_of head size ≡ Ok (length index)
  pub sealed : is_sealed_of head index ≡ true
  pub said : index_in index ≡ Some i

index_read : (head index : List ℕ) (size : ℕ) (r : Result ℕ FileFault) (i : Index) → index_len_of head size ≡ r → checked_index head index r ≡ Ok i → IsRead size head index i
index_read head index size (Err fault) i e f = absurd cc
index_read head index size (Ok len) i e f =
    let a = if_ok (length index == len) (cond (is_sealed_of head index) (or_damaged (index_in index)) (Err Damaged)) i f in
    let b = if_ok (is_sealed_of head index) (or_damaged (index_in index)) i a.1 in
    let same : length index ≡ len = (Decides-eqb (length index) len).0 a.0 in
    record { len = e ∙ ap Ok (sym same); sealed = b.0; said = damaged_not (index_in index) i b.1 }
  where
    if_ok : (b : Bool) (r : Result Index FileFault) (i : Index) → cond b r (Err Damaged) ≡ Ok i → (b ≡ true) × (r ≡ Ok i)
    if_ok true r i e = (refl, e)
    if_ok false r i e = absurd cc

-- what is read is a file
pub record IsFileOf (size : ℕ) (head index : List ℕ) (i : Index) : Type 0 where
  pub bytes : head ++ index ≡ spelling i
  pub sized : size ≡ length (spelling i)
  pub formed : IsWellFormed i

pub file_in_takes : (size : ℕ) (head index : List ℕ) (i : Index) → size < 2 ^ 64 → AreBytes head → AreBytes index → file_in size head index ≡ Ok i → IsFileOf size head index i
unfolding file_in spelling
file_in_takes size head index i small fits_head fits e =
    let r = index_read head index size (index_len_of head size) i refl e in
    let t = index_in_takes index i fits r.said in
    let f = file_checked head index size (length index) fits_head r.len refl r.sealed in
    let whole : head ++ index ≡ file_around (spell_index i) = f.0 ∙ ap file_around t.0 in
    let sized : size ≡ length (file_around (spell_index i)) = f.1 ∙ ap (λ (s : List ℕ). length (file_around s)) t.0 in
    record {
      bytes = whole;
      sized = sized;
      formed = record { parts = t.1; len = omega (arith, sized, length-file (spell_index i), small) };
    }

pub file_in_again : (size : ℕ) (head index : List ℕ) (i : Index) → IsWellFormed i → head ++ index ≡ spelling i → length head ≡ 56 → size ≡ length (spelling i) → file_in size head index ≡ Ok i
unfolding file_in spelling
file_in_again size head index i fits e whole sized =
    let f = file_passes head index (spell_index i) size fits.len e whole sized in
    let said : index_in index ≡ Some i = index_in_again index i fits.parts f.2 in
    let own : (length index == length index) ≡ true = (Decides-eqb (length index) (length index)).1 refl in
    rw (f.0, own, f.1, said) refl

-- ---- answers

pub answer_read : (size : ℕ) (head index : List ℕ) (r : Result Index FileFault) → size < 2 ^ 64 → AreBytes head → AreBytes index → IsFileAnswerOf (file_in size head index) r →
    IfOk r (λ i. (head ++ index ≡ spelling i) × (size ≡ length (spelling i)) × IsWellFormed i)
answer_read size head index (Ok i) small fits_head fits e = let f = file_in_takes size head index i small fits_head fits e in (f.bytes, f.sized, f.formed)
answer_read size head index (Err fault) small fits_head fits e = tt

pub answer_given : (size : ℕ) (head index : List ℕ) (r : Result Index FileFault) (i : Index) → IsFileAnswerOf (file_in size head index) r →
    IsWellFormed i → head ++ index ≡ spelling i → length head ≡ 56 → size ≡ length (spelling i) → MatchResult r (λ j. j ≡ i) (λ fault. fault ≡ NoMemory)
answer_given size head index r i said fits e whole sized = only r said
  where
    again : file_in size head index ≡ Ok i
    again = file_in_again size head index i fits e whole sized

    only : (r : Result Index FileFault) → IsFileAnswerOf (file_in size head index) r → MatchResult r (λ j. j ≡ i) (λ fault. fault ≡ NoMemory)
    only (Ok j) f = let h = sym f ∙ again in cc
    only (Err NoMemory) f = refl
    only (Err Damaged) f = let h = sym f ∙ again in absurd cc
    only (Err (OtherVersion n)) f = let h = sym f ∙ again in absurd cc

pub answer_version : (size : ℕ) (head index : List ℕ) (r : Result Index FileFault) (n : ℕ) → IsFileAnswerOf (file_in size head index) r →
    r ≡ Err (OtherVersion n) → index_len_of head size ≡ Err (OtherVersion n)
unfolding file_in
answer_version size head index r n said e =
    let told : IsFileAnswerOf (file_in size head index) (Err (OtherVersion n)) = subst (IsFileAnswerOf (file_in size head index)) e said in
    by_len (index_len_of head size) told
  where
    none_or_some : (o : Option Index) → or_damaged o ≡ Err (OtherVersion n) → ⊥
    none_or_some (Some i) e = cc
    none_or_some None e = cc

    not_if : (b : Bool) (r : Result Index FileFault) → (r ≡ Err (OtherVersion n) → ⊥) → cond b r (Err Damaged) ≡ Err (OtherVersion n) → ⊥
    not_if true r never e = never e
    not_if false r never e = cc

    by_len : (l : Result ℕ FileFault) → checked_index head index l ≡ Err (OtherVersion n) → l ≡ Err (OtherVersion n)
    by_len (Err fault) e = cc
    by_len (Ok len) e = absurd (not_if (length index == len) (cond (is_sealed_of head index) (or_damaged (index_in index)) (Err Damaged))
        (not_if (is_sealed_of head index) (or_damaged (index_in index)) (none_or_some (index_in index))) e)

-- ---- laws

pub spelling_injective : (i j : Index) → IsWellFormed i → IsWellFormed j → spelling i ≡ spelling j → i ≡ j
unfolding spelling
spelling_injective i j fits fits' e =
    let same : spell_index i ≡ spell_index j = same_index (spell_index i) (spell_index j) e in
    let k = known (spell_index i) i _ _ fits.parts refl (index_again (spell_index i) j fits'.parts same) in
    sym k.index

pub no_front : (i j : Index) (n : ℕ) → IsWellFormed i → IsWellFormed j → n < length (spelling i) → take n (spelling i) ≡ spelling j → ⊥
unfolding spelling
no_front i j n fits fits' lt e = front_is_none (spell_index i) (spell_index j) n fits.len fits'.len lt e
