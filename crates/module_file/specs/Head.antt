-- The head of a module file, and the file as a whole.
use Rattle.std.proofs.Common.{◌≡◌, ℕ, ◌+◌, ◌<◌, ◌≤◌, ◌^◌, Bool, true, false, cond, ltb, ◌||◌, ◌==◌, not, List, [], ◌++◌, length, take, drop, Result, Ok, Err, refl, sym, ap, ◌∙◌, append_assoc, arith, inl, inr}
use Rattle.std.specs.Prelude.{codes}
use Rattle.std.specs.Int.{w32, w64, to_be_bytes}
use Rattle.std.specs.Str.{bytes_eq}
use Rattle.std.proofs.lemmas.Bool.{not-false, ltb-false, le-ltb, cases_lt}
use Rattle.std.proofs.lemmas.Bool.Decides.{Decides-eqb}
use Rattle.std.proofs.lemmas.List.{take_at, drop_at, take-append-drop, length-append, length-take, length-drop, append-nil, get_or-drop, get_or-take, get_or_past}
use Rattle.std.proofs.Math.Seq.{take-add}
use Rattle.std.proofs.lemmas.List.{drop-drop}
use Rattle.std.proofs.lemmas.Nat.{be_bytes_4, be_bytes_8, from_be_bytes-to_be_bytes_4, from_be_bytes-to_be_bytes_8}
use Rattle.std.proofs.lemmas.Slice.Eq.{bytes_eq-Decides}
use Rattle.sha2.specs.Sha256.{sha256, digest_bytes}
use Rattle.cm_wire.specs.Spelling.{spell_u32, spell_u64}
use Rattle.cm_wire.specs.Unread.{AreBytes}
use Rattle.module_file.specs.declared.fault.FileFault.{FileFault}
use Rattle.module_file.specs.declared.fault.FileFault.TheVariants.{OtherVersion, Damaged}
use Rattle.module_file.specs.ModuleFile.{head_front, file_around, version_in, total_in, len_in, index_len_of}

-- ---- checks

passes_check : (b : Bool) (d : FileFault) (r : Result ℕ FileFault) (x : ℕ) → cond b (Err d) r ≡ Ok x → (b ≡ false) × (r ≡ Ok x)
passes_check true d r x e = absurd cc
passes_check false d r x e = (refl, e)

neither : (a b : Bool) → (a || b) ≡ false → (a ≡ false) × (b ≡ false)
neither true b e = absurd cc
neither false b e = (refl, e)

-- what the checks of a head say
pub record IsChecked (head : List ℕ) (size len : ℕ) : Type 0 where
  pub enough : 56 ≤ size
  pub whole : length head ≡ 56
  pub magic : take 4 head ≡ codes "CMOD"
  pub version : version_in head ≡ 0
  pub total : total_in head ≡ size
  pub sum : 56 + len ≡ size
  pub stated : len_in head ≡ len

pub checked : (head : List ℕ) (size len : ℕ) → index_len_of head size ≡ Ok len → IsChecked head size len
unfolding index_len_of
checked head size len e =
    let a = passes_check (ltb size 56 || not (length head == 56)) Damaged (cond (not (bytes_eq (take 4 head) (codes "CMOD"))) (Err Damaged) (cond (not (version_in head == 0)) (Err (OtherVersion (version_in head))) (cond (not (total_in head == size) || not (56 + len_in head == size)) (Err Damaged) (Ok (len_in head))))) len e in
    let b = passes_check (not (bytes_eq (take 4 head) (codes "CMOD"))) Damaged (cond (not (version_in head == 0)) (Err (OtherVersion (version_in head))) (cond (not (total_in head == size) || not (56 + len_in head == size)) (Err Damaged) (Ok (len_in head)))) len a.1 in
    let c = passes_check (not (version_in head == 0)) (OtherVersion (version_in head)) (cond (not (total_in head == size) || not (56 + len_in head == size)) (Err Damaged) (Ok (len_in head))) len b.1 in
    let d = passes_check (not (total_in head == size) || not (56 + len_in head == size)) Damaged (Ok (len_in head)) len c.1 in
    let sizes = neither (ltb size 56) (not (length head == 56)) a.0 in
    let sums = neither (not (total_in head == size)) (not (56 + len_in head == size)) d.0 in
    let same : len_in head ≡ len = ok_same (len_in head) len d.1 in
    let sum : 56 + len_in head ≡ size = (Decides-eqb (56 + len_in head) size).0 (not-false _ sums.1) in
    record {
      enough = ltb-false _ _ sizes.0;
      whole = (Decides-eqb (length head) 56).0 (not-false _ sizes.1);
      magic = (bytes_eq-Decides (take 4 head) (codes "CMOD")).0 (not-false _ b.0);
      version = (Decides-eqb (version_in head) 0).0 (not-false _ c.0);
      total = (Decides-eqb (total_in head) size).0 (not-false _ sums.0);
      sum = omega (arith, same, sum);
      stated = same;
    }
  where
    ok_same : (x y : ℕ) → ◌≡◌ {A = Result ℕ FileFault} (Ok x) (Ok y) → x ≡ y
    ok_same x y e = cc

-- a head that passes these is read so
pub checks_again : (head : List ℕ) (size len : ℕ) → IsChecked head size len → index_len_of head size ≡ Ok len
unfolding index_len_of
checks_again head size len h =
    let enough : ltb size 56 ≡ false = le-ltb size 56 h.enough in
    let total : (total_in head == size) ≡ true = (Decides-eqb (total_in head) size).1 h.total in
    let sum : (56 + len_in head == size) ≡ true = (Decides-eqb (56 + len_in head) size).1 (omega (arith, h.stated, h.sum)) in
    let whole : (length head == 56) ≡ true = (Decides-eqb (length head) 56).1 h.whole in
    let magic : bytes_eq (take 4 head) (codes "CMOD") ≡ true = (bytes_eq-Decides (take 4 head) (codes "CMOD")).1 h.magic in
    let version : (version_in head == 0) ≡ true = (Decides-eqb (version_in head) 0).1 h.version in
    all_pass (ltb size 56) (length head == 56) (bytes_eq (take 4 head) (codes "CMOD")) (version_in head == 0) (total_in head == size) (56 + len_in head == size) (version_in head) (len_in head) len enough whole magic version total sum h.stated
  where
    all_pass : (a b c d e f : Bool) (v n len : ℕ) → a ≡ false → b ≡ true → c ≡ true → d ≡ true → e ≡ true → f ≡ true → n ≡ len →
        cond (a || not b) (Err Damaged) (cond (not c) (Err Damaged) (cond (not d) (Err (OtherVersion v)) (cond (not e || not f) (Err Damaged) (Ok n)))) ≡ Ok len
    all_pass a b c d e f v n len h1 h2 h3 h4 h5 h6 h7 = rw (h1, h2, h3, h4, h5, h6, h7) refl

-- ---- the bytes of a head

bytes_of_part : (n at : ℕ) (bs : List ℕ) → AreBytes bs → AreBytes (take n (drop at bs))
bytes_of_part n at bs fits i =
    elim (cases_lt i n) [
      | inl lt ↦ rw (get_or-take, get_or-drop) (fits (at + i))
      | inr le ↦ rw (get_or_past (take n (drop at bs)) i 0 (omega (arith, length-take n (drop at bs)))) (omega arith)
    ]

-- a head that passes the checks begins so
pub front_of_checked : (head : List ℕ) (size len : ℕ) → AreBytes head → IsChecked head size len → take 24 head ≡ head_front len
unfolding spell_u32 spell_u64
front_of_checked head size len fits h =
    let version : to_be_bytes w32 0 ≡ take 4 (drop 4 head) = be_bytes_4 (take 4 (drop 4 head)) 0 (omega (arith, length-take 4 (drop 4 head), length-drop 4 head, h.whole)) (bytes_of_part 4 4 head fits) (sym h.version) in
    let total : to_be_bytes w64 (56 + len) ≡ take 8 (drop 8 head) = be_bytes_8 (take 8 (drop 8 head)) (56 + len) (omega (arith, length-take 8 (drop 8 head), length-drop 8 head, h.whole)) (bytes_of_part 8 8 head fits) (h.sum ∙ sym h.total) in
    let own : to_be_bytes w64 len ≡ take 8 (drop 16 head) = be_bytes_8 (take 8 (drop 16 head)) len (omega (arith, length-take 8 (drop 16 head), length-drop 16 head, h.whole)) (bytes_of_part 8 16 head fits) (sym h.stated) in
    parts_of_front head ∙ same_parts h.magic (sym version) (sym total) (sym own)
  where
    same_parts : {a b c d e f g h : List ℕ} → a ≡ e → b ≡ f → c ≡ g → d ≡ h → a ++ (b ++ (c ++ d)) ≡ e ++ (f ++ (g ++ (h ++ [])))
    same_parts p q r s = rw (p, q, r, s, append-nil) refl

    parts_of_front : (xs : List ℕ) → take 24 xs ≡ take 4 xs ++ (take 4 (drop 4 xs) ++ (take 8 (drop 8 xs) ++ take 8 (drop 16 xs)))
    parts_of_front xs =
        let a : take 24 xs ≡ take 4 xs ++ take 20 (drop 4 xs) = take-add 4 20 xs in
        let b : take 20 (drop 4 xs) ≡ take 4 (drop 4 xs) ++ take 16 (drop 4 (drop 4 xs)) = take-add 4 16 (drop 4 xs) in
        let c : drop 4 (drop 4 xs) ≡ drop 8 xs = drop-drop 4 4 xs in
        let d : take 16 (drop 8 xs) ≡ take 8 (drop 8 xs) ++ take 8 (drop 8 (drop 8 xs)) = take-add 8 8 (drop 8 xs) in
        let e : drop 8 (drop 8 xs) ≡ drop 16 xs = drop-drop 8 8 xs in
        rw (a, b, c, d, e) refl

pub length-front : (len : ℕ) → length (head_front len) ≡ 24
unfolding spell_u32 spell_u64
length-front len = refl

length-digest : (h : List ℕ) → length (digest_bytes h 8) ≡ 32
unfolding digest_bytes
length-digest h = refl

pub length-sha256 : (bytes : List ℕ) → length (sha256 bytes) ≡ 32
unfolding sha256
length-sha256 bytes = length-digest _

-- a head that begins so passes the checks
pub checked_of_front : (len : ℕ) (rest : List ℕ) → 56 + len < 2 ^ 64 → length rest ≡ 32 → IsChecked (head_front len ++ rest) (56 + len) len
unfolding spell_u32 spell_u64
checked_of_front len rest lt whole = record {
  enough = omega arith;
  whole = simp (length-append, length-front) (omega (arith, whole));
  magic = refl;
  version = from_be_bytes-to_be_bytes_4 0 (omega arith);
  total = from_be_bytes-to_be_bytes_8 (56 + len) lt;
  sum = refl;
  stated = from_be_bytes-to_be_bytes_8 len (omega (arith, lt));
}

-- ---- the file

-- the digest of a file with this index
abbrev pub digest_for : List ℕ → List ℕ
digest_for index = sha256 (head_front (length index) ++ index)

length-head : (index : List ℕ) → length (head_front (length index) ++ digest_for index) ≡ 56
length-head index = length-append (head_front (length index)) (digest_for index) ∙ rw (length-front (length index), length-sha256) refl

file_parts : (index : List ℕ) → file_around index ≡ (head_front (length index) ++ digest_for index) ++ index
unfolding file_around
file_parts index = sym (append_assoc (head_front (length index)) (digest_for index) index)

pub length-file : (index : List ℕ) → length (file_around index) ≡ 56 + length index
length-file index = ap length (file_parts index) ∙ (length-append (head_front (length index) ++ digest_for index) index ∙ rw (length-head index) refl)

-- a head and an index that pass the checks are a file
pub file_checked : (head index : List ℕ) (size len : ℕ) → AreBytes head → index_len_of head size ≡ Ok len → length index ≡ len →
    bytes_eq (sha256 (take 24 head ++ index)) (drop 24 head) ≡ true → (head ++ index ≡ file_around index) × (size ≡ length (file_around index))
file_checked head index size len fits e own sealed =
    let h = checked head size len e in
    let front : take 24 head ≡ head_front (length index) = rw own (front_of_checked head size len fits h) in
    let digest : sha256 (take 24 head ++ index) ≡ drop 24 head = (bytes_eq-Decides (sha256 (take 24 head ++ index)) (drop 24 head)).0 sealed in
    let own_digest : digest_for index ≡ drop 24 head = ap (λ (f : List ℕ). sha256 (f ++ index)) (sym front) ∙ digest in
    let whole : head ≡ head_front (length index) ++ digest_for index = sym (take-append-drop 24 head) ∙ rw (front, own_digest) refl in
    (ap (λ (f : List ℕ). f ++ index) whole ∙ sym (file_parts index), omega (arith, length-file index, h.sum, own))

-- a file passes the checks
pub file_passes : (head index body : List ℕ) (size : ℕ) → 56 + length body < 2 ^ 64 → head ++ index ≡ file_around body → length head ≡ 56 → size ≡ length (file_around body) →
    (index_len_of head size ≡ Ok (length index)) × (bytes_eq (sha256 (take 24 head ++ index)) (drop 24 head) ≡ true) × (index ≡ body)
file_passes head index body size lt e whole sized =
    let parts : head ++ index ≡ (head_front (length body) ++ digest_for body) ++ body = e ∙ file_parts body in
    let front : head ≡ head_front (length body) ++ digest_for body =
    sym (take_at head index 56 whole) ∙ (ap (λ (s : List ℕ). take 56 s) parts ∙ take_at (head_front (length body) ++ digest_for body) body 56 (length-head body)) in
    let behind : index ≡ body =
    sym (drop_at head index 56 whole) ∙ (ap (λ (s : List ℕ). drop 56 s) parts ∙ drop_at (head_front (length body) ++ digest_for body) body 56 (length-head body)) in
    let size_is : size ≡ 56 + length body = sized ∙ length-file body in
    let passed : index_len_of (head_front (length body) ++ digest_for body) (56 + length body) ≡ Ok (length body) =
    checks_again (head_front (length body) ++ digest_for body) (56 + length body) (length body) (checked_of_front (length body) (digest_for body) lt (length-sha256 _)) in
    let first : take 24 head ≡ head_front (length body) = rw front (take_at (head_front (length body)) (digest_for body) 24 (length-front (length body))) in
    let second : drop 24 head ≡ digest_for body = rw front (drop_at (head_front (length body)) (digest_for body) 24 (length-front (length body))) in
    (rw (front, size_is, behind) passed, rw (first, second, behind) ((bytes_eq-Decides (digest_for body) (digest_for body)).1 refl), behind)

-- ---- laws

-- the bytes of a file give the index's bytes
pub same_index : (a b : List ℕ) → file_around a ≡ file_around b → a ≡ b
same_index a b e =
    sym (drop_at (head_front (length a) ++ digest_for a) a 56 (length-head a))
    ∙ (ap (λ (s : List ℕ). drop 56 s) (sym (file_parts a) ∙ (e ∙ file_parts b))
    ∙ drop_at (head_front (length b) ++ digest_for b) b 56 (length-head b))

total_of_front : (len : ℕ) (rest : List ℕ) → 56 + len < 2 ^ 64 → total_in (head_front len ++ rest) ≡ 56 + len
unfolding spell_u32 spell_u64
total_of_front len rest lt = from_be_bytes-to_be_bytes_8 (56 + len) lt

-- a strict front of a file is no file
pub front_is_none : (a b : List ℕ) (n : ℕ) → 56 + length a < 2 ^ 64 → 56 + length b < 2 ^ 64 → n < length (file_around a) → take n (file_around a) ≡ file_around b → ⊥
unfolding file_around
front_is_none a b n fits_a fits_b lt e =
    let stated : total_in (file_around a) ≡ 56 + length a = total_of_front (length a) (digest_for a ++ a) fits_a in
    let rest = drop n (file_around a) in
    let split : file_around a ≡ head_front (length b) ++ ((digest_for b ++ b) ++ rest) =
    sym (take-append-drop n (file_around a)) ∙ (ap (λ (s : List ℕ). s ++ rest) e ∙ append_assoc (head_front (length b)) (digest_for b ++ b) rest) in
    let restated : total_in (file_around a) ≡ 56 + length b = ap total_in split ∙ total_of_front (length b) ((digest_for b ++ b) ++ rest) fits_b in
    let same : 56 + length a ≡ 56 + length b = sym stated ∙ restated in
    let cut : length (take n (file_around a)) ≡ n = omega (arith, length-take n (file_around a), lt) in
    absurd (omega (arith, same, cut, lt, ap length e, length-file a, length-file b))
