-- Each form by itself: what is put is read again, and what is read was spelled so.
use Rattle.std.proofs.Common.{◌≡◌, ℕ, ◌+◌, ◌^◌, ◌<◌, ◌≤◌, Bool, true, false, cond, ltb, List, [], ◌∷◌, ◌++◌, length, get_or, take, drop, Result, Ok, Err, refl, sym, ap, subst, ◌∙◌, append_assoc, arith, inl, inr}
use Rattle.std.specs.Prelude.{IsUtf8}
use Rattle.std.specs.Str.{is_utf8}
use Rattle.std.specs.Int.{w32, w64, from_be_bytes, to_be_bytes}
use Rattle.std.proofs.lemmas.Bool.{cases_lt, ltb-false, le-ltb}
use Rattle.std.proofs.lemmas.List.{take_at, drop_at, take-append-drop, length-append, length-take, get_or-drop, get_or_past, get_or_append_left}
use Rattle.std.proofs.lemmas.Nat.{be_bytes_4, be_bytes_8, from_be_bytes-to_be_bytes_4, from_be_bytes-to_be_bytes_8}
use Rattle.std.proofs.lemmas.Str.{IsUtf8-from_is_utf8, is_utf8-from_IsUtf8}
use Rattle.cm_wire.specs.declared.fault.WireFault.{WireFault}
use Rattle.cm_wire.specs.declared.fault.WireFault.TheVariants.{Short, OutOfRange}
use Rattle.cm_wire.specs.Spelling.{spell_u8, spell_u32, spell_u64, spell_bytes, spell_text, spell_digest}
use Rattle.cm_wire.specs.Unread.{Unread, past, Passes, AreBytes}
use Rattle.cm_wire.specs.Reading.{◌>>=◌, read_front, read_u8, read_u32, read_u64, read_tag, read_bytes, read_text, read_digest}

-- ---- steps and tests

-- the value of a step that did not fail
pub bind_ok : {A B : Type 0} (r : Result A WireFault) (f : A → Result B WireFault) (y : B) → (r >>= f) ≡ Ok y → (x : A) × (r ≡ Ok x) × (f x ≡ Ok y)
bind_ok (Ok x) f y e = (x, refl, e)
bind_ok (Err d) f y e = absurd cc

guard_ok : {A : Type 0} (b : Bool) (d : WireFault) (x y : A) → cond b (Err d) (Ok x) ≡ Ok y → (b ≡ false) × (x ≡ y)
guard_ok true d x y e = absurd cc
guard_ok false d x y e = (refl, cc)

test_ok : {A : Type 0} (b : Bool) (d : WireFault) (x y : A) → cond b (Ok x) (Err d) ≡ Ok y → (b ≡ true) × (x ≡ y)
test_ok true d x y e = (refl, cc)
test_ok false d x y e = absurd cc

abbrev done : {A : Type 0} → A → Result A WireFault
done x = Ok x

pub ok_is : {A : Type 0} (x y : A) → done x ≡ done y → x ≡ y
ok_is x y e = cc

-- ---- what is passed over

pub Passes-then : (u v w : Unread) (a b : List ℕ) → Passes u a v → Passes v b w → Passes u (a ++ b) w
Passes-then u v w a b first second = record {
  parts = first.parts ∙ ap (λ (t : List ℕ). a ++ t) second.parts ∙ sym (append_assoc a b w.rest);
  place = omega (arith, first.place, second.place, length-append a b);
}

-- between the two parts of what is passed over
pub Passes-between : (u w : Unread) (a b : List ℕ) → Passes u (a ++ b) w → (v : Unread) × Passes u a v × Passes v b w
Passes-between u w a b whole =
    let v : Unread = record { at = u.at + length a; rest = b ++ w.rest } in
    (v, record { parts = whole.parts ∙ append_assoc a b w.rest; place = refl }, record { parts = refl; place = omega (arith, whole.place, length-append a b) })

AreBytes-drop : (n : ℕ) (bytes : List ℕ) → AreBytes bytes → AreBytes (drop n bytes)
AreBytes-drop n bytes h i = rw get_or-drop (h (n + i))

pub AreBytes-rest : (u v : Unread) (s : List ℕ) → AreBytes u.rest → Passes u s v → AreBytes v.rest
AreBytes-rest u v s fits passes =
    let behind : drop (length s) u.rest ≡ v.rest = rw passes.parts (drop_at s v.rest (length s) refl) in
    rw (← behind) (AreBytes-drop (length s) u.rest fits)

AreBytes-front : (u v : Unread) (s : List ℕ) → AreBytes u.rest → Passes u s v → AreBytes s
AreBytes-front u v s fits passes i =
    elim (cases_lt i (length s)) [
      | inl lt ↦ rw (← get_or_append_left s v.rest 0 i lt) (subst AreBytes passes.parts fits i)
      | inr le ↦ rw (get_or_past s i 0 le) (omega arith)
    ]

-- ---- lengths of spellings

pub length-spell_u8 : (n : ℕ) → length (spell_u8 n) ≡ 1
unfolding spell_u8
length-spell_u8 n = refl

pub length-spell_u32 : (n : ℕ) → length (spell_u32 n) ≡ 4
unfolding spell_u32
length-spell_u32 n = refl

pub length-spell_u64 : (n : ℕ) → length (spell_u64 n) ≡ 8
unfolding spell_u64
length-spell_u64 n = refl

pub length-spell_bytes : (bs : List ℕ) → length (spell_bytes bs) ≡ 8 + length bs
unfolding spell_bytes
length-spell_bytes bs = length-append (spell_u64 (length bs)) bs ∙ ap (λ (n : ℕ). n + length bs) (length-spell_u64 (length bs))

pub length-spell_text : (bs : List ℕ) → length (spell_text bs) ≡ 8 + length bs
unfolding spell_text
length-spell_text bs = length-spell_bytes bs

pub length-spell_digest : (bs : List ℕ) → length bs ≡ 32 → length (spell_digest bs) ≡ 32
unfolding spell_digest
length-spell_digest bs len = len

-- ---- the next bytes

pub front_takes : (field n : ℕ) (u v : Unread) (s : List ℕ) → read_front field n u ≡ Ok (s, v) → Passes u s v × (length s ≡ n)
unfolding read_front
front_takes field n u v s e =
    let g = guard_ok (ltb (length u.rest) n) (Short field) (take n u.rest, past n u) (s, v) e in
    let long : n ≤ length u.rest = ltb-false _ _ g.0 in
    let len : length (take n u.rest) ≡ n = omega (arith, length-take n u.rest) in
    let passes : Passes u (take n u.rest) (past n u) = record { parts = sym (take-append-drop n u.rest); place = omega (arith, len) } in
    subst (λ (p : List ℕ × Unread). Passes u p.0 p.1 × (length p.0 ≡ n)) g.1 (passes, len)

pub front_again : (field n : ℕ) (u v : Unread) (s : List ℕ) → Passes u s v → length s ≡ n → read_front field n u ≡ Ok (s, v)
unfolding read_front
front_again field n u v s passes len =
    let long : ltb (length u.rest) n ≡ false = le-ltb _ _ (omega (arith, ap length passes.parts, length-append s v.rest)) in
    let front : take n u.rest ≡ s = rw passes.parts (take_at s v.rest n len) in
    let behind : drop n u.rest ≡ v.rest = rw passes.parts (drop_at s v.rest n len) in
    let place : u.at + n ≡ v.at = omega (arith, passes.place) in
    rw (long, front, behind, place) refl

-- ---- numbers

pub u8_takes : (n : ℕ) (u v : Unread) → AreBytes u.rest → read_u8 u ≡ Ok (n, v) → Passes u (spell_u8 n) v × (n < 256)
unfolding read_u8 spell_u8
u8_takes n u v fits e =
    let b = bind_ok (read_front u.at 1 u) (λ front. Ok (get_or front.0 0 0, front.1)) (n, v) e in
    let t = front_takes u.at 1 u b.0.1 b.0.0 b.1 in
    let one : get_or b.0.0 0 0 ∷ [] ≡ b.0.0 = one_byte b.0.0 t.1 in
    let below : get_or b.0.0 0 0 < 256 = AreBytes-front u b.0.1 b.0.0 fits t.0 0 in
    let front : Passes u (get_or b.0.0 0 0 ∷ []) b.0.1 = rw one t.0 in
    subst (λ (p : ℕ × Unread). Passes u (p.0 ∷ []) p.1 × (p.0 < 256)) (ok_is (get_or b.0.0 0 0, b.0.1) (n, v) b.2) (front, below)
  where
    one_byte : (s : List ℕ) → length s ≡ 1 → get_or s 0 0 ∷ [] ≡ s
    one_byte [] e = absurd (omega arith)
    one_byte (x ∷ []) e = refl
    one_byte (x ∷ y ∷ s) e = absurd (omega (arith, e))

pub u8_again : (n : ℕ) (u v : Unread) → Passes u (spell_u8 n) v → read_u8 u ≡ Ok (n, v)
unfolding read_u8 spell_u8
u8_again n u v passes = rw (front_again u.at 1 u v (n ∷ []) passes refl) refl

pub u32_takes : (n : ℕ) (u v : Unread) → AreBytes u.rest → read_u32 u ≡ Ok (n, v) → Passes u (spell_u32 n) v × (n < 2 ^ 32)
unfolding read_u32 spell_u32
u32_takes n u v fits e =
    let b = bind_ok (read_front u.at 4 u) (λ front. Ok (from_be_bytes w32 front.0, front.1)) (n, v) e in
    let t = front_takes u.at 4 u b.0.1 b.0.0 b.1 in
    let front_fits = AreBytes-front u b.0.1 b.0.0 fits t.0 in
    let below : from_be_bytes w32 b.0.0 < 2 ^ 32 = omega (arith, front_fits 0, front_fits 1, front_fits 2, front_fits 3) in
    let front : Passes u (to_be_bytes w32 (from_be_bytes w32 b.0.0)) b.0.1 = subst (λ (s : List ℕ). Passes u s b.0.1) (sym (be_bytes_4 b.0.0 _ t.1 front_fits refl)) t.0 in
    subst (λ (p : ℕ × Unread). Passes u (to_be_bytes w32 p.0) p.1 × (p.0 < 2 ^ 32)) (ok_is (from_be_bytes w32 b.0.0, b.0.1) (n, v) b.2) (front, below)

pub u32_again : (n : ℕ) (u v : Unread) → n < 2 ^ 32 → Passes u (spell_u32 n) v → read_u32 u ≡ Ok (n, v)
unfolding read_u32 spell_u32
u32_again n u v lt passes = rw (front_again u.at 4 u v (to_be_bytes w32 n) passes refl, from_be_bytes-to_be_bytes_4 n lt) refl

pub u64_takes : (n : ℕ) (u v : Unread) → AreBytes u.rest → read_u64 u ≡ Ok (n, v) → Passes u (spell_u64 n) v × (n < 2 ^ 64)
unfolding read_u64 spell_u64
u64_takes n u v fits e =
    let b = bind_ok (read_front u.at 8 u) (λ front. Ok (from_be_bytes w64 front.0, front.1)) (n, v) e in
    let t = front_takes u.at 8 u b.0.1 b.0.0 b.1 in
    let front_fits = AreBytes-front u b.0.1 b.0.0 fits t.0 in
    let below : from_be_bytes w64 b.0.0 < 2 ^ 64 = omega (arith, front_fits 0, front_fits 1, front_fits 2, front_fits 3, front_fits 4, front_fits 5, front_fits 6, front_fits 7) in
    let front : Passes u (to_be_bytes w64 (from_be_bytes w64 b.0.0)) b.0.1 = subst (λ (s : List ℕ). Passes u s b.0.1) (sym (be_bytes_8 b.0.0 _ t.1 front_fits refl)) t.0 in
    subst (λ (p : ℕ × Unread). Passes u (to_be_bytes w64 p.0) p.1 × (p.0 < 2 ^ 64)) (ok_is (from_be_bytes w64 b.0.0, b.0.1) (n, v) b.2) (front, below)

pub u64_again : (n : ℕ) (u v : Unread) → n < 2 ^ 64 → Passes u (spell_u64 n) v → read_u64 u ≡ Ok (n, v)
unfolding read_u64 spell_u64
u64_again n u v lt passes = rw (front_again u.at 8 u v (to_be_bytes w64 n) passes refl, from_be_bytes-to_be_bytes_8 n lt) refl

-- ---- tags

pub tag_takes : (limit n : ℕ) (u v : Unread) → AreBytes u.rest → read_tag limit u ≡ Ok (n, v) → Passes u (spell_u8 n) v × (n < 256) × (n ≤ limit)
unfolding read_tag
tag_takes limit n u v fits e =
    let b = bind_ok (read_u8 u) (λ tag. cond (ltb limit tag.0) (Err (OutOfRange u.at)) (Ok tag)) (n, v) e in
    let g = guard_ok (ltb limit b.0.0) (OutOfRange u.at) b.0 (n, v) b.2 in
    let t = u8_takes b.0.0 u b.0.1 fits b.1 in
    subst (λ (p : ℕ × Unread). Passes u (spell_u8 p.0) p.1 × (p.0 < 256) × (p.0 ≤ limit)) g.1 (t.0, t.1, ltb-false _ _ g.0)

pub tag_again : (limit n : ℕ) (u v : Unread) → n ≤ limit → Passes u (spell_u8 n) v → read_tag limit u ≡ Ok (n, v)
unfolding read_tag
tag_again limit n u v le passes = rw (u8_again n u v passes, le-ltb limit n le) refl

-- ---- bytes and texts

pub bytes_takes : (bs : List ℕ) (u v : Unread) → AreBytes u.rest → read_bytes u ≡ Ok (bs, v) → Passes u (spell_bytes bs) v × (length bs < 2 ^ 64)
unfolding read_bytes spell_bytes
bytes_takes bs u v fits e =
    let b = bind_ok (read_u64 u) (λ n. read_front u.at n.0 n.1) (bs, v) e in
    let t = u64_takes b.0.0 u b.0.1 fits b.1 in
    let f = front_takes u.at b.0.0 b.0.1 v bs b.2 in
    let number : Passes u (spell_u64 (length bs)) b.0.1 = rw f.1 t.0 in
    (Passes-then u b.0.1 v (spell_u64 (length bs)) bs number f.0, omega (arith, f.1, t.1))

pub bytes_again : (bs : List ℕ) (u v : Unread) → length bs < 2 ^ 64 → Passes u (spell_bytes bs) v → read_bytes u ≡ Ok (bs, v)
unfolding read_bytes spell_bytes
bytes_again bs u v lt passes =
    let m = Passes-between u v (spell_u64 (length bs)) bs passes in
    rw (u64_again (length bs) u m.0 lt m.1, front_again u.at (length bs) m.0 v bs m.2 refl) refl

-- bytes that are read and UTF-8 are a text
pub text_of_bytes : (bs : List ℕ) (u v : Unread) → read_bytes u ≡ Ok (bs, v) → IsUtf8 bs → read_text u ≡ Ok (bs, v)
unfolding read_text
text_of_bytes bs u v e utf8 = rw (e, is_utf8-from_IsUtf8 bs utf8) refl

pub no_text : (bs : List ℕ) (u v : Unread) → read_bytes u ≡ Ok (bs, v) → ¬ IsUtf8 bs → read_text u ≡ Err (OutOfRange u.at)
unfolding read_text
no_text bs u v e other = rw e (by_test (is_utf8 bs) (λ t. other (IsUtf8-from_is_utf8 bs t)))
  where
    by_test : (b : Bool) → (b ≡ true → ⊥) → cond {A = Result (List ℕ × Unread) WireFault} b (Ok (bs, v)) (Err (OutOfRange u.at)) ≡ Err (OutOfRange u.at)
    by_test true other = absurd (other refl)
    by_test false other = refl

pub short_text : (u : Unread) (fault : WireFault) → read_bytes u ≡ Err fault → read_text u ≡ Err fault
unfolding read_text
short_text u fault e = rw e refl

pub text_takes : (bs : List ℕ) (u v : Unread) → AreBytes u.rest → read_text u ≡ Ok (bs, v) → Passes u (spell_text bs) v × (length bs < 2 ^ 64) × IsUtf8 bs
unfolding read_text spell_text
text_takes bs u v fits e =
    let b = bind_ok (read_bytes u) (λ text. cond (is_utf8 text.0) (Ok text) (Err (OutOfRange u.at))) (bs, v) e in
    let g = test_ok (is_utf8 b.0.0) (OutOfRange u.at) b.0 (bs, v) b.2 in
    let t = bytes_takes b.0.0 u b.0.1 fits b.1 in
    subst (λ (p : List ℕ × Unread). Passes u (spell_bytes p.0) p.1 × (length p.0 < 2 ^ 64) × IsUtf8 p.0) g.1 (t.0, t.1, IsUtf8-from_is_utf8 b.0.0 g.0)

pub text_again : (bs : List ℕ) (u v : Unread) → length bs < 2 ^ 64 → IsUtf8 bs → Passes u (spell_text bs) v → read_text u ≡ Ok (bs, v)
unfolding spell_text
text_again bs u v lt utf8 passes = text_of_bytes bs u v (bytes_again bs u v lt passes) utf8

-- ---- digests

pub digest_takes : (bs : List ℕ) (u v : Unread) → read_digest u ≡ Ok (bs, v) → Passes u (spell_digest bs) v × (length bs ≡ 32)
unfolding read_digest spell_digest
digest_takes bs u v e = front_takes u.at 32 u v bs e

pub digest_again : (bs : List ℕ) (u v : Unread) → length bs ≡ 32 → Passes u (spell_digest bs) v → read_digest u ≡ Ok (bs, v)
unfolding read_digest spell_digest
digest_again bs u v len passes = front_again u.at 32 u v bs passes len
