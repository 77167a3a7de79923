-- Fields one after another: what is put is read again, and what is read was spelled so.
use Rattle.std.proofs.Common.{◌≡◌, List, [], ◌∷◌, map, Ok, refl, subst, arith}
use Rattle.cm_wire.specs.Unread.{Unread, Passes, AreBytes}
use Rattle.cm_wire.specs.Reading.{◌>>=◌, read_u8, read_u32, read_u64, read_tag, read_bytes, read_text, read_digest}
use Rattle.cm_wire.specs.Fields.{Field, U8, U32, U64, Tag, Bytes, Text, Digest, Shape, OneByte, FourBytes, EightBytes, TagUpTo, SomeBytes, SomeText, SomeDigest, shape_of, HasSpelling, AllHaveSpellings, spell, spell_all, read_field, read_all}
use Rattle.cm_wire.proofs.Forms.{bind_ok, ok_is, Passes-then, Passes-between, AreBytes-rest, u8_takes, u8_again, u32_takes, u32_again, u64_takes, u64_again, tag_takes, tag_again, bytes_takes, bytes_again, text_takes, text_again, digest_takes, digest_again}

-- a field of this shape was read
record Takes (shape : Shape) (u : Unread) (x : Field × Unread) : Type 0 where
  pub passes : Passes u (spell x.0) x.1
  pub fits : HasSpelling x.0
  pub shaped : shape_of x.0 ≡ shape

field_takes : (shape : Shape) (u : Unread) (x : Field × Unread) → AreBytes u.rest → read_field shape u ≡ Ok x → Takes shape u x
field_takes OneByte u x bytes e =
    let b = bind_ok (read_u8 u) (λ n. Ok (U8 n.0, n.1)) x e in
    let t = u8_takes b.0.0 u b.0.1 bytes b.1 in
    subst (Takes OneByte u) (ok_is (U8 b.0.0, b.0.1) x b.2) (record { passes = t.0; fits = t.1; shaped = refl })
field_takes FourBytes u x bytes e =
    let b = bind_ok (read_u32 u) (λ n. Ok (U32 n.0, n.1)) x e in
    let t = u32_takes b.0.0 u b.0.1 bytes b.1 in
    subst (Takes FourBytes u) (ok_is (U32 b.0.0, b.0.1) x b.2) (record { passes = t.0; fits = t.1; shaped = refl })
field_takes EightBytes u x bytes e =
    let b = bind_ok (read_u64 u) (λ n. Ok (U64 n.0, n.1)) x e in
    let t = u64_takes b.0.0 u b.0.1 bytes b.1 in
    subst (Takes EightBytes u) (ok_is (U64 b.0.0, b.0.1) x b.2) (record { passes = t.0; fits = t.1; shaped = refl })
field_takes (TagUpTo limit) u x bytes e =
    let b = bind_ok (read_tag limit u) (λ n. Ok (Tag limit n.0, n.1)) x e in
    let t = tag_takes limit b.0.0 u b.0.1 bytes b.1 in
    subst (Takes (TagUpTo limit) u) (ok_is (Tag limit b.0.0, b.0.1) x b.2) (record { passes = t.0; fits = (t.1, t.2); shaped = refl })
field_takes SomeBytes u x bytes e =
    let b = bind_ok (read_bytes u) (λ n. Ok (Bytes n.0, n.1)) x e in
    let t = bytes_takes b.0.0 u b.0.1 bytes b.1 in
    subst (Takes SomeBytes u) (ok_is (Bytes b.0.0, b.0.1) x b.2) (record { passes = t.0; fits = t.1; shaped = refl })
field_takes SomeText u x bytes e =
    let b = bind_ok (read_text u) (λ n. Ok (Text n.0, n.1)) x e in
    let t = text_takes b.0.0 u b.0.1 bytes b.1 in
    subst (Takes SomeText u) (ok_is (Text b.0.0, b.0.1) x b.2) (record { passes = t.0; fits = (t.1, t.2); shaped = refl })
field_takes SomeDigest u x bytes e =
    let b = bind_ok (read_digest u) (λ n. Ok (Digest n.0, n.1)) x e in
    let t = digest_takes b.0.0 u b.0.1 b.1 in
    subst (Takes SomeDigest u) (ok_is (Digest b.0.0, b.0.1) x b.2) (record { passes = t.0; fits = t.1; shaped = refl })

field_again : (field : Field) (u v : Unread) → HasSpelling field → Passes u (spell field) v → read_field (shape_of field) u ≡ Ok (field, v)
field_again (U8 n) u v fits passes = rw (u8_again n u v passes) refl
field_again (U32 n) u v fits passes = rw (u32_again n u v fits passes) refl
field_again (U64 n) u v fits passes = rw (u64_again n u v fits passes) refl
field_again (Tag limit n) u v fits passes = rw (tag_again limit n u v fits.1 passes) refl
field_again (Bytes bs) u v fits passes = rw (bytes_again bs u v fits passes) refl
field_again (Text bs) u v fits passes = rw (text_again bs u v fits.0 fits.1 passes) refl
field_again (Digest bs) u v fits passes = rw (digest_again bs u v fits passes) refl

pub fields_take : (shapes : List Shape) (u : Unread) (x : List Field × Unread) → AreBytes u.rest → read_all shapes u ≡ Ok x → Passes u (spell_all x.0) x.1 × AllHaveSpellings x.0 × (map shape_of x.0 ≡ shapes)
unfolding read_all
fields_take [] u x bytes e =
    subst (λ (y : List Field × Unread). Passes u (spell_all y.0) y.1 × AllHaveSpellings y.0 × (map shape_of y.0 ≡ [])) (ok_is ([], u) x e) (record { parts = refl; place = omega arith }, tt, refl)
fields_take (shape ∷ shapes) u x bytes e =
    let a = bind_ok (read_field shape u) (λ first. read_all shapes first.1 >>= λ others. Ok (first.0 ∷ others.0, others.1)) x e in
    let b = bind_ok (read_all shapes a.0.1) (λ others. Ok (a.0.0 ∷ others.0, others.1)) x a.2 in
    let first = field_takes shape u a.0 bytes a.1 in
    let others = fields_take shapes a.0.1 b.0 (AreBytes-rest u a.0.1 (spell a.0.0) bytes first.passes) b.1 in
    let both = Passes-then u a.0.1 b.0.1 (spell a.0.0) (spell_all b.0.0) first.passes others.0 in
    let made : List Field × Unread = (a.0.0 ∷ b.0.0, b.0.1) in
    subst (λ (y : List Field × Unread). Passes u (spell_all y.0) y.1 × AllHaveSpellings y.0 × (map shape_of y.0 ≡ shape ∷ shapes)) (ok_is made x b.2) (both, (first.fits, others.1), rw (first.shaped, others.2) refl)

pub fields_again : (fields : List Field) (u v : Unread) → AllHaveSpellings fields → Passes u (spell_all fields) v → read_all (map shape_of fields) u ≡ Ok (fields, v)
unfolding read_all
fields_again [] u v fits passes =
    let place : u.at ≡ v.at = omega (arith, passes.place) in
    let rest : u.rest ≡ v.rest = passes.parts in
    rw (place, rest) refl
fields_again (field ∷ fields) u v fits passes =
    let m = Passes-between u v (spell field) (spell_all fields) passes in
    rw (field_again field u m.0 fits.0 m.1, fields_again fields m.0 v fits.1 m.2) refl
