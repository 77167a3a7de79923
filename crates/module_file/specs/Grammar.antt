-- The parts of an index in a module file, and the index as a whole.
use Rattle.std.proofs.Common.{◌≡◌, ℕ, ◌+◌, ◌<◌, ◌≤◌, ◌^◌, Bool, true, false, cond, ◌==◌, List, [], ◌∷◌, ◌++◌, length, Option, Some, None, option_map, refl, sym, subst, ◌∙◌, arith, inl, inr, ◌⊎◌, lit<}
use Rattle.std.specs.List.{AllByRecursion}
use Rattle.std.specs.Result.{result_ok}
use Rattle.std.proofs.lemmas.Bool.Decides.{Decides-eqb}
use Rattle.std.proofs.lemmas.List.{append-nil}
use Rattle.cm_wire.specs.Spelling.{spell_u8, spell_u64, spell_bytes, spell_text}
use Rattle.cm_wire.specs.Unread.{Unread, Passes, AreBytes}
use Rattle.cm_wire.specs.Reading.{read_u8, read_u64, read_bytes}
use Rattle.cm_wire.proofs.Forms.{Passes-then, Passes-between, AreBytes-rest, u8_takes, u8_again, u64_takes, u64_again, bytes_takes, bytes_again}
use Rattle.cm_outside.specs.declared.question.Question.{Question}
use Rattle.cm_outside.specs.declared.question.Question.TheVariants.{Read, List as Listing}
use Rattle.cm_outside.specs.declared.question.Answer.{Answer}
use Rattle.cm_outside.specs.declared.question.Answer.TheVariants.{Absent, Bytes, TooLarge, Paths}
use Rattle.cm_outside.specs.declared.question.Record.{Record}
use Rattle.module_file.specs.declared.index.Declaration.{Declaration}
use Rattle.module_file.specs.declared.index.Index.{Index}
use Rattle.module_file.specs.declared.row.Row.{Row}
use Rattle.module_file.specs.declared.contents.Contents.{Contents}
use Rattle.module_file.specs.ModuleFile.{spell_list, spell_key, spell_record, spell_exchange, spell_file_answer, spell_diag, spell_declaration, spell_piece, spell_row, spell_sub, spell_with_rows, spell_index, plain_int_object, rows_from, IsText, IsPathSpelling, IsListOf, IsKey, IsRecord, IsExchange, IsFileAnswer, IsDiag, IsDeclaration, IsRow, HasParts}
use Rattle.module_file.specs.Reading.{both, seen_as, read_list, read_path, read_key, key_of, read_file_answer, file_answer_after, read_record, record_after, file_record_of, listing_of, read_diag, diag_of, read_declaration, declaration_of, read_piece, read_row, row_of, Sub, read_sub, contents_of, read_contents}
use Rattle.module_file.specs.Forms.{IsForm, then_some, map_some, ok_some, some_is, nothing_form, both_form, after_form, seen_form, list_form, fits_as}
use Rattle.module_file.specs.Fields.{sign_u8, sign_u64, sign_bytes, number32_form, number64_form, str_form, path_form, inside_form}
use Rattle.module_file.specs.Rows.{rows_len}

pub key_form : IsForm spell_key IsKey read_key
unfolding spell_key read_key
key_form = seen_form key_of (λ k. (k.name, (k.includes, (k.maps, tt)))) IsKey (λ x. refl) (λ k. refl)
    (λ x h. record { name = h.0; includes = h.1.0; maps = h.1.1.0 }) (λ k h. (h.name, (h.includes, (h.maps, tt))))
    (both_form str_form (both_form (list_form path_form) (both_form (list_form path_form) (after_form (sign_u64 0 (lit< tt)) (after_form (sign_u8 0) nothing_form)))))

pub diag_form : IsForm spell_diag IsDiag read_diag
unfolding spell_diag read_diag
diag_form = seen_form diag_of (λ d. (d.number, (d.path, (d.line, (d.column, (d.texts, tt)))))) IsDiag (λ x. refl) (λ d. refl)
    (λ x h. record { number = h.0; path = h.1.0; line = h.1.1.0; column = h.1.1.1.0; texts = h.1.1.1.1.0 })
    (λ d h. (h.number, (h.path, (h.line, (h.column, (h.texts, tt))))))
    (both_form number32_form (both_form path_form (both_form number32_form (both_form number32_form (both_form (list_form str_form) nothing_form)))))

-- a declaration, its length left aside
record IsShown (d : Declaration) : Type 0 where
  pub name : IsText d.name
  pub path : IsPathSpelling d.path
  pub line : d.line < 2 ^ 32
  pub column : d.column < 2 ^ 32

declaration_form : IsForm spell_declaration IsShown read_declaration
unfolding read_declaration
declaration_form = seen_form declaration_of (λ d. (d.name, (d.path, (d.line, (d.column, tt))))) IsShown (λ x. refl) (λ d. refl)
    (λ x h. record { name = h.0; path = h.1.0; line = h.1.1.0; column = h.1.1.1.0 }) (λ d h. (h.name, (h.path, (h.line, (h.column, tt)))))
    (after_form (sign_u8 0) (both_form str_form (both_form path_form (both_form number32_form (both_form number32_form (after_form (sign_bytes plain_int_object) nothing_form))))))

pub piece_form : IsForm spell_piece IsDeclaration read_piece
unfolding spell_piece read_piece
piece_form = fits_as IsDeclaration (λ d h. record { name = h.0.name; path = h.0.path; line = h.0.line; column = h.0.column; len = h.1 })
    (λ d h. (record { name = h.name; path = h.path; line = h.line; column = h.column }, h.len)) (inside_form declaration_form)

pub row_form : IsForm spell_row IsRow read_row
unfolding spell_row read_row
row_form = seen_form row_of (λ r. (r.name, (r.number, tt))) IsRow (λ x. refl) (λ r. refl)
    (λ x h. record { name = h.0; number = h.1.0 }) (λ r h. (h.name, (h.number, tt)))
    (both_form str_form (after_form (sign_u8 0) (both_form number64_form nothing_form)))

-- ---- records

cases_if : {A : Type 0} (b : Bool) (x y : Option A) (z : A) → cond b x y ≡ Some z → ((b ≡ true) × (x ≡ Some z)) ⊎ (y ≡ Some z)
cases_if true x y z e = inl (refl, e)
cases_if false x y z e = inr e

-- a tag that is this number
tagged : (n tag : ℕ) (u w : Unread) → (tag == n) ≡ true → Passes u (spell_u8 tag) w → Passes u (spell_u8 n) w
tagged n tag u w e p = subst (λ (t : ℕ). Passes u (spell_u8 t) w) ((Decides-eqb tag n).0 e) p

abbrev TakesAnswer : Unread → Answer × Unread → Type 0
TakesAnswer u y = Passes u (spell_file_answer y.0) y.1 × IsFileAnswer y.0

answer_after : (tag : ℕ) (u w : Unread) (y : Answer × Unread) → AreBytes w.rest → Passes u (spell_u8 tag) w → file_answer_after tag w ≡ Some y → TakesAnswer u y
answer_after tag u w y fits p e =
    elim (cases_if (tag == 0) (Some (Absent, w)) (cond (tag == 1) (option_map (λ x. (Bytes x.0, x.1)) (result_ok (read_bytes w))) (cond (tag == 2) (option_map (λ x. (TooLarge x.0, x.1)) (result_ok (read_u64 w))) None)) y e) [
      | inl h ↦ subst (TakesAnswer u) (some_is (Absent, w) y h.1) (tagged 0 tag u w h.0 p, tt)
      | inr h ↦ elim (cases_if (tag == 1) (option_map (λ x. (Bytes x.0, x.1)) (result_ok (read_bytes w))) (cond (tag == 2) (option_map (λ x. (TooLarge x.0, x.1)) (result_ok (read_u64 w))) None) y h) [
        | inl k ↦
            let a = map_some (result_ok (read_bytes w)) (λ x. (Bytes x.0, x.1)) y k.1 in
            let t = bytes_takes a.0.0 w a.0.1 fits (ok_some (read_bytes w) a.0 a.1) in
            subst (TakesAnswer u) a.2 (Passes-then u w a.0.1 (spell_u8 1) (spell_bytes a.0.0) (tagged 1 tag u w k.0 p) t.0, t.1)
        | inr k ↦ elim (cases_if (tag == 2) (option_map (λ x. (TooLarge x.0, x.1)) (result_ok (read_u64 w))) None y k) [
          | inl m ↦
              let a = map_some (result_ok (read_u64 w)) (λ x. (TooLarge x.0, x.1)) y m.1 in
              let t = u64_takes a.0.0 w a.0.1 fits (ok_some (read_u64 w) a.0 a.1) in
              subst (TakesAnswer u) a.2 (Passes-then u w a.0.1 (spell_u8 2) (spell_u64 a.0.0) (tagged 2 tag u w m.0 p) t.0, t.1)
          | inr m ↦ absurd (no_answer y m)
        ]
      ]
    ]
  where
    no_answer : (y : Answer × Unread) → None ≡ Some y → ⊥
    no_answer y e = cc

answer_again : (x : Answer) (u v : Unread) → IsFileAnswer x → Passes u (spell_file_answer x) v → read_file_answer u ≡ Some (x, v)
unfolding read_file_answer
answer_again Absent u v fits p = rw (u8_again 0 u v p) refl
answer_again (Bytes bs) u v fits p =
    let m = Passes-between u v (spell_u8 1) (spell_bytes bs) p in
    rw (u8_again 1 u m.0 m.1, bytes_again bs m.0 v fits m.2) refl
answer_again (TooLarge n) u v fits p =
    let m = Passes-between u v (spell_u8 2) (spell_u64 n) p in
    rw (u8_again 2 u m.0 m.1, u64_again n m.0 v fits m.2) refl
answer_again (Paths paths) u v fits p = absurd fits

file_answer_form : IsForm spell_file_answer IsFileAnswer read_file_answer
unfolding read_file_answer
file_answer_form = record {
  takes = λ x u v fits e.
      let a = then_some (result_ok (read_u8 u)) (λ tag. file_answer_after tag.0 tag.1) (x, v) e in
      let t = u8_takes a.0.0 u a.0.1 fits (ok_some (read_u8 u) a.0 a.1) in
      answer_after a.0.0 u a.0.1 (x, v) (AreBytes-rest u a.0.1 (spell_u8 a.0.0) fits t.0) t.0 a.2;
  again = answer_again;
}

abbrev TakesRecord : Unread → Record × Unread → Type 0
TakesRecord u y = Passes u (spell_exchange y.0.question y.0.answer) y.1 × IsRecord y.0

file_form : IsForm (λ (x : List ℕ × Answer). spell_text x.0 ++ spell_file_answer x.1) (λ x. IsPathSpelling x.0 × IsFileAnswer x.1) (both read_path read_file_answer)
file_form = both_form path_form file_answer_form

listing_form : IsForm (λ (x : List ℕ × List (List ℕ)). spell_text x.0 ++ spell_list spell_text x.1) (λ x. IsPathSpelling x.0 × IsListOf IsPathSpelling x.1) (both read_path (read_list read_path))
listing_form = both_form path_form (list_form path_form)

record_takes : (tag : ℕ) (u w : Unread) (y : Record × Unread) → AreBytes w.rest → Passes u (spell_u8 tag) w → record_after tag w ≡ Some y → TakesRecord u y
record_takes tag u w y fits p e =
    elim (cases_if (tag == 0) (seen_as file_record_of (both read_path read_file_answer) w) (cond (tag == 1) (seen_as listing_of (both read_path (read_list read_path)) w) None) y e) [
      | inl h ↦
          let a = map_some (both read_path read_file_answer w) (λ x. (file_record_of x.0, x.1)) y h.1 in
          let t = file_form.takes a.0.0 w a.0.1 fits a.1 in
          subst (TakesRecord u) a.2 (Passes-then u w a.0.1 (spell_u8 0) (spell_text a.0.0.0 ++ spell_file_answer a.0.0.1) (tagged 0 tag u w h.0 p) t.0, t.1)
      | inr h ↦ elim (cases_if (tag == 1) (seen_as listing_of (both read_path (read_list read_path)) w) None y h) [
        | inl k ↦
            let a = map_some (both read_path (read_list read_path) w) (λ x. (listing_of x.0, x.1)) y k.1 in
            let t = listing_form.takes a.0.0 w a.0.1 fits a.1 in
            subst (TakesRecord u) a.2 (Passes-then u w a.0.1 (spell_u8 1) (spell_text a.0.0.0 ++ spell_list spell_text a.0.0.1) (tagged 1 tag u w k.0 p) t.0, t.1)
        | inr k ↦ absurd (no_record y k)
      ]
    ]
  where
    no_record : (y : Record × Unread) → None ≡ Some y → ⊥
    no_record y e = cc

record_again : (q : Question) (x : Answer) (u v : Unread) → IsExchange q x → Passes u (spell_exchange q x) v → read_record u ≡ Some (record { question = q; answer = x }, v)
unfolding read_record
record_again (Read path) x u v fits p =
    let m = Passes-between u v (spell_u8 0) (spell_text path ++ spell_file_answer x) p in
    rw (u8_again 0 u m.0 m.1, file_form.again (path, x) m.0 v fits m.2) refl
record_again (Listing folder) (Paths paths) u v fits p =
    let m = Passes-between u v (spell_u8 1) (spell_text folder ++ spell_list spell_text paths) p in
    rw (u8_again 1 u m.0 m.1, listing_form.again (folder, paths) m.0 v fits m.2) refl
record_again (Listing folder) Absent u v fits p = absurd fits.1
record_again (Listing folder) (Bytes bytes) u v fits p = absurd fits.1
record_again (Listing folder) (TooLarge size) u v fits p = absurd fits.1

pub record_form : IsForm spell_record IsRecord read_record
unfolding spell_record read_record
record_form = record {
  takes = λ x u v fits e.
      let a = then_some (result_ok (read_u8 u)) (λ tag. record_after tag.0 tag.1) (x, v) e in
      let t = u8_takes a.0.0 u a.0.1 fits (ok_some (read_u8 u) a.0 a.1) in
      record_takes a.0.0 u a.0.1 (x, v) (AreBytes-rest u a.0.1 (spell_u8 a.0.0) fits t.0) t.0 a.2;
  again = λ x u v fits p. record_again x.question x.answer u v fits p;
}

-- ---- the index

sub_form : IsForm (λ (x : Sub). spell_sub x.0 x.1.0 x.1.1.0) (λ x. IsText x.0 × (IsListOf IsText x.1.0 × (IsListOf IsRow x.1.1.0 × Unit {0}))) read_sub
unfolding spell_sub read_sub
sub_form = after_form (sign_u64 1 (lit< tt)) (both_form str_form (after_form (sign_u8 1) (both_form (list_form str_form) (both_form (list_form row_form) (after_form (sign_u64 0 (lit< tt)) nothing_form)))))

record FitContents (c : Contents) : Type 0 where
  pub index : HasParts c.index
  pub rows : IsListOf IsRow c.rows

contents_form : IsForm (λ (c : Contents). spell_with_rows c.rows c.index) FitContents read_contents
unfolding spell_with_rows read_contents
contents_form = seen_form contents_of
    (λ c. (c.index.key, (c.index.records, (c.index.needs, ((c.index.sub, (c.index.imports, (c.rows, tt))), (c.index.diags, (c.index.declarations, tt))))))) FitContents (λ x. refl) (λ c. refl)
    (λ x h. record {
      index = record { key = h.0; records = h.1.0; needs = h.1.1.0; sub = h.1.1.1.0.0; imports = h.1.1.1.0.1.0; diags = h.1.1.1.1.0; declarations = h.1.1.1.1.1.0 };
      rows = h.1.1.1.0.1.1.0;
    })
    (λ c h. (h.index.key, (h.index.records, (h.index.needs, ((h.index.sub, (h.index.imports, (h.rows, tt))), (h.index.diags, (h.index.declarations, tt)))))))
    (both_form key_form (both_form (list_form record_form) (both_form (list_form str_form) (both_form sub_form (both_form (list_form diag_form) (both_form (list_form piece_form) nothing_form))))))

rows_fit : (number : ℕ) (ds : List Declaration) → number + length ds ≤ 2 ^ 64 → AllByRecursion IsDeclaration ds → AllByRecursion IsRow (rows_from number ds)
rows_fit number [] le fits = tt
rows_fit number (d ∷ ds) le fits = (record { name = fits.0.name; number = omega arith }, rows_fit (number + 1) ds (omega arith) fits.1)

-- the bytes that are read as contents whose rows belong to them are those of the index
pub index_takes : (bytes : List ℕ) (c : Contents) (v : Unread) → AreBytes bytes → read_contents (record { at = 0; rest = bytes }) ≡ Some (c, v) → length v.rest ≡ 0 →
    c.rows ≡ rows_from 1 c.index.declarations → (bytes ≡ spell_index c.index) × HasParts c.index
unfolding spell_index
index_takes bytes c v fits e none rows =
    let t = contents_form.takes c (record { at = 0; rest = bytes }) v fits e in
    let empty : v.rest ≡ [] = no_rest v.rest none in
    let whole : bytes ≡ spell_with_rows c.rows c.index = t.0.parts ∙ rw (empty, append-nil) refl in
    (subst (λ (rs : List Row). bytes ≡ spell_with_rows rs c.index) rows whole, t.1.index)
  where
    no_rest : (xs : List ℕ) → length xs ≡ 0 → xs ≡ []
    no_rest [] e = refl
    no_rest (x ∷ xs) e = absurd (omega (arith, e))

-- the bytes of an index are read as it, with its rows, and nothing is left
pub index_again : (bytes : List ℕ) (i : Index) → HasParts i → bytes ≡ spell_index i →
    read_contents (record { at = 0; rest = bytes }) ≡ Some (record { index = i; rows = rows_from 1 i.declarations }, record { at = length bytes; rest = [] })
unfolding spell_index
index_again bytes i parts e =
    let c : Contents = record { index = i; rows = rows_from 1 i.declarations } in
    let small : length i.declarations < 2 ^ 64 = parts.declarations.0 in
    let rows : IsListOf IsRow c.rows = (rw rows_len small, rows_fit 1 i.declarations (omega arith) parts.declarations.1) in
    let u : Unread = record { at = 0; rest = bytes } in
    let v : Unread = record { at = length bytes; rest = [] } in
    let p : Passes u bytes v = record { parts = sym (append-nil bytes); place = omega arith } in
    let q : Passes u (spell_with_rows c.rows i) v = subst (λ (s : List ℕ). Passes u s v) e p in
    contents_form.again c u v (record { index = parts; rows = rows }) q
