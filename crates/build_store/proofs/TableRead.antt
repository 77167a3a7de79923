-- What reading the maps of a job comes to, map by map.
use Rattle.std.proofs.Common.{◌≡◌, ℕ, ◌+◌, Bool, true, false, if◌then◌else◌, List, [], ◌∷◌, ◌++◌, drop, slice_get, Some, Ok, Err, sym, ap, subst, ◌∙◌}
use Rattle.cm_outside.specs.Asks.{Asks, Done, Ask, Agrees, value, value-then_ask}
use Rattle.cm_outside.specs.Keeping.{Grew, answered}
use Rattle.cm_outside.specs.declared.question.Question.{Question}
use Rattle.cm_outside.specs.declared.question.Question.TheVariants.{Read}
use Rattle.cm_outside.specs.declared.question.Answer.{Answer}
use Rattle.cm_outside.specs.declared.question.Record.{Record}
use Rattle.build_store.specs.Jobs.{job_of}
use Rattle.build_store.specs.Tables.{is_read, load_job, load_of, map_of, read_maps, settled, table_of}
use Rattle.build_store.specs.Steps.{Comes}
use Rattle.build_store.specs.declared.job.Job.{Job}
use Rattle.build_store.specs.declared.loading.Loaded.TheVariants.{Bad, Ready}
use Rattle.build_store.specs.declared.map_read.MapRead.{MapRead}
use Rattle.build_store.specs.declared.table.Table.{Table}
use Rattle.build_store.proofs.SearchSteps.{comes_asked, comes_bound, comes_nowhere, comes_past}

-- a map that was read is passed over
pub map_passed : (kept : List Record) (numbers : List ℕ) (read : List MapRead) (map : List ℕ) (maps : List (List ℕ)) → true ≡ is_read map read
    → Comes kept numbers numbers (read_maps read (map ∷ maps)) (read_maps read maps)
map_passed kept numbers read map maps is =
    let next : Asks (List MapRead) = Ask (Read map) (λ a. read_maps (read ++ map_of read map a ∷ []) maps) in
    let P : Bool → Type 0 = λ b. Comes kept numbers numbers (if b then read_maps read maps else next) (read_maps read maps) in
    subst P is (comes_nowhere kept numbers (read_maps read maps))

-- another map is asked for
pub map_asked : (kept : List Record) (before now : List ℕ) (read new : List MapRead) (map : List ℕ) (maps : List (List ℕ)) (at : ℕ) (r : Record) (m : MapRead)
    → slice_get kept at ≡ Some r → ((f : Question → Answer) → Agrees f kept → slice_get kept at ≡ Some (answered (Read map) (f (Read map))))
    → now ≡ before ++ at ∷ [] → false ≡ is_read map read → m ≡ map_of read map r.answer → new ≡ read ++ m ∷ []
    → Comes kept before now (read_maps read (map ∷ maps)) (read_maps new maps)
map_asked kept before now read new map maps at r m there fixed put other made is =
    let more : Answer → Asks (List MapRead) = λ a. read_maps (read ++ map_of read map a ∷ []) maps in
    let next : Asks (List MapRead) = Ask (Read map) more in
    let one : Comes kept before (before ++ at ∷ []) next (more r.answer) = comes_asked kept before (Read map) more at r there fixed in
    let all : read ++ map_of read map r.answer ∷ [] ≡ new = ap (λ (x : MapRead). read ++ x ∷ []) (sym made) ∙ sym is in
    let P : Bool → Type 0 = λ b. Comes kept before (before ++ at ∷ []) (if b then read_maps read maps else next) (more r.answer) in
    let Q : List ℕ → Type 0 = λ n. Comes kept before n (read_maps read (map ∷ maps)) (more r.answer) in
    let R : List MapRead → Type 0 = λ ms. Comes kept before now (read_maps read (map ∷ maps)) (read_maps ms maps) in
    subst R all (subst Q (sym put) (subst P other one))

-- one map of several was read
pub map_past : (mid new : List Record) (n0 n1 n2 : List ℕ) (maps : List (List ℕ)) (i : ℕ) (map : List ℕ) (read now : List MapRead)
    → Grew mid new → ((f : Question → Answer) → Agrees f new → Agrees f mid) → slice_get maps i ≡ Some map
    → Comes mid n0 n1 (read_maps [] maps) (read_maps read (drop i maps))
    → ((more : List (List ℕ)) → Comes new n1 n2 (read_maps read (map ∷ more)) (read_maps now more))
    → Comes new n0 n2 (read_maps [] maps) (read_maps now (drop (i + 1) maps))
map_past mid new n0 n1 n2 maps i map read now grew back there a b =
    comes_past mid new n0 n1 n2 (read_maps [] maps) (read_maps now (drop (i + 1) maps)) (read_maps read) maps i map grew back there a (b (drop (i + 1) maps))

-- the maps that were read make the table
pub table_made : (kept : List Record) (before now : List ℕ) (maps : List (List ℕ)) (read : List MapRead) (table : Table)
    → Comes kept before now (read_maps [] maps) (Done read) → table ≡ settled read → Comes kept before now (table_of maps) (Done table)
unfolding table_of
table_made kept before now maps read table came is =
    let P : Table → Type 0 = λ t. Comes kept before now (table_of maps) (Done t) in
    subst P (sym is) (comes_bound kept before now (read_maps [] maps) (Done read) (λ all. Done (settled all)) came)

-- ---- a job

job_answer : (path : List ℕ) (kept : List Record) (at : ℕ) (r : Record) (f : Question → Answer)
    → slice_get kept at ≡ Some r → slice_get kept at ≡ Some (answered (Read path) (f (Read path))) → r.answer ≡ f (Read path)
job_answer path kept at r f there fixed =
    let both : Some r ≡ Some (answered (Read path) (f (Read path))) = sym there ∙ fixed in
    let same : r ≡ answered (Read path) (f (Read path)) = cc in
    ap (λ (s : Record). s.answer) same

pub job_bad : (path : List ℕ) (kept : List Record) (at : ℕ) (r : Record) (n : ℕ) (f : Question → Answer)
    → slice_get kept at ≡ Some r → slice_get kept at ≡ Some (answered (Read path) (f (Read path))) → job_of r.answer ≡ Err n → Bad n ≡ value (load_of path) f
unfolding load_of
job_bad path kept at r n f there fixed bad =
    let answer : job_of (f (Read path)) ≡ Err n = ap job_of (sym (job_answer path kept at r f there fixed)) ∙ bad in
    ap (λ j. value (load_job j) f) (sym answer)

pub job_ready : (path : List ℕ) (kept : List Record) (at : ℕ) (r : Record) (job : Job) (table : Table) (f : Question → Answer)
    → slice_get kept at ≡ Some r → slice_get kept at ≡ Some (answered (Read path) (f (Read path))) → job_of r.answer ≡ Ok job → value (table_of job.maps) f ≡ table
    → Ready job table ≡ value (load_of path) f
unfolding load_of
job_ready path kept at r job table f there fixed good is =
    let answer : job_of (f (Read path)) ≡ Ok job = ap job_of (sym (job_answer path kept at r f there fixed)) ∙ good in
    let whole : value (load_job (Ok job)) f ≡ Ready job (value (table_of job.maps) f) = value-then_ask (table_of job.maps) (λ t. Done (Ready job t)) f in
    ap (λ t. Ready job t) (sym is) ∙ sym whole ∙ ap (λ j. value (load_job j) f) (sym answer)
