-- A text that is no UTF-8, the lines of a script, and what they write.
use Rattle.std.proofs.Common.{◌≡◌, ℕ, ◌+◌, ◌<◌, suc, Bool, true, false, List, ◌∷◌, ◌++◌, length, drop, refl, sym, ap, subst, ◌∙◌, append_assoc, arith}
use Rattle.std.specs.Str.{IsUtf8, IsValidUpTo, is_utf8}
use Rattle.std.proofs.lemmas.Str.{IsUtf8-from_is_utf8}
use Rattle.std.proofs.Math.Seq.{drop-cons, take-length}
use Rattle.std.proofs.Math.ListN.{get_or}
use Rattle.cm_outside.specs.Trees.{Files}
use Rattle.job_text.specs.declared.script_line.ScriptLine.{ScriptLine}
use Rattle.driver.specs.Counted.{IsCounted, IsCountedLine}
use Rattle.driver.specs.Replay.{files_after, output_of, output_of_lines}

-- a text is not cut
pub never_cut : (text : List ℕ) (n : ℕ) → IsUtf8 text → IsValidUpTo text n → ⊥
never_cut text n utf8 cut =
    let P : List ℕ → Type 0 = IsUtf8 in
    cut.longest (length text) cut.short (subst P (sym (take-length text)) utf8)

pub cut_is_no_text : (text : List ℕ) (n : ℕ) → IsValidUpTo text n → is_utf8 text ≡ false
cut_is_no_text text n cut = by (is_utf8 text) refl
  where
    by : (b : Bool) → is_utf8 text ≡ b → b ≡ false
    by true is = absurd (never_cut text n (IsUtf8-from_is_utf8 text is) cut)
    by false is = refl

-- the line at a place, and those that follow
pub next_line : (lines : List ScriptLine) (i : ℕ) (line : ScriptLine) → i < length lines → line ≡ get_or lines i line → drop i lines ≡ line ∷ drop (i + 1) lines
next_line lines i line less is =
    let here : drop i lines ≡ get_or lines i line ∷ drop (suc i) lines = drop-cons lines i line less in
    let step : i + 1 ≡ suc i = omega arith in
    here ∙ (λ j. sym is j ∷ drop (sym step j) lines)

-- one line more is written
pub goes_on : (out next : List ℕ) (files after : Files) (line : ScriptLine) (more all : List ScriptLine) (whole : List ℕ)
    → next ≡ out ++ output_of files line → after ≡ files_after files line → all ≡ line ∷ more
    → out ++ output_of_lines files all ≡ whole → next ++ output_of_lines after more ≡ whole
goes_on out next files after line more all whole written sets is so_far =
    ap (λ n. n ++ output_of_lines after more) written
    ∙ append_assoc out (output_of files line) (output_of_lines after more)
    ∙ ap (λ fs. out ++ (output_of files line ++ output_of_lines fs more)) sets
    ∙ ap (λ ls. out ++ output_of_lines files ls) (sym is)
    ∙ so_far

-- ---- what is counted

-- one line more is counted
pub counts_on : (present kept after left : Files) (line : ScriptLine) (more all : List ScriptLine) (before mid : ℕ) (Whole : ℕ → Type 0)
    → after ≡ files_after present line → all ≡ line ∷ more → IsCountedLine present kept line before mid left
    → ((end : ℕ) → IsCounted present kept all before end → Whole end)
    → (end : ℕ) → IsCounted after left more mid end → Whole end
counts_on present kept after left line more all before mid Whole sets is counts so_far end rest =
    let P : Files → Type 0 = λ files. IsCounted files left more mid end in
    let Q : List ScriptLine → Type 0 = λ lines. IsCounted present kept lines before end in
    so_far end (subst Q (sym is) (mid, left, counts, subst P sets rest))
