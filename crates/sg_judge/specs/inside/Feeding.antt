-- How far a pass has gone in a text.
use Rattle.std.specs.Prelude.{◌≡◌, ℕ, ◌≤◌, false, true, List, ◌++◌, length, drop}
use Rattle.sg_check.specs.Verdict.{IsVerdict}
use Rattle.sg_check.specs.declared.judged.Judged.{Judged}
use Rattle.sg_outside.specs.TextLines.{lines_of}
use Rattle.sg_judge.specs.Pass.{StandsFor, is_open}
use Rattle.sg_judge.specs.declared.pass.Pass.{Pass}

-- the pass has taken the lines before this place, and none of them was bad
pub record IsFed (pass : Pass) (text : List ℕ) (at : ℕ) : Type 0 where
  pub within : at ≤ length text
  pub done : List (List ℕ)
  pub stands : StandsFor pass done
  pub split : done ++ lines_of (drop at text) ≡ lines_of text
  pub unbroken : is_open pass ≡ true

-- what a pass answers at its end
pub record Ends (pass : Pass) (judged : Judged) : Type 0 where
  pub all : (lines : List (List ℕ)) → StandsFor pass lines → IsVerdict lines judged
  pub over : is_open pass ≡ false → (lines more : List (List ℕ)) → StandsFor pass lines → IsVerdict (lines ++ more) judged

-- its answer is the verdict on the text
abbrev pub IsSettled : Pass → List ℕ → Type 0
IsSettled pass text = (judged : Judged) → Ends pass judged → IsVerdict (lines_of text) judged
