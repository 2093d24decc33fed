-- How a pass goes over the lines of a text.
use Rattle.std.proofs.Common.{◌≡◌, ℕ, ◌≤◌, true, List, [], ◌∷◌, ◌++◌, length, drop, sym, subst, ap, ◌∙◌, append_assoc}
use Rattle.sg_outside.specs.TextLines.{lines_of}
use Rattle.sg_check.specs.Verdict.{IsVerdict}
use Rattle.sg_check.specs.declared.judged.Judged.{Judged}
use Rattle.sg_judge.specs.Pass.{StandsFor, is_open}
use Rattle.sg_judge.specs.declared.pass.Pass.{Pass}
use Rattle.sg_judge.specs.inside.Feeding.{IsFed}

-- the first lines, one more, and the others
split_more : (done : List (List ℕ)) (line : List ℕ) (others all : List (List ℕ)) → done ++ (line ∷ others) ≡ all → (done ++ line ∷ []) ++ others ≡ all
split_more done line others all split = append_assoc done (line ∷ []) others ∙ split

-- one more line was taken
pub fed_more : (pass next : Pass) (text line : List ℕ) (at end : ℕ) → (fed : IsFed pass text at) → lines_of (drop at text) ≡ line ∷ lines_of (drop end text) → end ≤ length text
    → StandsFor next (fed.done ++ line ∷ []) → is_open next ≡ true → IsFed next text end
fed_more pass next text line at end fed cut within stands unbroken = record {
  within = within;
  done = fed.done ++ line ∷ [];
  stands = stands;
  split = split_more fed.done line (lines_of (drop end text)) (lines_of text) (ap (λ (l : List (List ℕ)). fed.done ++ l) (sym cut) ∙ fed.split);
  unbroken = unbroken;
}

-- one more line was bad
pub fed_over : (pass next : Pass) (text line : List ℕ) (at end : ℕ) (found : Judged) → (fed : IsFed pass text at) → lines_of (drop at text) ≡ line ∷ lines_of (drop end text)
    → ((more : List (List ℕ)) → IsVerdict ((fed.done ++ line ∷ []) ++ more) found) → IsVerdict (lines_of text) found
fed_over pass next text line at end found fed cut over =
    subst (λ (lines : List (List ℕ)). IsVerdict lines found)
    (split_more fed.done line (lines_of (drop end text)) (lines_of text) (ap (λ (l : List (List ℕ)). fed.done ++ l) (sym cut) ∙ fed.split))
    (over (lines_of (drop end text)))
