-- How far an input is read for a verdict.
use Rattle.std.proofs.Common.{◌≡◌, ℕ, zero, suc, ◌+◌, ◌<◌, ◌≤◌, inl, inr, List, [], ◌∷◌, ◌++◌, length, take, Some, None, sym, subst, ap, ◌∙◌, append_assoc, length-append, arith}
use Rattle.std.proofs.lemmas.Bool.{cases_lt}
use Rattle.std.proofs.lemmas.List.{take-append-le}
use Rattle.std.proofs.lemmas.Option.{none-some}
use Rattle.std.specs.Prelude.{IfSome, Option}
use Rattle.std.specs.List.{concat}
use Rattle.std.specs.Io.KnownBytes.{Consumes}
use Rattle.sg_outside.specs.TextLines.{AreLines, lines_of}
use Rattle.sg_outside.proofs.LineLemmas.{lines_of-lines}
use Rattle.sg_check.specs.Verdict.{AreFine, IsVerdict, least_broken}
use Rattle.sg_check.specs.declared.judged.Judged.TheVariants.{No}
use Rattle.sg_check.specs.declared.judged.Kind.{Kind}
use Rattle.sg_driver.specs.Taken.{TookOneMore, TookUpTo}

-- a no on fine lines and others names a line behind the fine ones
number-behind : (done more : List (List ℕ)) (number : ℕ) (broken : Kind) → AreFine done → IsVerdict (done ++ more) (No number broken) → length done < number
number-behind done more number broken fine (inl bad) =
    elim (cases_lt (length done) number) [
      | inl behind ↦ behind
      | inr within ↦ absurd (none-some broken (sym (ap least_broken (take-append-le number done more within) ∙ fine number) ∙ bad.broken))
    ]
number-behind done more number broken fine (inr cut) = omega (arith, cut.one_more, length-append done more)

-- more lines have no fewer bytes
bytes-rise : (lines : List (List ℕ)) (few number : ℕ) → few ≤ number → length (concat (take few lines)) ≤ length (concat (take number lines))
bytes-rise lines zero number within = omega arith
bytes-rise lines (suc few) zero within = absurd (omega (arith, within))
bytes-rise [] (suc few) (suc number) within = omega arith
bytes-rise (x ∷ xs) (suc few) (suc number) within =
    let ih = bytes-rise xs few number (omega (arith, within)) in
    omega (arith, ih, length-append x (concat (take few xs)), length-append x (concat (take number xs)))

-- the lines that were taken are the first of all
taken-first : (bytes : List ℕ) (now : Option (List ℕ)) (done : List (List ℕ)) (rest : List ℕ) → AreLines done → Consumes (Some bytes) now (concat done ++ rest)
    → (more : List (List ℕ)) × (lines_of bytes ≡ done ++ more)
taken-first bytes None done rest whole taken = absurd taken
taken-first bytes (Some left) done rest whole taken =
    (lines_of (rest ++ left), ap lines_of (taken ∙ append_assoc (concat done) rest left) ∙ lines_of-lines done (rest ++ left) whole)

-- a no took little behind the line that it names
pub no-read : (known now : Option (List ℕ)) (number : ℕ) (broken : Kind) → IfSome known (λ bytes. IsVerdict (lines_of bytes) (No number broken)) → TookOneMore AreFine known now → TookUpTo number known now
no-read None now number broken judged took = record { front = took.up_to.front; taken = tt; few = tt }
no-read (Some bytes) now number broken judged took =
    let done = took.took.done in
    let first = taken-first bytes now done took.took.rest took.took.lines took.took.taken in
    let behind = number-behind done first.0 number broken took.took.are (subst (λ (lines : List (List ℕ)). IsVerdict lines (No number broken)) first.1 judged) in
    let rise = bytes-rise (lines_of bytes) (length done + 1) number (omega (arith, behind)) in
    record { front = took.up_to.front; taken = took.up_to.taken; few = omega (arith, took.up_to.few, rise) }
