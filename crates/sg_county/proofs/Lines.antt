-- A line that a tally is given.
use Rattle.std.proofs.Common.{◌≡◌, ℕ, Bool, true, false, List, [], ◌∷◌, ◌++◌, Result, Ok, Err, OnOk, IfOk, sym, ◌∙◌}
use Rattle.sg_county.specs.County.{is_next}
use Rattle.sg_county.specs.Tally.{Says, StandsFor}
use Rattle.sg_county.specs.declared.tally.Tally.{Tally}
use Rattle.sg_judge.specs.declared.pass.Step.{Step}

-- a tally is over or open
pub never_both : (P : Type 0) (b : Bool) → b ≡ true → b ≡ false → P
never_both P b still over = absurd (let both : true ≡ false = sym still ∙ over in let none : ⊥ = cc in none)

-- what is said of each line `next` is said of this one
pub adds_next : {E : Type 0} (tally new : Tally) (line : List ℕ) (result : Result Step E) → is_next line ≡ true
    → OnOk result ((lines : List (List ℕ)) (line : List ℕ) → is_next line ≡ true → StandsFor tally lines → StandsFor new (lines ++ line ∷ []))
    → OnOk result ((lines : List (List ℕ)) → StandsFor tally lines → StandsFor new (lines ++ line ∷ []))
adds_next tally new line (Ok step) next adds = λ lines stands. adds lines line next stands
adds_next tally new line (Err e) next adds = tt

pub says_next : {E : Type 0} (tally : Tally) (line : List ℕ) (result : Result Step E) → is_next line ≡ true
    → IfOk result (λ step. (lines : List (List ℕ)) (line : List ℕ) → is_next line ≡ true → StandsFor tally lines → Says step (lines ++ line ∷ []))
    → IfOk result (λ step. (lines : List (List ℕ)) → StandsFor tally lines → Says step (lines ++ line ∷ []))
says_next tally line (Ok step) next says = λ lines stands. says lines line next stands
says_next tally line (Err e) next says = tt
