-- What an index of a plan's ballots keeps.
use Rattle.std.specs.Prelude.{◌≡◌, ℕ, zero, suc, ◌+◌, if◌then◌else◌, Bool, true, List, [], ◌∷◌, ◌++◌, length, None}
use Rattle.sg_plan.specs.Ballots.{ballot_styles, style_has}
use Rattle.sg_plan.specs.Limits.{fault_of}
use Rattle.sg_plan.specs.Runs.{run_numbers}
use Rattle.sg_plan.specs.declared.plan.Plan.{Plan}
use Rattle.sg_plan.specs.declared.plan.Run.{Run}

-- of each run, how many of the ballots before it are of a style that passes; so many come before the first run
abbrev pub counts_before : (ℕ → Bool) → ℕ → List Run → List ℕ
counts_before has count [] = []
counts_before has count (run ∷ runs) = count ∷ counts_before has (count + (if has run.style then run.count else 0)) runs

-- the same of each of so many races: how many of the ballots before a run have the race
abbrev pub counts_to : Plan → ℕ → List ℕ
counts_to plan zero = []
counts_to plan (suc race) = counts_to plan race ++ counts_before (style_has plan race) 0 plan.runs

-- the ballots of a style that passes, in rising order, where the first ballot has this number
abbrev pub ballots_with : (ℕ → Bool) → ℕ → List ℕ → List ℕ
ballots_with has ballot [] = []
ballots_with has ballot (style ∷ styles) = (if has style then ballot ∷ ballots_with has (ballot + 1) styles else ballots_with has (ballot + 1) styles)

-- of each of so many races, the ballots that have it
abbrev pub ballots_to : Plan → ℕ → List ℕ
ballots_to plan zero = []
ballots_to plan (suc race) = ballots_to plan race ++ ballots_with (style_has plan race) 1 (ballot_styles plan.runs)

-- of each of so many races, where its ballots begin
abbrev pub firsts_to : Plan → ℕ → List ℕ
firsts_to plan zero = []
firsts_to plan (suc race) = firsts_to plan race ++ length (ballots_to plan race) ∷ []

-- the lists of an index are those of the plan, which has no fault
pub record IsIndex (plan : Plan) (numbers starts counts firsts ballots : List ℕ) : Type 0 where
  pub good : fault_of plan ≡ None
  pub numbers_are : numbers ≡ run_numbers 0 plan.runs
  pub starts_are : starts ≡ counts_before (λ style. true) 0 plan.runs
  pub counts_are : counts ≡ counts_to plan (length plan.races)
  pub firsts_are : firsts ≡ firsts_to plan (length plan.races)
  pub ballots_are : ballots ≡ ballots_to plan (length plan.races)
