-- Which run of a plan each of its ballots is of.
use Rattle.std.specs.Prelude.{ℕ, suc, ◌+◌, ◌<◌, ◌≤◌, take, List, [], ◌∷◌, ◌++◌, length, replicate}
use Rattle.sg_plan.specs.Ballots.{ballot_styles}
use Rattle.sg_plan.specs.declared.plan.Run.{Run}

-- of each ballot, the number of its run, where the first run has this number
abbrev pub run_numbers : ℕ → List Run → List ℕ
run_numbers number [] = []
run_numbers number (run ∷ runs) = replicate run.count number ++ run_numbers (number + 1) runs

-- the ballot at a place, counted from 0, is one of the run with this number
pub record IsInRun (runs : List Run) (place number : ℕ) : Type 0 where
  pub within : number < length runs
  pub from : length (ballot_styles (take number runs)) ≤ place
  pub to : place < length (ballot_styles (take (suc number) runs))
