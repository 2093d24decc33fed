-- What a judge says of the lines so far.
use Rattle.std.specs.Prelude.{ℕ, List}
use Rattle.sg_driver.specs.Judging.{Judging}
use Rattle.sg_driver.specs.declared.judge.Standing.{Standing}
use Rattle.sg_driver.specs.declared.judge.Standing.TheVariants.{Open, Settled}

-- it has taken the lines, and they settle nothing; or they settle an answer
abbrev pub Goes : {Answer : Type 0} → Judging Answer → (List (List ℕ) → Type 0) → (List (List ℕ) → Type 0) → Standing → List (List ℕ) → Type 0
Goes judging Stands IsSettled Open lines = Stands lines × judging.Unsettled lines
Goes judging Stands IsSettled Settled lines = IsSettled lines
