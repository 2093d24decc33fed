-- What a pass or a tally says of the lines, in a judge's words.
use Rattle.std.specs.Prelude.{◌≡◌, ℕ, true, false, List}
use Rattle.sg_check.specs.Verdict.{AreFine}
use Rattle.sg_driver.specs.declared.judge.Standing.{Standing}
use Rattle.sg_driver.specs.declared.judge.Standing.TheVariants.{Open, Settled}
use Rattle.sg_judge.specs.Pass.{StandsFor, is_open}
use Rattle.sg_judge.specs.declared.pass.Pass.{Pass}
use Rattle.sg_judge.specs.declared.pass.Step.{Step}
use Rattle.sg_judge.specs.declared.pass.Step.TheVariants.{More, Over, Ready}

abbrev pub standing_of : Step → Standing
standing_of More = Open
standing_of Ready = Open
standing_of Over = Settled

-- a pass has gone over the lines, which are fine; or the last of them is bad
abbrev pub PassGoes : Standing → Pass → List (List ℕ) → Type 0
PassGoes Open pass lines = StandsFor pass lines × (is_open pass ≡ true) × AreFine lines
PassGoes Settled pass lines = StandsFor pass lines × (is_open pass ≡ false)
