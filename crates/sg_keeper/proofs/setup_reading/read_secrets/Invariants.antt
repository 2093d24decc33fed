-- The invariant of the loop of `read_secrets`.
use Rattle.std.proofs.Common.{◌≡◌, ◌++◌, ◌-◌, drop, length}
use Rattle.std.specs.Option.{option_map}
use Rattle.sg_outside.specs.TextLines.{lines_of}
use Rattle.sg_forms.specs.Reading.{all_by}
use Rattle.sg_keeper.specs.inside.SetupReading.{secret_of}
use Rattle.sg_keeper.proofs.setup_reading.read_secrets.Given as goal

abbrev pub invariant-loop-at : goal.invariant-loop-at
invariant-loop-at l =
    option_map (λ others. l.secrets ++ others) (all_by secret_of (lines_of (drop l.at l.text))) ≡ all_by secret_of (lines_of (drop l.fn.start l.text))

abbrev pub decreases-loop-at : goal.decreases-loop-at
decreases-loop-at l = length l.text - l.at
