-- The coordinates of a line in its place, as the program has it, and as the definitions do.
use Rattle.std.specs.Prelude.{◌≡◌, ℕ, ◌+◌, ◌<◌, ◌≤◌, true, false, length, take}
use Rattle.sg_plan.specs.Ballots.{ballots_of, ballot_has, candidates_of, entries_of}
use Rattle.sg_plan.specs.declared.plan.Plan.{Plan}
use Rattle.sg_grammar.specs.Placed.{Placed}
use Rattle.sg_grammar.specs.Placed.Placed.{OfPlan, CodeCommitAt, RowCommitAt, SealAt, Begun, CodeAt, OverAt, PaperAt, FlagsAt, PlacesAt, TotalAt, DrawnFull, DrawnPublic, RowAt, Disputed}
use Rattle.sg_grammar.specs.declared.placed.PlacedLine.{PlacedLine}
use Rattle.sg_grammar.specs.declared.placed.PlacedLine.TheVariants as line

-- the line in its place that a line of the program is
abbrev pub placed : PlacedLine → Placed
placed (line.CodeCommit race entry digest) = CodeCommitAt race entry digest
placed (line.RowCommit race instance row left right) = RowCommitAt race instance row left right
placed (line.Seal number digest) = SealAt number digest
placed (line.Begun ballot) = Begun ballot
placed (line.Code block ballot race column code) = CodeAt block ballot race column code
placed (line.Over ballot race) = OverAt ballot race
placed (line.Paper ballot race list count) = PaperAt ballot race (take count list)
placed (line.Flags race instance from bits) = FlagsAt race instance from bits.now
placed (line.Places race from bits) = PlacesAt race from bits.now
placed (line.Total race candidate count) = TotalAt race candidate count
placed line.DrawFull = DrawnFull
placed (line.DrawPublic digits) = DrawnPublic digits.now
placed (line.Row race instance row opening) = RowAt race instance row opening
placed (line.Dispute ballot race code word) = Disputed ballot race code word

-- the ballot is of the plan, and has the race
abbrev pub IsRaceOf : Plan → ℕ → ℕ → Type 0
IsRaceOf plan ballot race = (race < length plan.races) × (1 ≤ ballot) × (ballot ≤ ballots_of plan) × (ballot_has plan ballot race ≡ true)

-- the ballot has none of the races from this one to before the other
pub record LacksRaces (plan : Plan) (ballot from to : ℕ) : Type 0 where
  pub none : (race : ℕ) → from ≤ race → race < to → ballot_has plan ballot race ≡ false

-- the coordinates of a line in its place are of the plan
abbrev pub IsPlacedIn : Plan → Placed → Type 0
IsPlacedIn plan (OfPlan said) = Unit {0}
IsPlacedIn plan (CodeCommitAt race entry digest) = (race < length plan.races) × (entry < entries_of plan race)
IsPlacedIn plan (RowCommitAt race instance row left right) = (race < length plan.races) × (instance < plan.instances) × (row < entries_of plan race)
IsPlacedIn plan (SealAt number digest) = Unit {0}
IsPlacedIn plan (Begun ballot) = (1 ≤ ballot) × (ballot ≤ ballots_of plan)
IsPlacedIn plan (CodeAt block ballot race column code) = (race < length plan.races) × (1 ≤ ballot) × (ballot ≤ ballots_of plan) × (ballot_has plan ballot race ≡ true) × (column < candidates_of plan race)
IsPlacedIn plan (OverAt ballot race) = IsRaceOf plan ballot race
IsPlacedIn plan (PaperAt ballot race list) = (race < length plan.races) × (1 ≤ ballot) × (ballot ≤ ballots_of plan) × (ballot_has plan ballot race ≡ true) × (length list ≡ candidates_of plan race)
IsPlacedIn plan (FlagsAt race instance from bits) = (race < length plan.races) × (instance < plan.instances) × (from + length bits ≤ entries_of plan race)
IsPlacedIn plan (PlacesAt race from bits) = (race < length plan.races) × (from + length bits ≤ entries_of plan race)
IsPlacedIn plan (TotalAt race candidate count) = (race < length plan.races) × (candidate < candidates_of plan race)
IsPlacedIn plan DrawnFull = Unit {0}
IsPlacedIn plan (DrawnPublic digits) = Unit {0}
IsPlacedIn plan (RowAt race instance row opening) = (race < length plan.races) × (instance < plan.instances) × (row < entries_of plan race)
IsPlacedIn plan (Disputed ballot race code word) = IsRaceOf plan ballot race
