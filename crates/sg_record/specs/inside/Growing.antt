-- What the program keeps of the lines of a record while they come: the lists, apart from the plan.
use Rattle.std.specs.Prelude.{◌≡◌, IsSome, Option, Some, None}
use Rattle.sg_plan.specs.declared.plan.Plan.{Plan}
use Rattle.sg_forms.specs.Said.{Said}
use Rattle.sg_grammar.specs.Placed.{Placed}
use Rattle.sg_grammar.specs.Placed.Placed.{CodeCommitAt, FlagsAt, PlacesAt, RowAt, RowCommitAt, TotalAt}
use Rattle.sg_record.specs.inside.Gathering.{Gathered, added, blank, with_cast, with_code, with_paper}
use Rattle.sg_record.specs.Tree.{cast_at}
use Rattle.sg_record.specs.declared.last.Addition.{Addition}
use Rattle.sg_record.specs.declared.last.Addition.TheVariants as addition
use Rattle.sg_record.specs.declared.lists.Lists.{Lists}
use Rattle.sg_record.specs.declared.read.Reading.{Reading}
use Rattle.sg_record.specs.declared.record.BlockFate.{BlockFate}
use Rattle.sg_record.specs.declared.record.Record.{Record}

-- how a line's addition changes what the last block says
abbrev pub change_of : Addition → BlockFate → BlockFate
change_of (addition.Cast line) = with_cast line
change_of (addition.Code code) = with_code code
change_of (addition.Paper codes) = with_paper codes.now

-- the record of a plan and these lists
abbrev pub with_plan : Plan → Lists → Record
with_plan plan lists = record {
  plan = plan;
  code_commits = lists.code_commits;
  row_commits = lists.row_commits;
  seals = lists.seals;
  ballots = lists.ballots;
  flags = lists.flags;
  places = lists.places;
  totals = lists.totals;
  draw = lists.draw;
  rows = lists.rows;
  disputes = lists.disputes;
}

-- the lists have grown by this line behind the plan
abbrev pub Adds : Lists → Lists → Placed → Said → Type 0
Adds old new placed said = (plan : Plan) → with_plan plan new ≡ added plan (with_plan plan old) placed said

-- the line stands in the list of a race, or of one of its instances, or in the block of a cast ballot
abbrev pub IsOfRace : Placed → Type 0
IsOfRace (CodeCommitAt race entry digest) = Unit {0}
IsOfRace (RowCommitAt race instance row left right) = Unit {0}
IsOfRace (FlagsAt race instance from bits) = Unit {0}
IsOfRace (PlacesAt race from bits) = Unit {0}
IsOfRace (TotalAt race candidate count) = Unit {0}
IsOfRace (RowAt race instance row opening) = Unit {0}
IsOfRace placed = IsSome (cast_at placed)

-- the record so far: no line behind the plan stands where there are no lists
abbrev pub made_of : Plan → Option Lists → Record
made_of plan None = blank plan
made_of plan (Some lists) = with_plan plan lists

-- the record has grown by this line behind the plan
abbrev pub AddsTo : Plan → Option Lists → Option Lists → Placed → Said → Type 0
AddsTo plan old new placed said = made_of plan new ≡ added plan (made_of plan old) placed said

-- what may stand next, and the record so far
abbrev pub so_far : Reading → Gathered
so_far reading = record { next = reading.expect; made = made_of reading.expect.plan reading.lists }
