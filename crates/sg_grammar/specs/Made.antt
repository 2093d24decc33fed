-- What holds of a plan in the making, by which of its lines stand (this project's rules for the record).
use Rattle.std.specs.Prelude.{◌≡◌, ℕ, ◌+◌, ◌<◌, ◌≤◌, Bool, true, false, ◌&&◌, List, [], ◌∷◌, ◌++◌, length}
use Rattle.sg_plan.specs.Ballots.{ballots_of, candidates_of, entries_of, r_rows}
use Rattle.sg_plan.specs.Limits.{each_keeps, is_version, most_ballots, most_candidates, most_instances, most_races, most_rows, most_styles, race_head_keeps, race_keeps, run_keeps, style_keeps}
use Rattle.sg_plan.specs.Names.{is_name_word, is_within, name_keeps}
use Rattle.sg_plan.specs.declared.plan.Plan.{Plan}
use Rattle.sg_plan.specs.declared.plan.Race.{Race}
use Rattle.sg_grammar.specs.declared.state.Head.{Head}
use Rattle.sg_grammar.specs.declared.state.Head.TheVariants as head

-- the races keep their limits, but that so many candidates of the last one are due
abbrev pub races_keep_but : ℕ → List Race → List Race → Bool
races_keep_but left earlier [] = false
races_keep_but left earlier (race ∷ []) = race_head_keeps earlier race.name (length race.candidates + left) race.votes && each_keeps name_keeps [] race.candidates
races_keep_but left earlier (race ∷ next ∷ races) = race_keeps earlier race && races_keep_but left (earlier ++ race ∷ []) (next ∷ races)

-- the version, the name and the number of instances stand
pub record HasFront (plan : Plan) : Type 0 where
  pub version : is_version plan.version ≡ true
  pub name : is_name_word plan.name ≡ true
  pub instances : is_within 1 most_instances plan.instances ≡ true

-- all candidates of each race stand
pub record HasRaces (plan : Plan) : Type 0 where
  pub most : length plan.races ≤ most_races
  pub keep : each_keeps race_keeps [] plan.races ≡ true

-- so many candidates of the last race are due
pub record HasRacesBut (left : ℕ) (plan : Plan) : Type 0 where
  pub some : 1 ≤ left
  pub most : length plan.races ≤ most_races
  pub keep : races_keep_but left [] plan.races ≡ true

-- one style or more stands
pub record HasStyles (plan : Plan) : Type 0 where
  pub one_race : 1 ≤ length plan.races
  pub one : 1 ≤ length plan.styles
  pub most : length plan.styles ≤ most_styles
  pub keep : each_keeps (style_keeps (length plan.races)) [] plan.styles ≡ true

-- one run or more stands
pub record HasRuns (plan : Plan) : Type 0 where
  pub one : 1 ≤ length plan.runs
  pub keep : each_keeps (run_keeps (length plan.styles)) [] plan.runs ≡ true
  pub rows : r_rows plan ≤ most_rows

-- no line behind the races stands
pub record HasNoStyles (plan : Plan) : Type 0 where
  pub styles : plan.styles ≡ []
  pub runs : plan.runs ≡ []

-- no line behind the number of instances stands
pub record HasNoRaces (plan : Plan) : Type 0 where
  pub races : plan.races ≡ []
  pub behind : HasNoStyles plan

-- all that is wanted of a plan stands
pub record IsComplete (plan : Plan) : Type 0 where
  pub front : HasFront plan
  pub races : HasRaces plan
  pub styles : HasStyles plan
  pub runs : HasRuns plan

-- what stands where such a line may come next
abbrev pub HasStage : Plan → Head → Type 0
HasStage plan head.Version = HasNoRaces plan
HasStage plan head.Election = (is_version plan.version ≡ true) × HasNoRaces plan
HasStage plan head.Instances = (is_version plan.version ≡ true) × (is_name_word plan.name ≡ true) × HasNoRaces plan
HasStage plan head.Races = HasFront plan × HasRaces plan × HasNoStyles plan
HasStage plan (head.Candidates left) = HasFront plan × HasRacesBut left plan × HasNoStyles plan
HasStage plan head.Styles = HasFront plan × HasRaces plan × HasStyles plan × (plan.runs ≡ [])
HasStage plan head.Runs = IsComplete plan
HasStage plan head.Whole = IsComplete plan

-- what holds of a plan in the making
pub record IsMade (plan : Plan) (stage : Head) : Type 0 where
  pub stands : HasStage plan stage

-- THE SIZES OF A PLAN WHOSE RUNS STAND, in plain form

pub record HasSizes (plan : Plan) : Type 0 where
  pub one_race : 1 ≤ length plan.races
  pub most_races : length plan.races ≤ most_races
  pub one_instance : 1 ≤ plan.instances
  pub most_instances : plan.instances ≤ most_instances
  pub two_candidates : (race : ℕ) → race < length plan.races → 2 ≤ candidates_of plan race
  pub most_candidates : (race : ℕ) → candidates_of plan race ≤ most_candidates
  pub most_ballots : ballots_of plan ≤ most_ballots
  pub most_entries : (race : ℕ) → entries_of plan race ≤ most_rows
  pub most_rows : r_rows plan ≤ most_rows

-- the same of a plan that may still get runs, as far as it goes
pub record IsSmall (plan : Plan) : Type 0 where
  pub most_races : length plan.races ≤ most_races
  pub most_instances : plan.instances ≤ most_instances
  pub most_candidates : (race : ℕ) → candidates_of plan race ≤ most_candidates
  pub most_ballots : ballots_of plan ≤ most_ballots
