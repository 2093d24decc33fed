-- The lines of the plan: where each may stand, and what it adds to the plan (this project's rules for the record).
use Rattle.std.specs.Prelude.{ℕ, ◌-◌, ◌==◌, nat_lt, nat_le, if◌then◌else◌, Bool, true, false, ◌&&◌, List, [], ◌∷◌, ◌++◌, length, Option, Some, None}
use Rattle.sg_plan.specs.Ballots.{r_rows}
use Rattle.sg_plan.specs.Limits.{is_version, most_instances, most_races, most_rows, most_styles, race_head_keeps, run_keeps, style_keeps}
use Rattle.sg_plan.specs.Names.{is_name_word, is_within, name_keeps}
use Rattle.sg_plan.specs.declared.plan.Plan.{Plan}
use Rattle.sg_plan.specs.declared.plan.Race.{Race as PlanRace}
use Rattle.sg_forms.specs.Said.{Said}
use Rattle.sg_forms.specs.Said.Said.{Version, Election, Instances, Race, Cand, Style, Ballots}
use Rattle.sg_grammar.specs.declared.state.Head.{Head}
use Rattle.sg_grammar.specs.declared.state.Head.TheVariants as head

-- the plan so far, and which of its lines stand
pub record Making : Type 0 where
  pub plan : Plan
  pub head : Head

abbrev pub made : Plan → Head → Making
made plan stage = record { plan = plan; head = stage }

-- the value, where the test is passed
abbrev pub if_then : {A : Type 0} → Bool → A → Option A
if_then test value = (if test then Some value else None)

-- the plan of no lines
abbrev pub no_plan : Plan
no_plan = record { version = 0; name = []; instances = 0; races = []; styles = []; runs = [] }

-- WHAT EACH LINE ADDS

-- the candidates of the last race
abbrev pub last_candidates : List PlanRace → List (List ℕ)
last_candidates [] = []
last_candidates (race ∷ []) = race.candidates
last_candidates (race ∷ next ∷ races) = last_candidates (next ∷ races)

-- the races, with one more candidate in the last one
abbrev pub with_candidate : List PlanRace → List ℕ → List PlanRace
with_candidate [] name = []
with_candidate (race ∷ []) name = record race { candidates = race.candidates ++ name ∷ [] } ∷ []
with_candidate (race ∷ next ∷ races) name = race ∷ with_candidate (next ∷ races) name

abbrev pub with_version : Plan → ℕ → Plan
with_version plan version = record plan { version = version }

abbrev pub with_name : Plan → List ℕ → Plan
with_name plan name = record plan { name = name }

abbrev pub with_instances : Plan → ℕ → Plan
with_instances plan instances = record plan { instances = instances }

-- one more race, without candidates yet
abbrev pub with_race : Plan → List ℕ → ℕ → Plan
with_race plan name votes = record plan { races = plan.races ++ record { name = name; candidates = []; votes = votes } ∷ [] }

-- one more candidate of the last race
abbrev pub with_cand : Plan → List ℕ → Plan
with_cand plan name = record plan { races = with_candidate plan.races name }

abbrev pub with_style : Plan → List ℕ → List ℕ → Plan
with_style plan name races = record plan { styles = plan.styles ++ record { name = name; races = races } ∷ [] }

abbrev pub with_run : Plan → ℕ → ℕ → Plan
with_run plan style count = record plan { runs = plan.runs ++ record { style = style; count = count } ∷ [] }

-- WHERE EACH LINE MAY STAND

-- a style, behind which a style or a run may come
abbrev pub take_style : Plan → Said → Option Making
take_style plan (Style name races) = if_then (nat_lt (length plan.styles) most_styles && style_keeps (length plan.races) plan.styles (record { name = name; races = races })) (made (with_style plan name races) head.Styles)
take_style plan said = None

-- behind a candidate, so many of which were due
abbrev pub behind_candidate : ℕ → Head
behind_candidate left = (if left == 1 then head.Races else head.Candidates (left - 1))

-- a run, with which there are at most 200,000 rows of table R
abbrev pub take_run : Plan → Said → Option Making
take_run plan (Ballots style count) = if_then (run_keeps (length plan.styles) plan.runs (record { style = style; count = count }) && nat_le (r_rows (with_run plan style count)) most_rows) (made (with_run plan style count) head.Runs)
take_run plan said = None

-- the plan with the line, where it may stand behind the plan's lines so far: behind a race its candidates are due, and the
-- first style may come where there is a race; behind a style a further one may come, or the first run
abbrev pub head_line : Plan → Head → Said → Option Making
head_line plan head.Version (Version version) = if_then (is_version version) (made (with_version plan version) head.Election)
head_line plan head.Election (Election name) = if_then (is_name_word name) (made (with_name plan name) head.Instances)
head_line plan head.Instances (Instances instances) = if_then (is_within 1 most_instances instances) (made (with_instances plan instances) head.Races)
head_line plan head.Races (Race name candidates votes) = if_then (nat_lt (length plan.races) most_races && race_head_keeps plan.races name candidates votes) (made (with_race plan name votes) (head.Candidates candidates))
head_line plan head.Races (Style name races) = (if nat_lt 0 (length plan.races) then take_style plan (Style name races) else None)
head_line plan (head.Candidates left) (Cand name) = if_then (name_keeps (last_candidates plan.races) name) (made (with_cand plan name) (behind_candidate left))
head_line plan head.Styles (Style name races) = take_style plan (Style name races)
head_line plan head.Styles said = take_run plan said
head_line plan head.Runs said = take_run plan said
head_line plan stage said = None

-- HOW FAR THE LINES GO

-- a line of ballots stands
abbrev pub has_runs : Head → Bool
has_runs head.Runs = true
has_runs head.Whole = true
has_runs stage = false

-- a line behind those of the plan stands
abbrev pub is_behind : Head → Bool
is_behind head.Whole = true
is_behind stage = false
