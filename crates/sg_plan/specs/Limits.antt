-- The limits of a plan, and what is at fault in one that does not keep them (this project's rules for the record).
-- Each test of an item takes the items before it, so that a plan can be judged item by item as it grows.
use Rattle.std.specs.Prelude.{◌≡◌, ℕ, ◌+◌, ◌<◌, ◌≤◌, ◌≢◌, ◌==◌, nat_lt, nat_le, if◌then◌else◌, Bool, true, ◌&&◌, ◌||◌, not, ◌⊎◌, List, [], ◌∷◌, ◌++◌, length, All, bytes_eq, Option, Some, None}
use Rattle.std.specs.List.{AllPairs, list_any}
use Rattle.std.specs.Option.{option_map}
use Rattle.sg_plan.specs.Ballots.{ballot_styles, ballots_of, r_rows}
use Rattle.sg_plan.specs.Names.{IsName, is_name_word, is_within, name_keeps}
use Rattle.sg_plan.specs.declared.limits.PlanFault.{PlanFault}
use Rattle.sg_plan.specs.declared.limits.PlanFault.TheVariants as fault
use Rattle.sg_plan.specs.declared.plan.Plan.{Plan}
use Rattle.sg_plan.specs.declared.plan.Race.{Race}
use Rattle.sg_plan.specs.declared.plan.Run.{Run}
use Rattle.sg_plan.specs.declared.plan.Style.{Style}

-- THE LIMITS: each has its name here, as in `sg_plan::limits`, and nowhere else a value

-- the most races of an election; it has one or more
abbrev pub most_races : ℕ
most_races = 32

-- the fewest candidates of a race
abbrev pub least_candidates : ℕ
least_candidates = 2

-- the most candidates of a race
abbrev pub most_candidates : ℕ
most_candidates = 16

-- the most styles of paper; a plan has one or more
abbrev pub most_styles : ℕ
most_styles = 32

-- the most ballots; a plan has one or more
abbrev pub most_ballots : ℕ
most_ballots = 20000

-- the most instances of table R; each race has one or more
abbrev pub most_instances : ℕ
most_instances = 16

-- the most rows of table R, over all races and instances
abbrev pub most_rows : ℕ
most_rows = 200000

-- the longest name, in bytes; it has one or more
abbrev pub longest_name : ℕ
longest_name = 64

-- the most stations of an office; it has one or more
abbrev pub most_stations : ℕ
most_stations = 32

-- the most public bytes of a draw; a draw by public bytes has one or more
abbrev pub most_public_bytes : ℕ
most_public_bytes = 4096

-- the most claims that an office takes, and so the most disputes of a record
abbrev pub most_claims : ℕ
most_claims = 10000

-- the longest line of a record, in bytes, its line feed included
abbrev pub longest_line : ℕ
longest_line = 16384

-- the most bits on a line of flags or places
abbrev pub most_bits : ℕ
most_bits = 64

-- the longest election file, in bytes
abbrev pub longest_election : ℕ
longest_election = 1048576

-- the most lines of asks that are read
abbrev pub most_asks : ℕ
most_asks = 100000

-- the longest line of an ask, in bytes, its line feed included; and the longest body of a request
abbrev pub longest_ask : ℕ
longest_ask = 65536

-- the longest head of a request, in bytes
abbrev pub longest_head : ℕ
longest_head = 8192

-- the most fields of a request's head
abbrev pub most_fields : ℕ
most_fields = 64

-- TESTS OF ITEMS

-- a version of the record
abbrev pub is_version : ℕ → Bool
is_version version = version == 1 || version == 2

-- an earlier race has the name
abbrev pub races_have : List Race → List ℕ → Bool
races_have earlier name = list_any (λ race. bytes_eq race.name name) earlier

-- an earlier style has the name
abbrev pub styles_have : List Style → List ℕ → Bool
styles_have earlier name = list_any (λ style. bytes_eq style.name name) earlier

-- a race but for its candidates' names: a name that no earlier race has, 2 to 16 candidates,
-- and 1 vote to as many as there are candidates
abbrev pub race_head_keeps : List Race → List ℕ → ℕ → ℕ → Bool
race_head_keeps earlier name candidates votes = (is_name_word name && not (races_have earlier name)) && (is_within least_candidates most_candidates candidates && is_within 1 candidates votes)

-- strictly rising numbers, from the least on and below the end
abbrev pub rises : ℕ → ℕ → List ℕ → Bool
rises least end [] = true
rises least end (n ∷ ns) = (nat_le least n && nat_lt n end) && rises (n + 1) end ns

-- a style of a plan with so many races: a name that no earlier style has,
-- and one or more numbers of races, strictly rising
abbrev pub style_keeps : ℕ → List Style → Style → Bool
style_keeps races earlier style = (is_name_word style.name && not (styles_have earlier style.name)) && (nat_le 1 (length style.races) && rises 0 races style.races)

-- a run of a plan with so many styles: it names a style, gives it one ballot or more,
-- and with the earlier runs it gives at most 20,000
abbrev pub run_keeps : ℕ → List Run → Run → Bool
run_keeps styles earlier run = nat_lt run.style styles && (nat_le 1 run.count && nat_le (length (ballot_styles earlier) + run.count) most_ballots)

-- TESTS OF LISTS

-- each of the items passes the test of the items before it and itself
abbrev pub each_keeps : {X : Type 0} → (List X → X → Bool) → List X → List X → Bool
each_keeps keeps earlier [] = true
each_keeps keeps earlier (x ∷ xs) = keeps earlier x && each_keeps keeps (earlier ++ x ∷ []) xs

-- there is one item or more, and each passes the test of the items before it and itself
abbrev pub some_keep : {X : Type 0} → (List X → X → Bool) → List X → Bool
some_keep keeps items = nat_le 1 (length items) && each_keeps keeps [] items

-- the place of the first of the items that does not
abbrev pub first_bad : {X : Type 0} → (List X → X → Bool) → List X → List X → Option ℕ
first_bad keeps earlier [] = None
first_bad keeps earlier (x ∷ xs) = (if keeps earlier x then first_bad keeps (earlier ++ x ∷ []) xs else Some (length earlier))

-- where a list of one item or more is at fault: at 0 where it has none
abbrev pub first_fault : {X : Type 0} → (List X → X → Bool) → List X → Option ℕ
first_fault keeps [] = Some 0
first_fault keeps (x ∷ xs) = first_bad keeps [] (x ∷ xs)

-- a race with the names of its candidates
abbrev pub race_keeps : List Race → Race → Bool
race_keeps earlier race = race_head_keeps earlier race.name (length race.candidates) race.votes && each_keeps name_keeps [] race.candidates

-- one of the first 32 races, with its limits
abbrev pub race_fits : List Race → Race → Bool
race_fits earlier race = nat_lt (length earlier) most_races && race_keeps earlier race

-- one of the first 32 styles, with its limits
abbrev pub style_fits : ℕ → List Style → Style → Bool
style_fits races earlier style = nat_lt (length earlier) most_styles && style_keeps races earlier style

-- THE LIMITS OF A PLAN

-- a plan keeps its limits
unfoldable pub plan_keeps : Plan → Bool
plan_keeps plan =
    (is_version plan.version && is_name_word plan.name)
    && (is_within 1 most_instances plan.instances
    && (some_keep race_fits plan.races
    && (some_keep (style_fits (length plan.races)) plan.styles
    && (some_keep (run_keeps (length plan.styles)) plan.runs
    && nat_le (r_rows plan) most_rows))))

-- THE FAULT OF A PLAN

-- the first race at fault: race 32 is, where there are more than 32
abbrev pub race_fault : List Race → Option ℕ
race_fault races = first_fault race_fits races

-- the first style at fault, where the plan has so many races: style 32 is, where there are more than 32
abbrev pub style_fault : ℕ → List Style → Option ℕ
style_fault races styles = first_fault (style_fits races) styles

-- the first run at fault, where the plan has so many styles
abbrev pub run_fault : ℕ → List Run → Option ℕ
run_fault styles runs = first_fault (run_keeps styles) runs

-- the fault, where the test failed
abbrev pub fault_unless : Bool → PlanFault → Option PlanFault
fault_unless test at_fault = (if test then None else Some at_fault)

-- the first that is there
abbrev pub first_of : {A : Type 0} → List (Option A) → Option A
first_of [] = None
first_of (None ∷ others) = first_of others
first_of (Some one ∷ others) = Some one

-- what is at fault in a plan: the first of these, and nothing where it keeps its limits
unfoldable pub fault_of : Plan → Option PlanFault
fault_of plan = first_of (
    fault_unless (is_version plan.version) fault.Version
    ∷ fault_unless (is_name_word plan.name) fault.Name
    ∷ fault_unless (is_within 1 most_instances plan.instances) fault.Instances
    ∷ option_map fault.Race (race_fault plan.races)
    ∷ option_map fault.Style (style_fault (length plan.races) plan.styles)
    ∷ option_map fault.Run (run_fault (length plan.styles) plan.runs)
    ∷ fault_unless (nat_le (r_rows plan) most_rows) (fault.TooLarge (r_rows plan))
    ∷ [])

-- each test of a plan is passed
pub record PassesTests (plan : Plan) : Type 0 where
  pub version : is_version plan.version ≡ true
  pub name : is_name_word plan.name ≡ true
  pub instances : is_within 1 most_instances plan.instances ≡ true
  pub races : race_fault plan.races ≡ None
  pub styles : style_fault (length plan.races) plan.styles ≡ None
  pub runs : run_fault (length plan.styles) plan.runs ≡ None
  pub rows : nat_le (r_rows plan) most_rows ≡ true

-- THE SAME IN PLAIN FORM

-- a race with its own limits
pub record KeepsRace (race : Race) : Type 0 where
  pub name : IsName race.name
  pub two_candidates : least_candidates ≤ length race.candidates
  pub most_candidates : length race.candidates ≤ most_candidates
  pub candidates : All IsName race.candidates
  pub different : AllPairs (λ a b. a ≢ b) race.candidates
  pub one_vote : 1 ≤ race.votes
  pub most_votes : race.votes ≤ length race.candidates

-- a style of a plan with so many races
pub record KeepsStyle (count : ℕ) (style : Style) : Type 0 where
  pub name : IsName style.name
  pub one_race : 1 ≤ length style.races
  pub rising : AllPairs (λ a b. a < b) style.races
  pub races : All (λ race. race < count) style.races

-- a run of a plan with so many styles
pub record KeepsRun (count : ℕ) (run : Run) : Type 0 where
  pub style : run.style < count
  pub one_ballot : 1 ≤ run.count

-- the limits of a plan
pub record KeepsLimits (plan : Plan) : Type 0 where
  pub version : (plan.version ≡ 1) ⊎ (plan.version ≡ 2)
  pub name : IsName plan.name
  pub one_instance : 1 ≤ plan.instances
  pub most_instances : plan.instances ≤ most_instances
  pub one_race : 1 ≤ length plan.races
  pub most_races : length plan.races ≤ most_races
  pub races : All KeepsRace plan.races
  pub race_names : AllPairs (λ a b. a.name ≢ b.name) plan.races
  pub one_style : 1 ≤ length plan.styles
  pub most_styles : length plan.styles ≤ most_styles
  pub styles : All (KeepsStyle (length plan.races)) plan.styles
  pub style_names : AllPairs (λ a b. a.name ≢ b.name) plan.styles
  pub one_run : 1 ≤ length plan.runs
  pub runs : All (KeepsRun (length plan.styles)) plan.runs
  pub most_ballots : ballots_of plan ≤ most_ballots
  pub most_rows : r_rows plan ≤ most_rows
