-- The ballots of a plan, and what follows from the plan alone: ballot rows, entries and places
-- (this project's rules for the record).
use Rattle.std.specs.Prelude.{◌≡◌, ℕ, zero, suc, ◌+◌, ◌-◌, ◌*◌, ◌/◌, ◌≤◌, ◌==◌, nat_lt, if◌then◌else◌, Bool, true, false, ◌&&◌, List, [], ◌∷◌, ◌++◌, length, take, replicate, slice_get, count_by, Option, Some, None}
use Rattle.std.specs.Option.{option_map_or}
use Rattle.std.specs.List.{list_any}
use Rattle.sg_plan.specs.declared.plan.Mark.{Mark}
use Rattle.sg_plan.specs.declared.plan.Plan.{Plan}
use Rattle.sg_plan.specs.declared.plan.Run.{Run}

-- the style of each ballot, in the order of their numbers: the first is that of ballot 1
abbrev pub ballot_styles : List Run → List ℕ
ballot_styles [] = []
ballot_styles (run ∷ runs) = replicate run.count run.style ++ ballot_styles runs

-- how many ballots the plan has
abbrev pub ballots_of : Plan → ℕ
ballots_of plan = length (ballot_styles plan.runs)

-- the races of a style: none where the plan has no such style
abbrev pub races_of_style : Plan → ℕ → List ℕ
races_of_style plan style = option_map_or (λ s. s.races) (slice_get plan.styles style) []

-- the style has the race
abbrev pub style_has : Plan → ℕ → ℕ → Bool
style_has plan race style = list_any (λ r. r == race) (races_of_style plan style)

-- the style of a ballot; ballots are numbered from 1
abbrev pub style_of_ballot : Plan → ℕ → Option ℕ
style_of_ballot plan ballot = (if ballot == 0 then None else slice_get (ballot_styles plan.runs) (ballot - 1))

-- the races of a ballot: none where the plan has no such ballot
abbrev pub races_of_ballot : Plan → ℕ → List ℕ
races_of_ballot plan ballot = option_map_or (races_of_style plan) (style_of_ballot plan ballot) []

-- the ballot is in the plan, and its style has the race
abbrev pub ballot_has : Plan → ℕ → ℕ → Bool
ballot_has plan ballot race = option_map_or (style_has plan race) (style_of_ballot plan ballot) false

-- how many candidates a race has
abbrev pub candidates_of : Plan → ℕ → ℕ
candidates_of plan race = option_map_or (λ r. length r.candidates) (slice_get plan.races race) 0

-- how many votes a voter has in a race
abbrev pub votes_of : Plan → ℕ → ℕ
votes_of plan race = option_map_or (λ r. r.votes) (slice_get plan.races race) 0

-- how many ballots have the race
abbrev pub rows_of : Plan → ℕ → ℕ
rows_of plan race = count_by (style_has plan race) (ballot_styles plan.runs)

-- the ballot row of a ballot in a race: how many earlier ballots have the race
abbrev pub ballot_row : Plan → ℕ → ℕ → ℕ
ballot_row plan race ballot = count_by (style_has plan race) (take (ballot - 1) (ballot_styles plan.runs))

-- how many entries, places and rows of each instance a race has
abbrev pub entries_of : Plan → ℕ → ℕ
entries_of plan race = rows_of plan race * candidates_of plan race

-- the entry in a column of a ballot
abbrev pub entry_at : Plan → ℕ → ℕ → ℕ → ℕ
entry_at plan race ballot column = ballot_row plan race ballot * candidates_of plan race + column

-- the entry in a column of a ballot, where the ballot has the race and the race has the column
abbrev pub entry_in : Plan → ℕ → ℕ → ℕ → Option ℕ
entry_in plan race ballot column = (if ballot_has plan ballot race && nat_lt column (candidates_of plan race) then Some (entry_at plan race ballot column) else None)

-- the entry is one of the ballot's: the ballot has the race, and its ballot row is the entry's
pub record IsBallotOf (plan : Plan) (race entry ballot : ℕ) : Type 0 where
  pub first : 1 ≤ ballot
  pub last : ballot ≤ ballots_of plan
  pub has : ballot_has plan ballot race ≡ true
  pub row : ballot_row plan race ballot ≡ entry / candidates_of plan race

-- how many of the marks name the race
abbrev pub marks_in : ℕ → List Mark → ℕ
marks_in race marks = count_by (λ mark. mark.race == race) marks

-- more marks name the race than a voter has votes in it
abbrev pub is_over : Plan → List Mark → ℕ → Bool
is_over plan marks race = nat_lt (votes_of plan race) (marks_in race marks)

-- how many entries the races before this one have
abbrev pub entries_before : Plan → ℕ → ℕ
entries_before plan zero = 0
entries_before plan (suc race) = entries_before plan race + entries_of plan race

-- how many entries all races have
abbrev pub all_entries : Plan → ℕ
all_entries plan = entries_before plan (length plan.races)

-- how many rows of table R all races have in all instances
abbrev pub r_rows : Plan → ℕ
r_rows plan = plan.instances * all_entries plan

-- where an entry stands when the entries of all races follow one another
abbrev pub entry_place : Plan → ℕ → ℕ → ℕ
entry_place plan race entry = entries_before plan race + entry

-- where a row stands when the rows of all races and instances follow one another
abbrev pub row_place : Plan → ℕ → ℕ → ℕ → ℕ
row_place plan race instance row = plan.instances * entries_before plan race + (instance * entries_of plan race + row)
