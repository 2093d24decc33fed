-- How many lines a record may still have: a number that falls with each line taken. It is more than ever come, and
-- at most 1,200,000 before the first line, so that each line's number is one of 32 bits (this project's rules for
-- the record).
use Rattle.std.specs.Prelude.{ℕ, zero, suc, ◌+◌, ◌-◌, ◌*◌, if◌then◌else◌, min, Bool, true, false, List, length, count_by, drop, sum_by}
use Rattle.std.specs.Option.{option_map_or}
use Rattle.sg_plan.specs.Limits.{most_ballots, most_candidates, most_claims, most_races, most_styles}
use Rattle.sg_plan.specs.Ballots.{ballot_styles, ballots_of, candidates_of, style_has, style_of_ballot}
use Rattle.sg_plan.specs.declared.plan.Plan.{Plan}
use Rattle.sg_grammar.specs.Due.{results}
use Rattle.sg_grammar.specs.Placed.{Placed}
use Rattle.sg_grammar.specs.Placed.Placed.{TotalAt}
use Rattle.sg_grammar.specs.Walk.{Next}
use Rattle.sg_grammar.specs.declared.state.Head.{Head}
use Rattle.sg_grammar.specs.declared.state.Head.TheVariants as head
use Rattle.sg_grammar.specs.declared.state.Part.{Part}
use Rattle.sg_grammar.specs.declared.state.Part.TheVariants as part
use Rattle.sg_grammar.specs.declared.state.Slot.{Slot}
use Rattle.sg_grammar.specs.declared.state.Slot.TheVariants as slot

-- BEHIND THE PLAN

-- the lines that the block of a ballot of the style may have in a race behind its first line: a code for each column,
-- and one for its paper, or one note of it; none where the style hasn't the race
abbrev pub lines_in : Plan → ℕ → ℕ → ℕ
lines_in plan style race = (if style_has plan race style then candidates_of plan race + 1 else 0)

-- such lines in the races before this one
abbrev pub lines_before : Plan → ℕ → ℕ → ℕ
lines_before plan style zero = 0
lines_before plan style (suc race) = lines_before plan style race + lines_in plan style race

-- in all races
abbrev pub lines_of : Plan → ℕ → ℕ
lines_of plan style = lines_before plan style (length plan.races)

-- from this race and column on: behind the last column one line of the race is left, a note of it
abbrev pub lines_from : Plan → ℕ → ℕ → ℕ → ℕ
lines_from plan race column style = lines_of plan style - (lines_before plan style race + min column (lines_in plan style race - 1))

-- the lines that the block of a cast ballot may still bring, from this race and column on
abbrev pub block_left : Plan → ℕ → ℕ → ℕ → ℕ
block_left plan ballot race column = option_map_or (lines_from plan race column) (style_of_ballot plan ballot) 0

-- the block of a ballot of the style: its first line, and the others
abbrev pub block_lines : Plan → ℕ → ℕ
block_lines plan style = lines_of plan style + 1

-- the blocks of the ballots behind this one
abbrev pub blocks_left : Plan → ℕ → ℕ
blocks_left plan last = sum_by (block_lines plan) (drop last (ballot_styles plan.runs))

-- the blocks of the disputes behind so many: a claim and at most 16 codes each
abbrev pub disputes_left : ℕ → ℕ
disputes_left count = 17 * (most_claims - count)

-- the results, and then disputes
abbrev pub results_left : Plan → ℕ
results_left plan = length (results plan) + disputes_left 0

-- what may come where no line is due: further blocks, then the results, and then disputes
abbrev pub part_left : Plan → Part → ℕ
part_left plan (part.Ballots last) = blocks_left plan last + results_left plan
part_left plan (part.Cast ballot race column) = block_left plan ballot race column + (blocks_left plan ballot + results_left plan)
part_left plan (part.Disputes count) = disputes_left count

-- the lines that are due, and then what may come
abbrev pub body_left : Plan → List Slot → Part → ℕ
body_left plan due may_begin = length due + part_left plan may_begin

-- THE PLAN

-- more lines than any plan has behind it
abbrev pub most_lines : ℕ
most_lines = 1100000

-- each run brings a ballot, and there are at most 20,000
abbrev pub runs_left : Plan → ℕ
runs_left plan = most_lines + (most_ballots - ballots_of plan)

-- at most 32 styles before them
abbrev pub styles_left : Plan → ℕ
styles_left plan = most_lines + 20001 + (most_styles - length plan.styles)

-- at most 32 races before them, with 16 candidates each
abbrev pub races_left : Plan → ℕ
races_left plan = most_lines + 20034 + 17 * (most_races - length plan.races)

-- the plan's lines that may still come, and all that may come behind them
abbrev pub left_at : Plan → Head → List Slot → Part → ℕ
left_at plan head.Version due may_begin = most_lines + 20582
left_at plan head.Election due may_begin = most_lines + 20581
left_at plan head.Instances due may_begin = most_lines + 20580
left_at plan head.Races due may_begin = races_left plan
left_at plan (head.Candidates left) due may_begin = races_left plan + left
left_at plan head.Styles due may_begin = styles_left plan
left_at plan head.Runs due may_begin = runs_left plan
left_at plan head.Whole due may_begin = body_left plan due may_begin

-- how many lines may still come: more than ever do
unfoldable pub lines_left : Next → ℕ
lines_left next = left_at next.plan next.head next.due next.part

-- THE TOTALS: how many `total` lines a record may still have

-- the line is the total of a candidate
abbrev pub is_total_line : Placed → Bool
is_total_line (TotalAt race candidate count) = true
is_total_line line = false

-- the line that is due is one
abbrev pub is_total : Slot → Bool
is_total (slot.Total race candidate) = true
is_total slot = false

-- so many totals a record may have: 32 races with 16 candidates each
abbrev pub most_totals : ℕ
most_totals = most_races * most_candidates

-- those that may come where no line is due: all of them before the results
abbrev pub part_totals : Plan → Part → ℕ
part_totals plan (part.Disputes count) = 0
part_totals plan may_begin = count_by is_total (results plan)

-- and while the plan isn't whole as many as any plan has
abbrev pub totals_at : Plan → Head → List Slot → Part → ℕ
totals_at plan head.Whole due may_begin = count_by is_total due + part_totals plan may_begin
totals_at plan stage due may_begin = most_totals

-- how many `total` lines may still come
unfoldable pub totals_left : Next → ℕ
totals_left next = totals_at next.plan next.head next.due next.part
