-- The tables P, Q, R and S of an election (this project's rules for the record). Each value is told by
-- itself from the plan and the seed. Races, candidates, columns, instances, ballot rows, entries, rows
-- and places are numbered from 0.
use Rattle.std.specs.Prelude.{ℕ, ◌+◌, ◌*◌, ◌/◌, ◌%◌, ◌==◌, List, [], map, slice_index}
use Rattle.std.specs.List.{position_or_len}
use Rattle.sg_plan.specs.Ballots.{ballot_row, candidates_of, entries_of, races_of_ballot, rows_of}
use Rattle.sg_plan.specs.declared.plan.Plan.{Plan}
use Rattle.sg_commit.specs.declared.Opening.{Opening}
use Rattle.sg_streams.specs.OpeningKeys.{item_key}
use Rattle.sg_streams.specs.Order.{order_of}
use Rattle.sg_streams.specs.RowCodes.{row_codes}
use Rattle.sg_streams.specs.Streams.{stream_number}

-- what an office's tables are made from
pub record MadeFrom : Type 0 where
  pub plan : Plan
  pub seed : List ℕ

-- TABLE P: THE CODES ON PAPER

-- the codes of a ballot row, by candidate: purpose 1, and the index is the ballot row
unfoldable pub codes_of_row : Plan → List ℕ → ℕ → ℕ → List ℕ
codes_of_row plan seed race row = row_codes plan.version seed (stream_number 1 race row) (candidates_of plan race)

-- the code beside a candidate of a ballot row
unfoldable pub code_beside : Plan → List ℕ → ℕ → ℕ → ℕ → ℕ
code_beside plan seed race row candidate = slice_index (codes_of_row plan seed race row) candidate

-- the paper of a ballot: for each race of its style the codes by candidate, and no list where the plan
-- has no such ballot
unfoldable pub paper_of : Plan → List ℕ → ℕ → List (List ℕ)
paper_of plan seed ballot = map (λ race. codes_of_row plan seed race (ballot_row plan race ballot)) (races_of_ballot plan ballot)

-- TABLE Q: THE SAME CODES, EACH BALLOT ROW SHUFFLED

-- the candidates that a ballot row shows, column by column: purpose 2, and the index is the ballot row
unfoldable pub shown_in_row : Plan → List ℕ → ℕ → ℕ → List ℕ
shown_in_row plan seed race row = order_of seed (stream_number 2 race row) (candidates_of plan race)

-- the candidate that an entry shows: entry q is column q mod K of ballot row q div K, where the race has
-- K candidates
unfoldable pub shown_by : Plan → List ℕ → ℕ → ℕ → ℕ
shown_by plan seed race entry =
    slice_index (shown_in_row plan seed race (entry / candidates_of plan race)) (entry % candidates_of plan race)

-- the column in which a ballot row shows a candidate: the first one
unfoldable pub column_showing : Plan → List ℕ → ℕ → ℕ → ℕ → ℕ
column_showing plan seed race row candidate = position_or_len (λ shown. shown == candidate) (shown_in_row plan seed race row)

-- the entry of a ballot row that shows a candidate
unfoldable pub entry_showing : Plan → List ℕ → ℕ → ℕ → ℕ → ℕ
entry_showing plan seed race row candidate = row * candidates_of plan race + column_showing plan seed race row candidate

-- the code of an entry: the one beside the candidate that it shows
unfoldable pub code_of_entry : Plan → List ℕ → ℕ → ℕ → ℕ
code_of_entry plan seed race entry = code_beside plan seed race (entry / candidates_of plan race) (shown_by plan seed race entry)

-- TABLE S: THE PLACES

-- the rows of table S to which a candidate's ballot rows lead: purpose 3, and the index is the candidate
unfoldable pub place_rows_of : Plan → List ℕ → ℕ → ℕ → List ℕ
place_rows_of plan seed race candidate = order_of seed (stream_number 3 race candidate) (rows_of plan race)

-- the row of the place to which a ballot row's entry for a candidate leads
unfoldable pub place_row : Plan → List ℕ → ℕ → ℕ → ℕ → ℕ
place_row plan seed race row candidate = slice_index (place_rows_of plan seed race candidate) row

-- the place to which an entry leads, in the column of the candidate that it shows: place s is row s div K
-- in the column of candidate s mod K
unfoldable pub path_of : Plan → List ℕ → ℕ → ℕ → ℕ
path_of plan seed race entry =
    place_row plan seed race (entry / candidates_of plan race) (shown_by plan seed race entry) * candidates_of plan race
    + shown_by plan seed race entry

-- TABLE R: THE POINTERS

-- the entries to which an instance's rows point: purpose 4, and the index is the instance
unfoldable pub lefts_of : Plan → List ℕ → ℕ → ℕ → List ℕ
lefts_of plan seed race instance = order_of seed (stream_number 4 race instance) (entries_of plan race)

-- the left pointer of a row: an entry
unfoldable pub left_of : Plan → List ℕ → ℕ → ℕ → ℕ → ℕ
left_of plan seed race instance row = slice_index (lefts_of plan seed race instance) row

-- the right pointer of a row: the place to which that entry leads
unfoldable pub right_of : Plan → List ℕ → ℕ → ℕ → ℕ → ℕ
right_of plan seed race instance row = path_of plan seed race (left_of plan seed race instance row)

-- OPENINGS

-- what opens the commitment to an entry's code: purpose 5 with index 0, and the item is the entry
unfoldable pub q_opening_of : Plan → List ℕ → ℕ → ℕ → Opening
q_opening_of plan seed race entry = record {
  key = record { 0 = item_key seed (stream_number 5 race 0) entry };
  value = code_of_entry plan seed race entry;
}

-- what opens the commitment to a row's left pointer: purpose 6, the index is the instance, and the item is the row
unfoldable pub left_opening_of : Plan → List ℕ → ℕ → ℕ → ℕ → Opening
left_opening_of plan seed race instance row = record {
  key = record { 0 = item_key seed (stream_number 6 race instance) row };
  value = left_of plan seed race instance row;
}

-- what opens the commitment to a row's right pointer: purpose 7, the index is the instance, and the item is the row
unfoldable pub right_opening_of : Plan → List ℕ → ℕ → ℕ → ℕ → Opening
right_opening_of plan seed race instance row = record {
  key = record { 0 = item_key seed (stream_number 7 race instance) row };
  value = right_of plan seed race instance row;
}

-- where a walk over the openings of a race's entries stands: at the next entry
pub record EntryWalk : Type 0 where
  pub plan : Plan
  pub seed : List ℕ
  pub race : ℕ
  pub entry : ℕ

-- where a walk over the openings of an instance's rows stands: at the next row
pub record RowWalk : Type 0 where
  pub plan : Plan
  pub seed : List ℕ
  pub race : ℕ
  pub instance : ℕ
  pub row : ℕ
