-- What follows from the definitions of the tables (this project's rules for the record).
use Rattle.std.specs.Prelude.{◌≡◌, ◌≢◌, ℕ, ◌+◌, ◌*◌, ◌/◌, ◌%◌, ◌<◌, List, length, map, slice_get, Some, None, IsPermutation}
use Rattle.sg_plan.specs.Ballots.{ballot_row, candidates_of, entries_of, races_of_style, rows_of, style_of_ballot}
use Rattle.sg_plan.specs.Codes.{codes_of}
use Rattle.sg_plan.specs.Limits.{fault_of}
use Rattle.sg_plan.specs.declared.plan.Plan.{Plan}
use Rattle.sg_streams.specs.Numbers.{numbers_below}
use Rattle.sg_streams.specs.OpeningKeys.{item_key}
use Rattle.sg_streams.specs.Streams.{stream_number}
use Rattle.sg_tables.specs.Tables.{code_beside, code_of_entry, codes_of_row, column_showing, entry_showing, left_of, left_opening_of, paper_of, path_of, q_opening_of, right_of, right_opening_of, shown_by}

-- POINTERS AND PATHS

-- the number below n that is taken to y
pub record Reached (n : ℕ) (f : ℕ → ℕ) (y : ℕ) : Type 0 where
  pub from : ℕ
  pub below : from < n
  pub is : f from ≡ y

-- the numbers below n are taken one to one to the numbers below n
pub record Permutes (n : ℕ) (f : ℕ → ℕ) : Type 0 where
  pub below : (x : ℕ) → x < n → f x < n
  pub one : (x other : ℕ) → x < n → other < n → f x ≡ f other → x ≡ other
  pub reached : (y : ℕ) → y < n → Reached n f y
  pub listed : IsPermutation (numbers_below n) (map f (numbers_below n))

-- Each entry of a race is the left pointer of one row of each instance. Each place is the path of one
-- entry, and so the right pointer of one row of each instance. The right pointer of a row is the path of
-- its left pointer, in every instance.
pub record PointerLaws : Type 0 where
  pub lefts : (plan : Plan) (seed : List ℕ) (race instance : ℕ) → Permutes (entries_of plan race) (left_of plan seed race instance)
  pub paths : (plan : Plan) (seed : List ℕ) (race : ℕ) → Permutes (entries_of plan race) (path_of plan seed race)
  pub rights : (plan : Plan) (seed : List ℕ) (race instance : ℕ) → Permutes (entries_of plan race) (right_of plan seed race instance)
  pub composed : (plan : Plan) (seed : List ℕ) (race instance row : ℕ)
      → right_of plan seed race instance row ≡ path_of plan seed race (left_of plan seed race instance row)

-- WHAT ENTRIES SHOW

-- an entry shows a candidate of the race, and leads to a place in this candidate's column
pub record EntryLeads (plan : Plan) (seed : List ℕ) (race entry : ℕ) : Type 0 where
  pub shows : shown_by plan seed race entry < candidates_of plan race
  pub row : path_of plan seed race entry / candidates_of plan race < rows_of plan race
  pub column : path_of plan seed race entry % candidates_of plan race ≡ shown_by plan seed race entry

-- a ballot row shows a candidate in one of its entries, and in no other
pub record ShownOnce (plan : Plan) (seed : List ℕ) (race row candidate : ℕ) : Type 0 where
  pub below : entry_showing plan seed race row candidate < entries_of plan race
  pub column : column_showing plan seed race row candidate < candidates_of plan race
  pub is : entry_showing plan seed race row candidate ≡ row * candidates_of plan race + column_showing plan seed race row candidate
  pub row_is : entry_showing plan seed race row candidate / candidates_of plan race ≡ row
  pub column_is : entry_showing plan seed race row candidate % candidates_of plan race ≡ column_showing plan seed race row candidate
  pub shows : shown_by plan seed race (entry_showing plan seed race row candidate) ≡ candidate
  pub alone : (entry : ℕ) → entry < entries_of plan race → entry / candidates_of plan race ≡ row → shown_by plan seed race entry ≡ candidate
      → entry ≡ entry_showing plan seed race row candidate

-- The entries of a ballot row show different candidates, each candidate once, and lead to places of
-- different candidates.
pub record EntryLaws : Type 0 where
  pub leads : (plan : Plan) (seed : List ℕ) (race entry : ℕ) → entry < entries_of plan race → EntryLeads plan seed race entry
  pub once : (plan : Plan) (seed : List ℕ) (race row candidate : ℕ) → row < rows_of plan race → candidate < candidates_of plan race
      → ShownOnce plan seed race row candidate
  pub apart : (plan : Plan) (seed : List ℕ) (race entry other : ℕ) → entry < entries_of plan race → other < entries_of plan race
      → entry / candidates_of plan race ≡ other / candidates_of plan race → entry ≢ other
      → (shown_by plan seed race entry ≢ shown_by plan seed race other)
      × (path_of plan seed race entry % candidates_of plan race ≢ path_of plan seed race other % candidates_of plan race)

-- CODES

-- the codes of a ballot row: one of the version for each candidate, all different
pub record CodesDiffer (plan : Plan) (seed : List ℕ) (race row : ℕ) : Type 0 where
  pub many : length (codes_of_row plan seed race row) ≡ candidates_of plan race
  pub listed : (candidate : ℕ) → candidate < candidates_of plan race → slice_get (codes_of_row plan seed race row) candidate ≡ Some (code_beside plan seed race row candidate)
  pub below : (candidate : ℕ) → candidate < candidates_of plan race → code_beside plan seed race row candidate < codes_of plan.version
  pub one : (candidate other : ℕ) → candidate < candidates_of plan race → other < candidates_of plan race
      → code_beside plan seed race row candidate ≡ code_beside plan seed race row other → candidate ≡ other

-- a ballot's paper has for each race of its style the codes of the ballot's row in it
pub record PaperHas (plan : Plan) (seed : List ℕ) (ballot style : ℕ) : Type 0 where
  pub many : length (paper_of plan seed ballot) ≡ length (races_of_style plan style)
  pub codes : (at race : ℕ) → slice_get (races_of_style plan style) at ≡ Some race
      → slice_get (paper_of plan seed ballot) at ≡ Some (codes_of_row plan seed race (ballot_row plan race ballot))

-- The code of an entry is the code beside the candidate that it shows. Where the plan keeps its limits, the
-- codes of a ballot row are different. A paper has the codes of its ballot.
pub record CodeLaws : Type 0 where
  pub beside : (plan : Plan) (seed : List ℕ) (race entry : ℕ)
      → code_of_entry plan seed race entry ≡ code_beside plan seed race (entry / candidates_of plan race) (shown_by plan seed race entry)
  pub shown : (plan : Plan) (seed : List ℕ) (race row candidate : ℕ) → row < rows_of plan race → candidate < candidates_of plan race
      → code_of_entry plan seed race (entry_showing plan seed race row candidate) ≡ code_beside plan seed race row candidate
  pub differ : (plan : Plan) (seed : List ℕ) (race row : ℕ) → fault_of plan ≡ None → race < length plan.races → CodesDiffer plan seed race row
  pub paper : (plan : Plan) (seed : List ℕ) (ballot style : ℕ) → style_of_ballot plan ballot ≡ Some style → PaperHas plan seed ballot style
  pub no_paper : (plan : Plan) (seed : List ℕ) (ballot : ℕ) → style_of_ballot plan ballot ≡ None → length (paper_of plan seed ballot) ≡ 0

-- OPENINGS

-- An opening has the key of its item, and the value that is committed to.
pub record OpeningLaws : Type 0 where
  pub code : (plan : Plan) (seed : List ℕ) (race entry : ℕ) → (q_opening_of plan seed race entry).value ≡ code_of_entry plan seed race entry
  pub code_key : (plan : Plan) (seed : List ℕ) (race entry : ℕ) → (q_opening_of plan seed race entry).key.0 ≡ item_key seed (stream_number 5 race 0) entry
  pub left : (plan : Plan) (seed : List ℕ) (race instance row : ℕ) → (left_opening_of plan seed race instance row).value ≡ left_of plan seed race instance row
  pub left_key : (plan : Plan) (seed : List ℕ) (race instance row : ℕ)
      → (left_opening_of plan seed race instance row).key.0 ≡ item_key seed (stream_number 6 race instance) row
  pub right : (plan : Plan) (seed : List ℕ) (race instance row : ℕ) → (right_opening_of plan seed race instance row).value ≡ right_of plan seed race instance row
  pub right_key : (plan : Plan) (seed : List ℕ) (race instance row : ℕ)
      → (right_opening_of plan seed race instance row).key.0 ≡ item_key seed (stream_number 7 race instance) row
