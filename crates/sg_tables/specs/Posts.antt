-- What a ballot posts in a race, by its ballot row and its fate (this project's rules for the record).
-- Races, candidates, columns and ballot rows are numbered from 0.
use Rattle.std.specs.Prelude.{ℕ, ◌+◌, ◌*◌, ◌==◌, if◌then◌else◌, Bool, false, ◌&&◌, not, List, length, map, filter}
use Rattle.std.specs.List.{list_any}
use Rattle.sg_plan.specs.Ballots.{candidates_of, is_over}
use Rattle.sg_plan.specs.Fates.{has_mark}
use Rattle.sg_plan.specs.declared.plan.ClaimWord.{ClaimWord}
use Rattle.sg_plan.specs.declared.plan.ClaimWord.TheVariants as answer
use Rattle.sg_plan.specs.declared.plan.Fate.{Fate}
use Rattle.sg_plan.specs.declared.plan.Fate.TheVariants as fate
use Rattle.sg_plan.specs.declared.plan.Plan.{Plan}
use Rattle.sg_streams.specs.Numbers.{numbers_below}
use Rattle.sg_tables.specs.Tables.{code_of_entry, codes_of_row, shown_by}

-- MARKS

-- a ballot with this fate marks the candidate: it is cast, has a mark there, and has no more marks in the race than
-- a voter has votes
abbrev pub fate_marks : Plan → ℕ → ℕ → Fate → Bool
fate_marks plan race candidate (fate.Cast marks) = has_mark marks race candidate && not (is_over plan marks race)
fate_marks plan race candidate other = false

-- VOID RACES

-- the race is void on a ballot with this fate: it is cast, and has more marks there than a voter has votes
abbrev pub is_void : Plan → Fate → ℕ → Bool
is_void plan (fate.Cast marks) race = is_over plan marks race
is_void plan other race = false

-- the void races of a ballot with this fate, rising
abbrev pub void_races : Plan → Fate → List ℕ
void_races plan what = filter (is_void plan what) (numbers_below (length plan.races))

-- MARKED ENTRIES AND POSTED CODES

-- the entry in a column of a ballot row
abbrev pub row_entry : Plan → ℕ → ℕ → ℕ → ℕ
row_entry plan race row column = row * candidates_of plan race + column

-- the column of a ballot row shows a candidate that a ballot with this fate marks
abbrev pub column_marked : Plan → List ℕ → ℕ → ℕ → Fate → ℕ → Bool
column_marked plan seed race row what column = fate_marks plan race (shown_by plan seed race (row_entry plan race row column)) what

-- the columns that a ballot with this fate marks in a ballot row, rising
abbrev pub marked_columns : Plan → List ℕ → ℕ → ℕ → Fate → List ℕ
marked_columns plan seed race row what = filter (column_marked plan seed race row what) (numbers_below (candidates_of plan race))

-- the entries in these columns
abbrev pub marked_entries : Plan → List ℕ → ℕ → ℕ → Fate → List ℕ
marked_entries plan seed race row what = map (row_entry plan race row) (marked_columns plan seed race row what)

-- the codes of these entries: they are posted
unfoldable pub posted_codes : Plan → List ℕ → ℕ → ℕ → Fate → List ℕ
posted_codes plan seed race row what = map (code_of_entry plan seed race) (marked_entries plan seed race row what)

-- CLAIMS

-- one of the codes is this one
abbrev pub has_code : List ℕ → ℕ → Bool
has_code codes code = list_any (λ other. other == code) codes

-- the right answer to a claim of a code in a race: `posted` where it is posted, else `unposted` where it stands on the
-- paper, else `absent`
unfoldable pub right_word : Plan → List ℕ → ℕ → ℕ → Fate → ℕ → ClaimWord
right_word plan seed race row what code =
    (if has_code (posted_codes plan seed race row what) code then answer.Posted
    else (if has_code (codes_of_row plan seed race row) code then answer.Unposted
    else answer.Absent))
