-- Acts of one station, whose numbers rise, and the rows of all stations' acts.
use Rattle.std.specs.BTreeMap.{is_at}
use Rattle.std.specs.List.{list_all}
use Rattle.std.specs.List.Sorted.{IsStrictlySortedBy}
use Rattle.std.specs.Map.{keys_of, lookup, remove_entry}
use Rattle.std.specs.Option.{option_map, option_map_or}
use Rattle.std.specs.Ordering.{int_cmp, int_eq}
use Rattle.std.specs.Prelude.{◌≡◌, ℕ, suc, ℤ, ◌+◌, ◌<◌, length, take, drop, int_lt, true, if◌then◌else◌, Bool, List, [], ◌∷◌, ◌++◌, map, None, Option, Some}
use Rattle.sg_keeper.specs.declared.rows.DoneRow.{DoneRow}
use Rattle.sg_keeper.specs.Rows.{done_before, done_is, is_new, put}

-- ONE STATION

-- an act: its number and its text
abbrev pub Act : Type 0
Act = ℤ × List ℕ

-- the numbers rise
abbrev pub Rise : List Act → Type 0
Rise acts = IsStrictlySortedBy int_cmp (keys_of acts)

-- the acts of all blocks
abbrev pub flat : List (List Act) → List Act
flat [] = []
flat (block ∷ blocks) = block ++ flat blocks

-- the numbers of all acts are below this one
abbrev pub are_below : ℤ → List Act → Bool
are_below number acts = list_all (λ act. int_lt act.0 number) acts

-- the place of the first act with the number
abbrev pub place_of : ℤ → List Act → Option ℕ
place_of number [] = None
place_of number (act ∷ acts) = (if int_eq act.0 number then Some 0 else option_map (λ at. at + 1) (place_of number acts))

-- the text of the first act with the number
abbrev pub text_of : ℤ → List Act → Option (List ℕ)
text_of number acts = lookup (λ other. int_eq other number) acts

-- the acts without the first that has the number
abbrev pub without_number : ℤ → List Act → List Act
without_number number acts = remove_entry (λ other. int_eq other number) acts

-- no other block than this one has the number
pub record IsOnlyIn (number : ℤ) (blocks : List (List Act)) (at : ℕ) : Type 0 where
  pub in_range : at < length blocks
  pub not_before : text_of number (flat (take at blocks)) ≡ None
  pub not_behind : text_of number (flat (drop (suc at) blocks)) ≡ None

-- ALL STATIONS

-- an act of a station as a row
abbrev pub row_of : ℤ → Act → DoneRow
row_of station act = record { station = station; number = act.0; act = act.1 }

-- the rows of the stations' acts
abbrev pub rows_of_runs : List (ℤ × List Act) → List DoneRow
rows_of_runs [] = []
rows_of_runs (run ∷ runs) = map (row_of run.0) run.1 ++ rows_of_runs runs

-- the rows of acts that are kept by station and number
abbrev pub rows_of_late : List ((ℤ × ℤ) × List ℕ) → List DoneRow
rows_of_late [] = []
rows_of_late (entry ∷ entries) = row_of entry.0.0 (entry.0.1, entry.1) ∷ rows_of_late entries

-- the rows in the order of their keys
abbrev pub gathered : List DoneRow → List DoneRow
gathered [] = []
gathered (row ∷ rows) = put done_before row (gathered rows)

-- no two of the rows have the same key
abbrev pub AreApart : List DoneRow → Type 0
AreApart [] = Unit {0}
AreApart (row ∷ rows) = (is_new done_is row rows ≡ true) × AreApart rows

-- all rows
abbrev pub rows_in : List (ℤ × List Act) → List ((ℤ × ℤ) × List ℕ) → List DoneRow
rows_in runs late = rows_of_runs runs ++ rows_of_late late

-- the stations rise
abbrev pub Stations : List (ℤ × List Act) → Type 0
Stations runs = IsStrictlySortedBy int_cmp (keys_of runs)

-- the acts of the stations: their stations rise, and no two of the rows have the same key
pub record IsWhole (runs : List (ℤ × List Act)) (late : List ((ℤ × ℤ) × List ℕ)) : Type 0 where
  pub stations : Stations runs
  pub apart : AreApart (rows_in runs late)

-- the acts that a station's run has
abbrev pub acts_of : ℤ → List (ℤ × List Act) → Option (List Act)
acts_of station runs = lookup (is_at (int_cmp station)) runs

-- the text of the act that has the number, where the station has a run
abbrev pub text_in : ℤ → Option (List Act) → Option (List ℕ)
text_in number None = None
text_in number (Some acts) = text_of number acts

-- the number is above all of the station's run
abbrev pub ends_below : ℤ → ℤ → List (ℤ × List Act) → Bool
ends_below station number runs = option_map_or (are_below number) (acts_of station runs) true

-- the new rows are the old ones with one more among them
pub record Inserted (row : DoneRow) (old new : List DoneRow) : Type 0 where
  pub front : List DoneRow
  pub rest : List DoneRow
  pub old_is : old ≡ front ++ rest
  pub new_is : new ≡ front ++ row ∷ rest
