-- How often each text is still to be done, and which station did a text first.
use Rattle.std.specs.Prelude.{◌≡◌, ℕ, ℤ, ◌==◌, Bool, true, List, String}
use Rattle.std.specs.List.{list_all}
use Rattle.std.specs.Option.{unwrap_or}
use Rattle.std.specs.Str.{is_utf8}
use Rattle.std.specs.BTreeMap.{BTreeMap, get_by_text}
use Rattle.sg_keeper.specs.declared.rows.DoneRow.{DoneRow}
use Rattle.sg_histories.specs.ValidRows.{station_of}

-- what is counted of a text
abbrev pub left_of : {A : Type 0} → BTreeMap (String A) ℕ → List ℕ → ℕ
left_of counts text = unwrap_or (get_by_text counts text) 0

-- nothing is left of these texts
abbrev pub all_used : {A : Type 0} → BTreeMap (String A) ℕ → List (List ℕ) → Bool
all_used counts told = list_all (λ text. left_of counts text == 0) told

-- of each text, the station of the first of the rows that did it
abbrev pub TellsStations : {A : Type 0} → BTreeMap (String A) ℤ → List DoneRow → Type 0
TellsStations stations rows = (text : List ℕ) → is_utf8 text ≡ true → get_by_text stations text ≡ station_of text rows
