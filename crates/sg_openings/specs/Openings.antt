-- What a court is handed of an office's tables: the openings of both halves of each row, which is a completion that opens
-- all that the record leaves unopened (this project's formats).
use Rattle.std.specs.Prelude.{ℕ, List, ◌∷◌, length, map, codes}
use Rattle.std.specs.List.{concat, flat_map}
use Rattle.sg_plan.specs.Ballots.{entries_of}
use Rattle.sg_plan.specs.declared.plan.Plan.{Plan}
use Rattle.sg_streams.specs.Numbers.{numbers_below}
use Rattle.sg_forms.specs.Said.Said.{Row}
use Rattle.sg_forms.specs.Spelling.{spelling}
use Rattle.sg_forms.specs.declared.line.RowOpening.{RowOpening}
use Rattle.sg_post.specs.Posted.{both_sides}

-- the line before the openings
abbrev pub completion_line : List ℕ
completion_line = codes "completion\n"

-- what opens both halves of each row: of the rows of an instance, of those of a race's instances, and of those of all races
abbrev pub instance_rows : Plan → List ℕ → ℕ → ℕ → List RowOpening
instance_rows plan seed race instance = map (both_sides plan seed race instance) (numbers_below (entries_of plan race))

abbrev pub race_rows : Plan → List ℕ → ℕ → List RowOpening
race_rows plan seed race = flat_map (instance_rows plan seed race) (numbers_below plan.instances)

abbrev pub all_rows : Plan → List ℕ → List RowOpening
all_rows plan seed = flat_map (race_rows plan seed) (numbers_below (length plan.races))

-- the line of a row, as in a record that opens it so
abbrev pub row_text : Plan → RowOpening → List ℕ
row_text plan opening = spelling plan.version (Row opening)

-- the line `completion`, and a line for each row
abbrev pub openings_texts : Plan → List ℕ → List (List ℕ)
openings_texts plan seed = completion_line ∷ map (row_text plan) (all_rows plan seed)

-- the same as bytes
unfoldable pub openings_text : Plan → List ℕ → List ℕ
openings_text plan seed = concat (openings_texts plan seed)
