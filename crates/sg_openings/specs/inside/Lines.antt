-- The lines of rows, number by number, as they are written.
use Rattle.std.specs.Prelude.{ℕ, List, [], ◌∷◌, length}
use Rattle.sg_plan.specs.Ballots.{entries_of}
use Rattle.sg_plan.specs.declared.plan.Plan.{Plan}
use Rattle.sg_forms.specs.Said.{Said}
use Rattle.sg_forms.specs.Said.Said.{Row}
use Rattle.sg_grammar.specs.Due.{each}
use Rattle.sg_post.specs.Posted.{both_sides}

-- the line of a row
abbrev pub row_line : Plan → List ℕ → ℕ → ℕ → ℕ → List Said
row_line plan seed race instance row = Row (both_sides plan seed race instance row) ∷ []

-- of the rows of an instance, of those of a race's instances, and of those of all races
abbrev pub instance_lines : Plan → List ℕ → ℕ → ℕ → List Said
instance_lines plan seed race instance = each (row_line plan seed race instance) 0 (entries_of plan race)

abbrev pub race_lines : Plan → List ℕ → ℕ → List Said
race_lines plan seed race = each (instance_lines plan seed race) 0 plan.instances

abbrev pub all_lines : Plan → List ℕ → List Said
all_lines plan seed = each (race_lines plan seed) 0 (length plan.races)
