-- What is read from the tables of a line.
use Rattle.std.specs.Prelude.{ℕ, ◌+◌, ◌*◌, ◌/◌, ◌%◌, nat_lt, Bool, false, not, ◌&&◌, List, slice_index_or, Option, None}
use Rattle.std.specs.Option.{option_map_or}
use Rattle.sg_check.specs.Kinds.{is_there}
use Rattle.sg_forms.specs.declared.line.RowOpening.{RowOpening}
use Rattle.sg_forms.specs.declared.line.RowOpening.TheVariants as row
use Rattle.sg_plan.specs.Ballots.{candidates_of, entries_of, entry_place}
use Rattle.sg_plan.specs.declared.plan.Plan.{Plan}

-- the entry of a ballot in the column of the candidate to whom a place belongs
abbrev pub beside : ℕ → ℕ → ℕ → ℕ
beside candidates entry place = entry / candidates * candidates + place % candidates

-- the paper's code is the one that is known
abbrev pub is_same_code : Option ℕ → Option ℕ → Bool
is_same_code paper known = option_map_or (λ code. is_there paper code) known false

-- the row leads an audited entry to a candidate beside whom the paper has another code than the entry's
abbrev pub reads_another : Plan → List Bool → List (Option ℕ) → List (Option ℕ) → ℕ → RowOpening → Bool
reads_another plan audited papers known race (row.Left left) = false
reads_another plan audited papers known race (row.Right right) = false
reads_another plan audited papers known race (row.Both left right) =
    (nat_lt left.value (entries_of plan race) && nat_lt right.value (entries_of plan race))
    && (slice_index_or audited (entry_place plan race left.value) false
    && not (is_same_code (slice_index_or papers (entry_place plan race (beside (candidates_of plan race) left.value right.value)) None) (slice_index_or known (entry_place plan race left.value) None)))
