-- Marks, flags, places and totals: what the fates of the ballots make of the tables
-- (this project's rules for the record).
use Rattle.std.specs.Prelude.{ℕ, ◌/◌, ◌%◌, ◌==◌, Bool, true, false, ◌&&◌, List, count_by}
use Rattle.std.specs.List.{list_any}
use Rattle.sg_plan.specs.Ballots.{ballot_has, ballot_row, candidates_of, entries_of}
use Rattle.sg_plan.specs.declared.plan.Fate.{Fate}
use Rattle.sg_plan.specs.declared.plan.Fate.TheVariants as fate
use Rattle.sg_plan.specs.declared.plan.Plan.{Plan}
use Rattle.sg_streams.specs.Numbers.{numbers_below}
use Rattle.sg_tables.specs.Posts.{fate_marks}
use Rattle.sg_tables.specs.Tables.{left_of, path_of, shown_by}
use Rattle.sg_post.specs.declared.story.Told.{Told}

-- BALLOTS

-- the entry is one of the ballot's
abbrev pub is_entry_of : Plan → ℕ → ℕ → ℕ → Bool
is_entry_of plan race entry ballot = ballot_has plan ballot race && ballot_row plan race ballot == entry / candidates_of plan race

-- the ballot was audited
abbrev pub is_audit_fate : Fate → Bool
is_audit_fate (fate.Audited paper) = true
is_audit_fate other = false

-- MARKED ENTRIES

-- the ballot marks the entry
abbrev pub told_marks : Plan → List ℕ → ℕ → ℕ → Told → Bool
told_marks plan seed race entry told = is_entry_of plan race entry told.ballot && fate_marks plan race (shown_by plan seed race entry) told.fate

-- the entry is marked: its code is posted
unfoldable pub is_entry_marked : Plan → List ℕ → List Told → ℕ → ℕ → Bool
is_entry_marked plan seed fates race entry = list_any (told_marks plan seed race entry) fates

-- the ballot was audited, and the entry is one of its own
abbrev pub told_audits : Plan → ℕ → ℕ → Told → Bool
told_audits plan race entry told = is_entry_of plan race entry told.ballot && is_audit_fate told.fate

-- the entry is one of an audited ballot
unfoldable pub is_entry_audited : Plan → List Told → ℕ → ℕ → Bool
is_entry_audited plan fates race entry = list_any (told_audits plan race entry) fates

-- FLAGS, PLACES AND TOTALS

-- the flag of a row: whether its entry is marked
unfoldable pub flag_of : Plan → List ℕ → List Told → ℕ → ℕ → ℕ → Bool
flag_of plan seed fates race instance row = is_entry_marked plan seed fates race (left_of plan seed race instance row)

-- the bit of a place: whether a marked entry leads to it
unfoldable pub is_place_set : Plan → List ℕ → List Told → ℕ → ℕ → Bool
is_place_set plan seed fates race place =
    list_any (λ entry. path_of plan seed race entry == place && is_entry_marked plan seed fates race entry) (numbers_below (entries_of plan race))

-- the total of a candidate: how many of the places in its column are set
unfoldable pub total_of : Plan → List ℕ → List Told → ℕ → ℕ → ℕ
total_of plan seed fates race candidate =
    count_by (λ place. place % candidates_of plan race == candidate && is_place_set plan seed fates race place) (numbers_below (entries_of plan race))
