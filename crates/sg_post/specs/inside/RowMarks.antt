-- Marks as they are made, one ballot row after another.
use Rattle.std.specs.Prelude.{ℕ, ◌/◌, ◌==◌, Bool, ◌&&◌, ◌||◌, List, map}
use Rattle.std.specs.List.{list_any}
use Rattle.sg_plan.specs.Ballots.{candidates_of, entries_of}
use Rattle.sg_plan.specs.declared.plan.Fate.TheVariants as fate
use Rattle.sg_plan.specs.declared.plan.Mark.{Mark}
use Rattle.sg_plan.specs.declared.plan.Plan.{Plan}
use Rattle.sg_streams.specs.Numbers.{numbers_below}
use Rattle.sg_tables.specs.Tables.{shown_by}
use Rattle.sg_plan.specs.Fates.{has_mark}
use Rattle.sg_tables.specs.Posts.{fate_marks}
use Rattle.sg_post.specs.Marks.{is_entry_of, told_marks}
use Rattle.sg_post.specs.inside.Making.{has_bit}
use Rattle.sg_post.specs.declared.story.Told.{Told}

-- the entry is of the ballot row, and shows a candidate that is marked
abbrev pub row_marks : Plan → List ℕ → ℕ → ℕ → List Mark → ℕ → Bool
row_marks plan seed race row marks entry = row == entry / candidates_of plan race && has_mark marks race (shown_by plan seed race entry)

-- the bits of a race's entries with those of a ballot row that has these marks
abbrev pub marked_row : Plan → List ℕ → ℕ → ℕ → List Mark → List Bool → List Bool
marked_row plan seed race row marks bits = map (λ entry. has_bit bits entry || row_marks plan seed race row marks entry) (numbers_below (entries_of plan race))

-- the entry is of the ballot, and shows a candidate for which these marks count
abbrev pub cast_marks_entry : Plan → List ℕ → ℕ → ℕ → List Mark → ℕ → Bool
cast_marks_entry plan seed race ballot marks entry = is_entry_of plan race entry ballot && fate_marks plan race (shown_by plan seed race entry) (fate.Cast marks)

-- the bits of a race's entries with those of a cast ballot that has these marks
abbrev pub marked_cast : Plan → List ℕ → ℕ → ℕ → List Mark → List Bool → List Bool
marked_cast plan seed race ballot marks bits = map (λ entry. has_bit bits entry || cast_marks_entry plan seed race ballot marks entry) (numbers_below (entries_of plan race))

-- the bits of a race's entries with those of these ballots
abbrev pub marked_fates : Plan → List ℕ → ℕ → List Told → List Bool → List Bool
marked_fates plan seed race fates bits = map (λ entry. has_bit bits entry || list_any (told_marks plan seed race entry) fates) (numbers_below (entries_of plan race))
