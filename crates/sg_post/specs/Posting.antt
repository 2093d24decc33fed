-- What a posting stands for: the marks, flags, places and totals of a story.
use Rattle.std.specs.Prelude.{◌≡◌, ℕ, ◌+◌, ◌<◌, ◌==◌, Bool, ◌&&◌, List, [], length, map, slice_index_or}
use Rattle.std.specs.List.{list_any}
use Rattle.sg_plan.specs.Ballots.{ballots_of}
use Rattle.sg_plan.specs.declared.plan.Plan.{Plan}
use Rattle.sg_streams.specs.Numbers.{numbers_below}
use Rattle.sg_post.specs.Marks.{flag_of, is_audit_fate, is_entry_marked, is_place_set, total_of}
use Rattle.sg_post.specs.Posted.{by_candidate, by_entry, by_row}
use Rattle.sg_post.specs.declared.posting.Posting.{Posting}
use Rattle.sg_post.specs.declared.story.Told.{Told}

-- one of the fates is that the ballot was audited
abbrev pub is_audited_ballot : List Told → ℕ → Bool
is_audited_ballot fates ballot = list_any (λ told. told.ballot == ballot && is_audit_fate told.fate) fates

-- the posting is that of these fates, over the tables of the plan and the seed
pub record IsPosting (plan : Plan) (seed : List ℕ) (fates : List Told) (posting : Posting) : Type 0 where
  pub index : posting.index ≡ plan
  pub marks : posting.marks ≡ by_entry plan (is_entry_marked plan seed fates)
  pub flags : posting.flags ≡ by_row plan (flag_of plan seed fates)
  pub places : posting.places ≡ by_entry plan (is_place_set plan seed fates)
  pub totals : posting.totals ≡ by_candidate plan (total_of plan seed fates)
  pub audited : posting.audited ≡ map (is_audited_ballot fates) (numbers_below (ballots_of plan + 1))

-- the list of lists has such an item
abbrev pub HasItem : {A : Type 0} → List (List A) → ℕ → ℕ → Type 0
HasItem lists first second = (first < length lists) × (second < length (slice_index_or lists first []))

abbrev pub HasItemIn : {A : Type 0} → List (List (List A)) → ℕ → ℕ → ℕ → Type 0
HasItemIn lists first second third = (first < length lists) × HasItem (slice_index_or lists first []) second third
