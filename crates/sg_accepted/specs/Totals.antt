-- The totals of an unaltered run.
use Rattle.std.specs.Prelude.{◌≡◌, ℕ, ◌<◌, ◌%◌, ◌==◌, Bool, true, ◌&&◌, List, [], ◌∷◌, length, count_by, None}
use Rattle.sg_plan.specs.Ballots.{ballot_has, candidates_of, entries_of}
use Rattle.sg_plan.specs.Limits.{fault_of}
use Rattle.sg_plan.specs.declared.plan.Plan.{Plan}
use Rattle.sg_outside.specs.TextLines.{lines_of}
use Rattle.sg_streams.specs.Numbers.{numbers_below}
use Rattle.sg_tables.specs.Tables.{path_of}
use Rattle.sg_grammar.specs.Due.{each}
use Rattle.sg_check.specs.Verdict.{IsVerdict}
use Rattle.sg_check.specs.declared.judged.Judged.{Judged}
use Rattle.sg_check.specs.declared.judged.Judged.TheVariants as judged
use Rattle.sg_check.specs.declared.judged.Total.{Total}
use Rattle.sg_post.specs.Fits.{fates_fit}
use Rattle.sg_post.specs.Marks.{is_entry_marked, total_of}
use Rattle.sg_post.specs.Posted.{posted_text}
use Rattle.sg_post.specs.declared.story.Story.{Story}
use Rattle.sg_post.specs.declared.story.Told.{Told}
use Rattle.sg_tables.specs.Posts.{fate_marks}
use Rattle.sg_accepted.specs.Unaltered.{IsUnaltered}

-- the total of a candidate
abbrev pub one_total : Plan → List ℕ → List Told → ℕ → ℕ → List Total
one_total plan seed fates race candidate = record { race = race; candidate = candidate; count = total_of plan seed fates race candidate } ∷ []

-- the totals of all candidates, race by race
unfoldable pub told_totals : Plan → List ℕ → List Told → List Total
told_totals plan seed fates = each (λ race. each (one_total plan seed fates race) 0 (candidates_of plan race)) 0 (length plan.races)

-- the verdict on an unaltered run is yes, with its totals
abbrev pub UnalteredHasTotals : Type 0
UnalteredHasTotals = (plan : Plan) (seed : List ℕ) (story : Story) → fault_of plan ≡ None → IsUnaltered plan seed story
    → IsVerdict (lines_of (posted_text plan seed story)) (judged.Yes (told_totals plan seed story.fates))

-- and no other verdict is one on it: above all none that is no
abbrev pub UnalteredIsNeverNo : Type 0
UnalteredIsNeverNo = (plan : Plan) (seed : List ℕ) (story : Story) (found : Judged) → fault_of plan ≡ None → IsUnaltered plan seed story
    → IsVerdict (lines_of (posted_text plan seed story)) found → found ≡ judged.Yes (told_totals plan seed story.fates)

-- a total is the number of the marked entries that lead to a place in the candidate's column
abbrev pub TotalsCountMarks : Type 0
TotalsCountMarks = (plan : Plan) (seed : List ℕ) (fates : List Told) (race candidate : ℕ)
    → total_of plan seed fates race candidate
    ≡ count_by (λ entry. path_of plan seed race entry % candidates_of plan race == candidate && is_entry_marked plan seed fates race entry) (numbers_below (entries_of plan race))

-- the ballot has the race, and its marks count for the candidate
abbrev pub votes_so : Plan → ℕ → ℕ → Told → Bool
votes_so plan race candidate told = ballot_has plan told.ballot race && fate_marks plan race candidate told.fate

-- and so the number of the cast ballots whose marks count for the candidate
abbrev pub TotalsAreVotes : Type 0
TotalsAreVotes = (plan : Plan) (seed : List ℕ) (fates : List Told) (race candidate : ℕ) → fates_fit plan 0 fates ≡ true → candidate < candidates_of plan race
    → total_of plan seed fates race candidate ≡ count_by (votes_so plan race candidate) fates
