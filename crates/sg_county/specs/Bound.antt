-- What a yes on a county promises: the bound of one record, summed over the parts.
use Rattle.std.specs.Prelude.{ℕ, ◌<◌, List, [], ◌∷◌, Contains, sum_by}
use Rattle.sg_record.specs.Laws.{AreLinesOf}
use Rattle.sg_record.specs.Places.{places_in}
use Rattle.sg_record.specs.declared.record.Record.{Record}
use Rattle.sg_check.specs.declared.judged.Total.{Total}
use Rattle.sg_check.specs.Bounds.{DifferByAtMost}
use Rattle.sg_check.specs.Completions.{Completion, OpensNoneTwice, altered_rows}
use Rattle.sg_check.specs.Printings.{AreCodesDifferent, Printing, StandsWith, posted_count}
use Rattle.sg_county.specs.County.{IsCounty, parts_of}
use Rattle.sg_county.specs.declared.verdict.CountyVerdict.TheVariants.{Yes}

-- a part's record with what was printed for it, what could open the rest of it, and an instance of it
pub record Seen : Type 0 where
  pub posted : Record
  pub printing : Printing
  pub completion : Completion
  pub instance : ℕ

-- the part's lines are those of the record, the printing stands with it, and the completion opens no commitment twice
pub record IsSeen (part : List (List ℕ)) (seen : Seen) : Type 0 where
  pub are : AreLinesOf part seen.posted
  pub differ : AreCodesDifferent seen.posted.plan seen.printing
  pub stands : StandsWith seen.posted.plan (places_in seen.posted) seen.printing
  pub none_twice : OpensNoneTwice (places_in seen.posted) seen.completion
  pub within : seen.instance < seen.posted.plan.instances

-- of each of the parts
abbrev pub AreSeen : List (List (List ℕ)) → List Seen → Type 0
AreSeen [] [] = Unit {0}
AreSeen (part ∷ parts) (seen ∷ more) = IsSeen part seen × AreSeen parts more
AreSeen parts all = ⊥

-- the altered rows of the race in the instance, and the posted codes that are printed beside the candidate
abbrev pub altered_in : ℕ → Seen → ℕ
altered_in race seen = altered_rows seen.posted.plan (places_in seen.posted) seen.completion seen.printing race seen.instance

abbrev pub posted_in : ℕ → ℕ → Seen → ℕ
posted_in race candidate seen = posted_count seen.posted.plan (places_in seen.posted) seen.printing race candidate

-- each sum differs from the sum of the parts' counts by at most the sum of the altered rows of its race
abbrev pub AreSumsBound : List Total → List Seen → Type 0
AreSumsBound totals all = (total : Total) → Contains totals total
    → DifferByAtMost (sum_by (altered_in total.race) all) total.count (sum_by (posted_in total.race total.candidate) all)

-- so it is behind a yes, whatever was printed for the parts and opens the rest of them
abbrev pub SumsBound : Type 0
SumsBound = (lines : List (List ℕ)) (totals : List Total) (all : List Seen) → IsCounty lines (Yes totals) → AreSeen (parts_of lines) all → AreSumsBound totals all
