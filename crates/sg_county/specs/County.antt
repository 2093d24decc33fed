-- The answer on a county: the records of its parts, one after another (this project's rules for a county).
use Rattle.std.specs.Prelude.{◌≡◌, ℕ, ◌+◌, ◌==◌, ◌<◌, if◌then◌else◌, Bool, false, ◌&&◌, ◌⊎◌, List, [], ◌∷◌, ◌++◌, length, find, map, sum_by, slice_get, Option, Some, None, bytes_eq, codes}
use Rattle.std.specs.Option.{option_map_or}
use Rattle.sg_commit.specs.declared.Digest.{Digest}
use Rattle.sg_record.specs.declared.record.Record.{Record}
use Rattle.sg_check.specs.declared.judged.Judged.TheVariants as judged
use Rattle.sg_check.specs.declared.judged.Total.{Total}
use Rattle.sg_fronts.specs.ByRecords.{IsWholeAndAgrees, Says, totals_on}
use Rattle.sg_county.specs.declared.verdict.CountyVerdict.{CountyVerdict}
use Rattle.sg_county.specs.declared.verdict.CountyVerdict.TheVariants.{Yes, No, Differs, Repeats, Parts}

-- THE PARTS

-- the line between two parts
abbrev pub is_next : List ℕ → Bool
is_next line = bytes_eq line (codes "next\n")

-- the line at the front of the first part
abbrev pub onto_part : List ℕ → List (List (List ℕ)) → List (List (List ℕ))
onto_part line [] = (line ∷ []) ∷ []
onto_part line (part ∷ parts) = (line ∷ part) ∷ parts

-- the lines of each part: there is at least one part, which may have none
abbrev pub parts_of : List (List ℕ) → List (List (List ℕ))
parts_of [] = [] ∷ []
parts_of (line ∷ lines) = (if is_next line then [] ∷ parts_of lines else onto_part line (parts_of lines))

-- WHAT A PART'S RECORD SAYS

-- it has the races of the first of these records: their names, candidates and votes; the first has its own
abbrev pub HasTheRaces : List Record → Record → Type 0
HasTheRaces [] posted = Unit {0}
HasTheRaces (first ∷ others) posted = posted.plan.races ≡ first.plan.races

-- the digest on its line `seal 1`
abbrev pub first_seal_of : Record → Option Digest
first_seal_of posted = slice_get posted.seals 0

-- two parts have the same digest there
abbrev pub same_seal : Option Digest → Option Digest → Bool
same_seal (Some one) (Some other) = bytes_eq one.0 other.0
same_seal one other = false

-- the first of the seals that is this one, where the first of them has this number
abbrev pub first_equal : Option Digest → ℕ → List (Option Digest) → Option ℕ
first_equal seal number [] = None
first_equal seal number (other ∷ seals) = (if same_seal seal other then Some number else first_equal seal (number + 1) seals)

-- the number of the first of these records that has the seal of this one
abbrev pub first_sealed : List Record → Record → Option ℕ
first_sealed before posted = first_equal (first_seal_of posted) 1 (map first_seal_of before)

-- THE SUMS

-- the votes that totals give a candidate
abbrev pub votes_in : ℕ → ℕ → List Total → ℕ
votes_in race candidate totals = option_map_or (λ total. total.count) (find (λ total. total.race == race && total.candidate == candidate) totals) 0

-- a total, and the votes of its candidate in these records
abbrev pub summed : List Record → Total → Total
summed others total = record { race = total.race; candidate = total.candidate; count = total.count + sum_by (λ posted. votes_in total.race total.candidate (totals_on posted)) others }

-- each total of the first record, with the votes of its candidate in the others
abbrev pub sums_of : List Record → List Total
sums_of [] = []
sums_of (first ∷ others) = map (summed others) (totals_on first)

-- THE TABLE

-- so many parts may stand
abbrev pub most_parts : ℕ
most_parts = 100

-- a part behind these records settles nothing: it is this record, which is good, has the races of the first, and a seal of its own
pub record Counts (before : List Record) (part : List (List ℕ)) (posted : Record) : Type 0 where
  pub few : length before < most_parts
  pub good : IsWholeAndAgrees part posted
  pub races : HasTheRaces before posted
  pub seal : first_sealed before posted ≡ None

-- one more part may stand behind these records, and has this number
pub record IsNext (before : List Record) (number : ℕ) : Type 0 where
  pub few : length before < most_parts
  pub number_is : number ≡ length before + 1

-- what a part behind these records settles: that it is one too many; that it is bad at this line; that it is a good record, which
-- has other races than the first; or that it has these, and the seal of the record of the other number, the first that has it
abbrev pub Settles : List Record → List (List ℕ) → CountyVerdict → Type 0
Settles before part Parts = length before ≡ most_parts
Settles before part (No number line kind) = IsNext before number × Says (judged.No line kind) part
Settles before part (Differs number) = IsNext before number × (posted : Record) × IsWholeAndAgrees part posted × (HasTheRaces before posted → ⊥)
Settles before part (Repeats number other) = IsNext before number × (posted : Record) × IsWholeAndAgrees part posted × HasTheRaces before posted × (first_sealed before posted ≡ Some other)
Settles before part (Yes totals) = ⊥

-- no part settled anything
abbrev pub AreSummed : List Record → CountyVerdict → Type 0
AreSummed before (Yes totals) = totals ≡ sums_of before
AreSummed before verdict = ⊥

-- the first answer that one of these parts settles, behind the records of those before them; or yes
abbrev pub IsFirstSettled : List Record → List (List (List ℕ)) → CountyVerdict → Type 0
IsFirstSettled before [] verdict = AreSummed before verdict
IsFirstSettled before (part ∷ parts) verdict = Settles before part verdict ⊎ ((posted : Record) × Counts before part posted × IsFirstSettled (before ++ posted ∷ []) parts verdict)

-- the answer on the lines
abbrev pub IsCounty : List (List ℕ) → CountyVerdict → Type 0
IsCounty lines verdict = IsFirstSettled [] (parts_of lines) verdict
