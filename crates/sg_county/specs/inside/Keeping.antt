-- What a tally keeps of the parts that have ended, and what it finds of one that ends.
use Rattle.std.specs.Prelude.{◌≡◌, ℕ, ◌+◌, ◌<◌, ◌==◌, ◌^◌, if◌then◌else◌, Bool, true, false, List, [], ◌∷◌, ◌++◌, length, map, Option, Some, None}
use Rattle.std.specs.Option.{option_map_or}
use Rattle.sg_plan.specs.declared.plan.Race.{Race}
use Rattle.sg_record.specs.Lines.{texts_in}
use Rattle.sg_record.specs.declared.record.Record.{Record}
use Rattle.sg_check.specs.declared.judged.Judged.{Judged}
use Rattle.sg_check.specs.declared.judged.Judged.TheVariants as judged
use Rattle.sg_check.specs.declared.judged.Total.{Total}
use Rattle.sg_fronts.specs.ByRecords.{totals_on}
use Rattle.sg_judge.specs.Pass.{plan_of}
use Rattle.sg_county.specs.County.{Counts, HasTheRaces, Settles, first_seal_of, first_sealed, most_parts, parts_of, sums_of, votes_in}
use Rattle.sg_county.specs.declared.ending.Close.{Close}
use Rattle.sg_county.specs.declared.ending.Close.TheVariants as close
use Rattle.sg_county.specs.declared.ending.Found.{Found}
use Rattle.sg_county.specs.declared.kept.Kept.{Kept}
use Rattle.sg_county.specs.declared.verdict.CountyVerdict.TheVariants.{No, Differs, Repeats}

-- THE PARTS

-- each of these records counts, behind those before it
abbrev pub AllCount : List Record → List Record → Type 0
AllCount before [] = Unit {0}
AllCount before (posted ∷ more) = Counts before (texts_in posted) posted × AllCount (before ++ posted ∷ []) more

-- the lines have this last part, behind records that settle nothing, and it is none too many
pub record AreParts (lines : List (List ℕ)) (before : List Record) (last : List (List ℕ)) : Type 0 where
  pub parts : parts_of lines ≡ map texts_in before ++ last ∷ []
  pub count : AllCount [] before
  pub few : length before < most_parts

-- WHAT IS KEPT

-- the races that lines give
abbrev pub races_of : List (List ℕ) → List Race
races_of part = option_map_or (λ plan. plan.races) (plan_of part) []

-- the races of the first of the records, where there is one
abbrev pub FirstRaces : List Race → List Record → Type 0
FirstRaces races [] = Unit {0}
FirstRaces races (first ∷ others) = races ≡ first.plan.races

-- of these records this is kept
pub record Keeps (kept : Kept) (before : List Record) : Type 0 where
  pub races : FirstRaces kept.races before
  pub sums : kept.sums ≡ sums_of before
  pub seals : kept.seals ≡ map first_seal_of before

-- WHAT IS FOUND OF A PART

-- this is found of a record behind these: whether it has the races of the first, and which of them has its seal
pub record IsFound (found : Found) (before : List Record) (posted : Record) : Type 0 where
  pub same : found.same ≡ true → HasTheRaces before posted
  pub differs : found.same ≡ false → HasTheRaces before posted → ⊥
  pub other : found.other ≡ first_sealed before posted

-- what is kept of these records, with the seal of one more, and its races where it is the first
pub record IsNoted (old new : Kept) (before : List Record) (posted : Record) : Type 0 where
  pub races : FirstRaces new.races (before ++ posted ∷ [])
  pub sums : new.sums ≡ old.sums
  pub seals : new.seals ≡ map first_seal_of (before ++ posted ∷ [])

-- what the table says of a part of which this is found
abbrev pub close_good : ℕ → List Total → Bool → Option ℕ → Close
close_good number totals false other = close.Settles (Differs number)
close_good number totals true (Some other) = close.Settles (Repeats number other)
close_good number totals true None = close.Counts totals

abbrev pub close_of : Found → Judged → Close
close_of found (judged.No line kind) = close.Settles (No found.number line kind)
close_of found (judged.Yes totals) = close_good found.number totals found.same found.other

-- the part counts, with these totals; or it settles this
abbrev pub Closes : List Record → List (List ℕ) → Close → Type 0
Closes before part (close.Counts totals) = (posted : Record) × Counts before part posted × (totals ≡ totals_on posted)
Closes before part (close.Settles verdict) = Settles before part verdict

-- ADDING

-- a sum with the votes of its candidate among these totals
abbrev pub with_votes : List Total → Total → Total
with_votes totals sum = record { race = sum.race; candidate = sum.candidate; count = sum.count + votes_in sum.race sum.candidate totals }

-- each of these sums stays below 2^32
abbrev pub Fit : List Total → List Total → Type 0
Fit totals [] = Unit {0}
Fit totals (sum ∷ sums) = (sum.count + votes_in sum.race sum.candidate totals < 2 ^ 32) × Fit totals sums

-- the sums behind the part of this number
abbrev pub more_sums : ℕ → List Total → List Total → List Total
more_sums number sums totals = (if number == 1 then totals else map (with_votes totals) sums)

-- behind another part than the first they stay so
abbrev pub FitsBehind : ℕ → List Total → List Total → Type 0
FitsBehind number sums totals = (number == 1) ≡ false → Fit totals sums

abbrev pub Fits : ℕ → List Total → Close → Type 0
Fits number sums (close.Counts totals) = FitsBehind number sums totals
Fits number sums (close.Settles verdict) = Unit {0}
