-- What a yes promises of the halves that a record doesn't open, for each printing and each completion
-- (this project's rules for the record).
use Rattle.std.specs.Prelude.{◌≡◌, ℕ, ◌+◌, ◌<◌, ◌≤◌, true, false, List, Contains, length, Some}
use Rattle.sg_plan.specs.Ballots.{candidates_of}
use Rattle.sg_plan.specs.declared.plan.Plan.{Plan}
use Rattle.sg_grammar.specs.Lines.{placed_of}
use Rattle.sg_grammar.specs.Placed.{Placed}
use Rattle.sg_grammar.specs.Walk.{Walked, is_whole, start, walk}
use Rattle.sg_check.specs.Completions.{Completion, IsCompletion, OpensNoneTwice, altered_rows}
use Rattle.sg_check.specs.Facts.{is_full_draw}
use Rattle.sg_check.specs.Printings.{AreCodesDifferent, IsPrinting, Printing, StandsWith, posted_count}
use Rattle.sg_check.specs.Verdict.{breaks}
use Rattle.sg_check.specs.declared.judged.Judged.{Judged}
use Rattle.sg_check.specs.declared.judged.Judged.TheVariants as judged
use Rattle.sg_check.specs.declared.judged.Kind.{Kind}
use Rattle.sg_check.specs.declared.judged.Kind.TheVariants as kind
use Rattle.sg_check.specs.declared.judged.Total.{Total}

-- two numbers differ by at most the third
pub record DifferByAtMost (most a b : ℕ) : Type 0 where
  pub more : a ≤ b + most
  pub less : b ≤ a + most

-- for every printing that stands with the record and every completion that opens no commitment twice, each instance has at
-- least as many altered rows as any posted total of its race differs from the count of posted codes: of a printing it is
-- only asked that the codes of a row differ, and of a completion that it has what the record posts
abbrev pub AreTotalsBound : Plan → List Placed → List Total → Type 0
AreTotalsBound plan lines totals =
    (printing : Printing) (completion : Completion)
    → AreCodesDifferent plan printing → StandsWith plan lines printing → OpensNoneTwice lines completion
    → (total : Total) (instance : ℕ) → Contains totals total → instance < plan.instances
    → DifferByAtMost (altered_rows plan lines completion printing total.race instance) total.count (posted_count plan lines printing total.race total.candidate)

-- there is a printing that stands with the record
abbrev pub HasPrinting : Plan → List Placed → Type 0
HasPrinting plan lines = (printing : Printing) × IsPrinting plan printing × StandsWith plan lines printing

-- there is a completion that opens no commitment twice
abbrev pub HasCompletion : Plan → List Placed → Type 0
HasCompletion plan lines = (completion : Completion) × IsCompletion plan lines completion × OpensNoneTwice lines completion

-- each candidate of each race has a total
abbrev pub AreAllTotalled : Plan → List Total → Type 0
AreAllTotalled plan totals =
    (race candidate : ℕ) → race < length plan.races → candidate < candidates_of plan race
    → (count : ℕ) × Contains totals (record { race = race; candidate = candidate; count = count })

-- each total is the count of posted codes, for every printing that stands with the record
abbrev pub AreTotalsEqual : Plan → List Placed → List Total → Type 0
AreTotalsEqual plan lines totals =
    (printing : Printing) → AreCodesDifferent plan printing → StandsWith plan lines printing
    → (total : Total) → Contains totals total → total.count ≡ posted_count plan lines printing total.race total.candidate

-- what a yes with these totals promises of the lines
pub record IsSound (lines : List (List ℕ)) (totals : List Total) : Type 0 where
  -- the bytes read are a record: lines that may stand one after another, each in its place
  pub walked : Walked
  pub walks : walk start lines ≡ Some walked
  -- a whole record
  pub whole : is_whole walked.next ≡ true
  -- whose openings match their commitments
  pub openings : breaks kind.Opening lines ≡ false
  -- and whose opened halves agree: no line is bad in any kind
  pub agree : (k : Kind) → breaks k lines ≡ false
  -- then, for every printing and every completion that opens no commitment twice, each instance has at least as many rows
  -- altered in their unopened halves as any posted total of its race differs from the count of posted codes
  pub bound : AreTotalsBound walked.next.plan (placed_of walked.posted) totals
  -- any posted total: each candidate of each race has one
  pub totalled : AreAllTotalled walked.next.plan totals
  -- every printing: there is one
  pub printing : HasPrinting walked.next.plan (placed_of walked.posted)
  -- every completion: there is one
  pub completion : HasCompletion walked.next.plan (placed_of walked.posted)
  -- where both sides of each row are drawn, no half is unopened, and each total is the count of posted codes
  pub full : is_full_draw (placed_of walked.posted) ≡ true → AreTotalsEqual walked.next.plan (placed_of walked.posted) totals

-- the same of a verdict: a no promises nothing here
abbrev pub IsSoundIfYes : List (List ℕ) → Judged → Type 0
IsSoundIfYes lines (judged.Yes totals) = IsSound lines totals
IsSoundIfYes lines (judged.No number broken) = Unit {0}
