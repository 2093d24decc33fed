-- What a recount finds: the altered rows of each instance, and each candidate's total and count of posted codes
-- (this project's rules for a recount).
use Rattle.std.specs.Prelude.{◌≡◌, ℕ, ◌<◌, if◌then◌else◌, List, [], ◌∷◌, length, slice_index_or}
use Rattle.sg_plan.specs.Ballots.{candidates_of, entries_of}
use Rattle.sg_plan.specs.declared.plan.Plan.{Plan}
use Rattle.sg_grammar.specs.Due.{each}
use Rattle.sg_grammar.specs.Placed.{Placed}
use Rattle.sg_record.specs.Places.{places_in}
use Rattle.sg_check.specs.Bounds.{DifferByAtMost}
use Rattle.sg_check.specs.Completions.{Completion, is_altered}
use Rattle.sg_check.specs.Printings.{Printing, posted_count}
use Rattle.sg_facts.specs.Totals.{total_of}
use Rattle.sg_parts.specs.Given.{Given, completion_of, printing_of}
use Rattle.sg_recount.specs.declared.findings.Findings.{Findings}
use Rattle.sg_recount.specs.declared.findings.Sum.{Sum}

-- the row, where it is altered
abbrev pub altered_row : Plan → List Placed → Completion → Printing → ℕ → ℕ → ℕ → List ℕ
altered_row plan lines completion printing race instance row = (if is_altered plan lines completion printing race instance row then row ∷ [] else [])

-- the altered rows of an instance, rising; of a race, by instance; of all races
abbrev pub altered_in : Plan → List Placed → Completion → Printing → ℕ → ℕ → List ℕ
altered_in plan lines completion printing race instance = each (altered_row plan lines completion printing race instance) 0 (entries_of plan race)

abbrev pub race_altered : Plan → List Placed → Completion → Printing → ℕ → List (List ℕ)
race_altered plan lines completion printing race = each (λ instance. altered_in plan lines completion printing race instance ∷ []) 0 plan.instances

abbrev pub all_altered : Plan → List Placed → Completion → Printing → List (List (List ℕ))
all_altered plan lines completion printing = each (λ race. race_altered plan lines completion printing race ∷ []) 0 (length plan.races)

-- a candidate's total, and how many posted codes are printed beside the candidate
abbrev pub sum_of : Plan → List Placed → Printing → ℕ → ℕ → Sum
sum_of plan lines printing race candidate = record { total = total_of lines race candidate; count = posted_count plan lines printing race candidate }

abbrev pub race_sums : Plan → List Placed → Printing → ℕ → List Sum
race_sums plan lines printing race = each (λ candidate. sum_of plan lines printing race candidate ∷ []) 0 (candidates_of plan race)

abbrev pub all_sums : Plan → List Placed → Printing → List (List Sum)
all_sums plan lines printing = each (λ race. race_sums plan lines printing race ∷ []) 0 (length plan.races)

-- the findings are exactly these, over the record's lines in their places
pub record AreFindings (given : Given) (findings : Findings) : Type 0 where
  pub altered : findings.altered ≡ all_altered given.posted.plan (places_in given.posted) (completion_of given.rows) (printing_of given.codes)
  pub sums : findings.sums ≡ all_sums given.posted.plan (places_in given.posted) (printing_of given.codes)

-- each candidate's total and count differ by at most the altered rows of each instance
abbrev pub AreSumsBound : Given → Findings → Type 0
AreSumsBound given findings =
    (race instance candidate : ℕ) → race < length given.posted.plan.races → instance < given.posted.plan.instances → candidate < candidates_of given.posted.plan race
    → DifferByAtMost (length (slice_index_or (slice_index_or findings.altered race []) instance []))
    (slice_index_or (slice_index_or findings.sums race []) candidate (record { total = 0; count = 0 })).total
    (slice_index_or (slice_index_or findings.sums race []) candidate (record { total = 0; count = 0 })).count
