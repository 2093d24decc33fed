-- Each candidate's total and count differ by at most the altered rows that are found in each instance.
use Rattle.std.proofs.Common.{◌≡◌, ℕ, ◌<◌, List, [], length, slice_index_or, ap, ◌∙◌, arith}
use Rattle.sg_plan.specs.Ballots.{candidates_of, entries_of}
use Rattle.sg_record.specs.Places.{places_in}
use Rattle.sg_record.specs.declared.record.Record.{Record}
use Rattle.sg_check.proofs.BoundLaws.{among_total}
use Rattle.sg_check.specs.Bounds.{DifferByAtMost}
use Rattle.sg_check.specs.Completions.{altered_rows, is_altered}
use Rattle.sg_check.specs.Printings.{posted_count}
use Rattle.sg_facts.proofs.Totals.{total_there}
use Rattle.sg_facts.specs.Totals.{total_of}
use Rattle.sg_fronts.proofs.OfRecord.{has_each, placed}
use Rattle.sg_fronts.specs.ByRecords.{posted_of}
use Rattle.sg_parts.proofs.Accepting.{bound}
use Rattle.sg_parts.specs.Given.{AreParts, Given, completion_of, printing_of}
use Rattle.sg_recount.proofs.Each.{all_passing, item_of}
use Rattle.sg_recount.specs.Findings.{AreFindings, AreSumsBound, altered_in, race_altered, race_sums, sum_of}
use Rattle.sg_recount.specs.declared.findings.Findings.{Findings}
use Rattle.sg_recount.specs.declared.findings.Sum.{Sum}

pub same_sum : (a b c d : ℕ) → a ≡ c → b ≡ d → (let s : Sum = record { total = a; count = b } in s) ≡ (let s : Sum = record { total = c; count = d } in s)
same_sum a b c d totals counts =
    ap (λ (n : ℕ). let s : Sum = record { total = n; count = b } in s) totals ∙ ap (λ (n : ℕ). let s : Sum = record { total = c; count = n } in s) counts

module _ (given : Given) (parts : AreParts given) where
  abbrev posted : Record
  posted = given.posted

  -- the bound of the posted total
  total_bound : (race instance candidate : ℕ) → race < length posted.plan.races → instance < posted.plan.instances → candidate < candidates_of posted.plan race
      → DifferByAtMost (altered_rows posted.plan (places_in posted) (completion_of given.rows) (printing_of given.codes) race instance) (total_of (places_in posted) race candidate)
      (posted_count posted.plan (places_in posted) (printing_of given.codes) race candidate)
  total_bound race instance candidate race_in instance_in candidate_in =
      let accepted = parts.accepted in
      let stands = (has_each posted accepted.words accepted.formed).total race candidate race_in candidate_in in
      let there = total_there (places_in posted) race candidate stands.count stands.among in
      (bound posted accepted).bound (printing_of given.codes) (completion_of given.rows) parts.is_printing.differ parts.stands parts.none_twice
      (record { race = race; candidate = candidate; count = total_of (places_in posted) race candidate }) instance
      (among_total (posted_of posted) race candidate (total_of (places_in posted) race candidate) there.0 there.1 (placed posted accepted.words accepted.formed ∙ there.2)) instance_in

pub sums_bound : (given : Given) (findings : Findings) → AreParts given → AreFindings given findings → AreSumsBound given findings
sums_bound given findings parts are race instance candidate race_in instance_in candidate_in =
    let plan = given.posted.plan in
    let lines = places_in given.posted in
    let completion = completion_of given.rows in
    let printing = printing_of given.codes in
    let apart = total_bound given parts race instance candidate race_in instance_in candidate_in in
    let of_race = ap (λ (l : List (List (List ℕ))). slice_index_or l race []) are.altered ∙ item_of (race_altered plan lines completion printing) (length plan.races) race [] race_in in
    let of_instance = ap (λ (l : List (List ℕ)). slice_index_or l instance []) of_race ∙ item_of (altered_in plan lines completion printing race) plan.instances instance [] instance_in in
    let altered = ap (λ (l : List ℕ). length l) of_instance ∙ all_passing (λ row. is_altered plan lines completion printing race instance row) (entries_of plan race) in
    let sums = ap (λ (l : List (List Sum)). slice_index_or l race []) are.sums ∙ item_of (race_sums plan lines printing) (length plan.races) race [] race_in in
    let sum = ap (λ (l : List Sum). slice_index_or l candidate (record { total = 0; count = 0 })) sums ∙ item_of (sum_of plan lines printing race) (candidates_of plan race) candidate (record { total = 0; count = 0 }) candidate_in in
    let total = ap (λ (x : Sum). x.total) sum in
    let count = ap (λ (x : Sum). x.count) sum in
    record { more = omega (arith, apart.more, altered, total, count); less = omega (arith, apart.less, altered, total, count) }
