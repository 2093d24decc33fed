-- The exponent that is told from the totals of an accepted record and the table of what is led: it is the law's, and small.
use Rattle.std.proofs.Common.{◌≡◌, ℕ, ◌*◌, ◌<◌, ◌≤◌, List, length, Option, sym, ap, ◌∙◌, arith}
use Rattle.std.proofs.lemmas.Nat.{mul-le}
use Rattle.std.specs.Option.{option_map_or}
use Rattle.sg_plan.proofs.PlanLaws.{bounds}
use Rattle.sg_plan.specs.Ballots.{candidates_of, entries_of}
use Rattle.sg_parts.proofs.Accepting.{good_plan}
use Rattle.sg_record.specs.Places.{places_in}
use Rattle.sg_record.specs.declared.record.Record.{Record}
use Rattle.sg_parts.specs.Given.{IsAccepted, completion_of}
use Rattle.sg_parts.specs.declared.parts.RowGiven.{RowGiven}
use Rattle.sg_facts.specs.Totals.{total_of}
use Rattle.sg_recount.proofs.Counting.{count_most}
use Rattle.sg_recount.proofs.Facing.{total_is}
use Rattle.sg_odds.proofs.Gapping.{greatest_most, greatest_same, least_most, least_same}
use Rattle.sg_odds.proofs.Few.{total_few}
use Rattle.sg_odds.specs.Odds.{distance, exponent, gap, greatest_below, is_led, least_gap, led}
use Rattle.sg_odds.specs.inside.Gaps.{HasLed, gap_in, least_in, number_in}

module _ (posted : Record) (accepted : IsAccepted posted) (rows : List (List (List RowGiven))) (race : ℕ) (race_in : race < length posted.plan.races) (table : List (List ℕ))
    (has : HasLed posted.plan (places_in posted) (completion_of rows) race posted.plan.instances table) where
  told : ℕ → ℕ → ℕ
  told = gap_in posted.totals table race

  meant : ℕ → ℕ → ℕ
  meant = gap posted.plan (places_in posted) (completion_of rows) race

  gap_is : (candidate instance : ℕ) → candidate < candidates_of posted.plan race → instance < posted.plan.instances → told candidate instance ≡ meant candidate instance
  unfolding told meant
  gap_is candidate instance less within =
      ap (λ (n : ℕ). distance n (number_in table instance candidate)) (sym (total_is posted accepted race candidate race_in less))
      ∙ ap (λ (o : Option ℕ). distance (total_of (places_in posted) race candidate) (option_map_or (λ number. number) o 0)) (has.are instance candidate within less)

  one_instance : 1 ≤ posted.plan.instances
  one_instance = (bounds posted.plan (good_plan posted accepted)).one_instance

  least_is : (candidate : ℕ) → candidate < candidates_of posted.plan race
      → least_in posted.totals table race posted.plan.instances candidate ≡ least_gap posted.plan (places_in posted) (completion_of rows) race candidate
  unfolding told meant
  least_is candidate less =
      least_same (told candidate 0) (meant candidate 0) (told candidate) (meant candidate) posted.plan.instances (gap_is candidate 0 less (omega (arith, one_instance))) (λ k within. gap_is candidate k less within)

  greatest_is : greatest_below (least_in posted.totals table race posted.plan.instances) (candidates_of posted.plan race)
      ≡ greatest_below (least_gap posted.plan (places_in posted) (completion_of rows) race) (candidates_of posted.plan race)
  greatest_is = greatest_same (least_in posted.totals table race posted.plan.instances) (least_gap posted.plan (places_in posted) (completion_of rows) race) (candidates_of posted.plan race) least_is

  pub exponent_is : (greatest : ℕ) → greatest ≡ greatest_below (least_in posted.totals table race posted.plan.instances) (candidates_of posted.plan race)
      → posted.plan.instances * greatest ≡ exponent posted.plan (places_in posted) (completion_of rows) race
  exponent_is greatest is = ap (λ (n : ℕ). posted.plan.instances * n) (is ∙ greatest_is)

  -- neither total nor led entries are more than there are rows
  least_few : (candidate : ℕ) → candidate < candidates_of posted.plan race → least_gap posted.plan (places_in posted) (completion_of rows) race candidate ≤ 200000
  unfolding meant
  least_few candidate less =
      let few = (bounds posted.plan (good_plan posted accepted)).few_entries race race_in in
      let total = total_few posted accepted race candidate race_in less in
      let leads : led posted.plan (places_in posted) (completion_of rows) race 0 candidate ≤ entries_of posted.plan race
      = count_most (is_led posted.plan (places_in posted) (completion_of rows) race 0 candidate) (entries_of posted.plan race) in
      let first : meant candidate 0 ≤ 200000
      = apart (total_of (places_in posted) race candidate) (led posted.plan (places_in posted) (completion_of rows) race 0 candidate) (omega (arith, total, few)) (omega (arith, leads, few)) in
      omega (arith, first, least_most (meant candidate 0) (meant candidate) posted.plan.instances)
    where
      apart : (a b : ℕ) → a ≤ 200000 → b ≤ 200000 → distance a b ≤ 200000
      apart a b a_few b_few = omega (arith, a_few, b_few)

  pub exponent_few : (greatest : ℕ) → greatest ≡ greatest_below (least_in posted.totals table race posted.plan.instances) (candidates_of posted.plan race) → posted.plan.instances * greatest ≤ 3200000
  exponent_few greatest is =
      let all = greatest_most (least_gap posted.plan (places_in posted) (completion_of rows) race) (candidates_of posted.plan race) 200000 least_few in
      let instances = (bounds posted.plan (good_plan posted accepted)).few_instances in
      mul-le posted.plan.instances greatest 16 200000 instances (omega (arith, is, greatest_is, all))
