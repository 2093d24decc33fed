-- The law of the odds.
use Rattle.std.proofs.Common.{◌≡◌, ◌≢◌, ℕ, ◌*◌, ◌^◌, ◌%◌, ◌<◌, ◌≤◌, ◌==◌, Bool, true, ◌&&◌, List, [], ◌∷◌, All, length, count_by, subst, ap, arith}
use Rattle.std.specs.Prelude.{AllPairs, slice_index_or}
use Rattle.std.proofs.Math.Nat.{mul-le-mul_left}
use Rattle.std.proofs.Math.Pow.{pow_mono}
use Rattle.sg_plan.specs.Ballots.{candidates_of, entries_of, r_rows}
use Rattle.sg_plan.specs.declared.plan.Plan.{Plan}
use Rattle.sg_plan.specs.declared.plan.Side.{Side}
use Rattle.sg_plan.specs.declared.plan.Side.TheVariants as side
use Rattle.sg_grammar.specs.Lines.{IsAmong}
use Rattle.sg_grammar.specs.Placed.{Placed}
use Rattle.sg_grammar.specs.Placed.Placed.{TotalAt}
use Rattle.sg_grammar.specs.declared.state.Slot.{Slot}
use Rattle.sg_grammar.specs.declared.state.Slot.TheVariants as slot
use Rattle.sg_record.specs.Formed.{is_formed}
use Rattle.sg_record.specs.Laws.{HasWords}
use Rattle.sg_record.specs.Places.{places_in}
use Rattle.sg_record.specs.declared.record.Record.{Record}
use Rattle.sg_check.proofs.Counting.{count-same}
use Rattle.sg_check.proofs.Votes.{is_vote}
use Rattle.sg_check.specs.Completions.{Completion}
use Rattle.sg_check.specs.Printings.{count_below}
use Rattle.sg_fronts.proofs.OfRecord.{apart, in_plan}
use Rattle.sg_odds.specs.Coins.{FewGetYes, GetsYes, before_draw}
use Rattle.sg_odds.specs.Odds.{IsFullCompletion, IsOffBy, OddsBound, half_of, is_led, led}
use Rattle.sg_odds.proofs.Barred.{bars}
use Rattle.sg_odds.proofs.Getting.{misses, total_counted}
use Rattle.sg_odds.proofs.Halving.{is_barred, lists_halve}
use Rattle.sg_odds.proofs.Leading.{distance_bound}
use Rattle.sg_odds.proofs.Rows.{rows_count, rows_due, rows_long}
use Rattle.sg_odds.proofs.Sections.{marks_same}

times : (w p q r : ℕ) → p ≤ q → w * q ≤ r → w * p ≤ r
times w p q r less bound = let more = mul-le-mul_left w less in omega (arith, more, bound)

nothing : (p q : ℕ) → 0 * p ≤ q
nothing p q = omega arith

module _ (posted : Record) (words : HasWords posted) (formed : is_formed posted ≡ true) (completion : Completion) where
  abbrev plan : Plan
  plan = posted.plan

  abbrev lines : List Placed
  lines = places_in posted

  abbrev test : Slot → Bool
  test = is_barred (bars plan (before_draw lines) completion)

  -- as few get yes as rows with a wrong flag on a side leave
  pub few_by : (power : ℕ) → power ≤ count_by test (rows_due plan) → FewGetYes plan (before_draw lines) completion power
  few_by power less = λ lists differ all.
      let halved = lists_halve (bars plan (before_draw lines) completion) (rows_due plan) lists differ (λ k coins within. misses posted words formed completion (slice_index_or lists k coins) (all k coins within)) in
      times (length lists) (2 ^ power) (2 ^ count_by test (rows_due plan)) (2 ^ r_rows plan) (pow_mono less)
      (subst (λ (n : ℕ). length lists * 2 ^ count_by test (rows_due plan) ≤ 2 ^ n) (rows_long plan) halved)

  module _ (full : IsFullCompletion plan lines completion) (race candidate count least : ℕ) (among : IsAmong lines (TotalAt race candidate count)) (off : IsOffBy plan lines completion race candidate count least) where
    led_early : (instance : ℕ) → led plan lines completion race instance candidate ≡ led plan (before_draw lines) completion race instance candidate
    led_early instance =
        count-same (is_led plan lines completion race instance candidate) (is_led plan (before_draw lines) completion race instance candidate) (entries_of plan race)
        (λ row less. ap (λ (b : Bool). b && (half_of completion side.Right race instance row).value % candidates_of plan race == candidate)
        (marks_same plan race (half_of completion side.Left race instance row).value lines (apart posted words formed)))

    within : race < length plan.races
    within = (in_plan posted words formed (TotalAt race candidate count) among).placed.0

    in_instance : count ≡ count_below (is_vote plan race candidate (before_draw lines)) (entries_of plan race) → (instance : ℕ) → instance < plan.instances
        → least ≤ count_below (λ row. test (slot.Row race instance row)) (entries_of plan race)
    in_instance counted instance less =
        let bound = distance_bound plan completion race instance (full.full race instance within less) (before_draw lines) candidate in
        let here = off instance less in
        omega (arith, bound, here, counted, led_early instance)

    few : (lists : List (List Side)) → AllPairs (λ (a b : List Side). a ≢ b) lists → All (GetsYes (before_draw lines) completion) lists
        → length lists * 2 ^ (least * plan.instances) ≤ 2 ^ r_rows plan
    few [] differ all = nothing (2 ^ (least * plan.instances)) (2 ^ r_rows plan)
    few (coins ∷ lists) differ all =
        let counted = total_counted posted words formed completion coins (all 0 coins (omega arith)) race candidate count among in
        few_by (least * plan.instances) (rows_count plan test race least within (in_instance counted)) (coins ∷ lists) differ all

pub odds_bound : OddsBound
odds_bound posted words formed completion full race candidate count least among off = few posted words formed completion full race candidate count least among off
