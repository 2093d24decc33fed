-- The rows lead as many marked entries to a candidate as its total says, so that each exponent is 0.
use Rattle.std.proofs.Common.{◌≡◌, ℕ, ◌*◌, ◌%◌, ◌<◌, ◌≤◌, ◌==◌, nat_le, Bool, true, false, ◌&&◌, ◌||◌, List, length, Option, None, sym, ap, ◌∙◌, arith}
use Rattle.std.proofs.Math.Bool.{and_comm}
use Rattle.std.proofs.lemmas.Bool.{lt-leb, or_from}
use Rattle.std.specs.List.{list_all}
use Rattle.std.specs.Option.{option_map_or}
use Rattle.sg_plan.proofs.PlanLaws.{bounds}
use Rattle.sg_plan.specs.Ballots.{candidates_of, entries_of}
use Rattle.sg_plan.specs.Limits.{fault_of}
use Rattle.sg_plan.specs.declared.plan.Draw.{Draw}
use Rattle.sg_plan.specs.declared.plan.Plan.{Plan}
use Rattle.sg_plan.specs.declared.plan.Side.{Side}
use Rattle.sg_plan.specs.declared.plan.Side.TheVariants as side
use Rattle.sg_commit.specs.declared.Opening.{Opening}
use Rattle.sg_tables.proofs.TableLaws.{opening_laws, pointer_laws}
use Rattle.sg_tables.specs.Tables.{left_of, path_of}
use Rattle.sg_grammar.specs.Placed.{Placed}
use Rattle.sg_record.specs.Places.{places_in}
use Rattle.sg_check.proofs.Counting.{count-same}
use Rattle.sg_check.specs.Completions.{Completion, IsHalfOf, any_below}
use Rattle.sg_check.specs.Facts.{is_marked as posted_marked, points_to}
use Rattle.sg_facts.specs.Totals.{total_of as posted_total}
use Rattle.sg_post.specs.Fits.{claim_fits, fates_fit}
use Rattle.sg_post.specs.Marks.{is_entry_marked, total_of}
use Rattle.sg_post.specs.Posted.{posted_record}
use Rattle.sg_post.specs.declared.story.Claimed.{Claimed}
use Rattle.sg_post.specs.declared.story.Told.{Told}
use Rattle.sg_odds.proofs.Gapping.{greatest_most, least_most}
use Rattle.sg_odds.specs.Odds.{distance, exponent, gap, half_of, is_half_lacking, is_lacking, is_led, least_gap, led, no_opening}
use Rattle.sg_cleared.proofs.Counting.{leads_to, moved_counts, total_counts}
use Rattle.sg_accepted.proofs.Posted.{marked_is}
use Rattle.sg_cleared.proofs.Posted.{opening_on, total_is}
use Rattle.sg_cleared.proofs.Unaltered.{HasTables, none_below, pointer_below, points_elsewhere}

-- NO ROW IS LACKING

half_there : (plan : Plan) (seed : List ℕ) (completion : Completion) → HasTables plan seed completion → (on : Side) (race instance number : ℕ) → IsHalfOf plan race instance number → is_half_lacking plan completion on race instance number ≡ false
half_there plan seed completion has on race instance number within =
    let one : Opening = opening_on plan seed on race instance number in
    ap (λ (o : Option Opening). option_map_or (λ opening. nat_le (entries_of plan race) opening.value || any_below (λ earlier. points_to opening.value (completion on race instance earlier)) number) o true) (has on race instance number within)
    ∙ or_from (nat_le (entries_of plan race) one.value) (any_below (λ earlier. points_to one.value (completion on race instance earlier)) number)
    (lt-leb (entries_of plan race) one.value (pointer_below plan seed on race instance number within))
    (none_below (λ earlier. points_to one.value (completion on race instance earlier)) number
    (λ earlier less. points_elsewhere plan seed completion has on race instance number earlier within (let below = within.2 in omega (arith, less, below)) (λ same. omega (arith, same, less))))

pub row_there : (plan : Plan) (seed : List ℕ) (completion : Completion) → HasTables plan seed completion → (race instance number : ℕ) → IsHalfOf plan race instance number → is_lacking plan completion race instance number ≡ false
row_there plan seed completion has race instance number within =
    or_from (is_half_lacking plan completion side.Left race instance number) (is_half_lacking plan completion side.Right race instance number) (half_there plan seed completion has side.Left race instance number within)
    (half_there plan seed completion has side.Right race instance number within)

-- WHERE THE ROWS LEAD

no_distance : (a b : ℕ) → a ≡ b → distance a b ≡ 0
no_distance a b same = omega (arith, same)

module _ (plan : Plan) (seed : List ℕ) (fates : List Told) (draw : Draw) (claims : List Claimed) (fine : fault_of plan ≡ None) (fit : fates_fit plan 0 fates ≡ true) (claimed : list_all (claim_fits plan) claims ≡ true)
    (completion : Completion) (has : HasTables plan seed completion) where
  abbrev lines : List Placed
  lines = places_in (posted_record plan seed fates draw claims)

  half_is : (on : Side) (race instance number : ℕ) → IsHalfOf plan race instance number → half_of completion on race instance number ≡ opening_on plan seed on race instance number
  half_is on race instance number within = ap (λ (o : Option Opening). option_map_or (λ opening. opening) o no_opening) (has on race instance number within)

  leads_alike : (race instance candidate number : ℕ) → IsHalfOf plan race instance number
      → is_led plan lines completion race instance candidate number ≡ leads_to plan seed fates race candidate (left_of plan seed race instance number)
  leads_alike race instance candidate number within =
      let entry = left_of plan seed race instance number in
      let below = (pointer_laws.lefts plan seed race instance).below number within.2 in
      let left : (half_of completion side.Left race instance number).value ≡ entry = ap (λ (o : Opening). o.value) (half_is side.Left race instance number within) ∙ opening_laws.left plan seed race instance number in
      let right : (half_of completion side.Right race instance number).value ≡ path_of plan seed race entry
      = ap (λ (o : Opening). o.value) (half_is side.Right race instance number within) ∙ (opening_laws.right plan seed race instance number ∙ pointer_laws.composed plan seed race instance number) in
      ap (λ e. posted_marked plan race e lines && (half_of completion side.Right race instance number).value % candidates_of plan race == candidate) left
      ∙ (ap (λ s. posted_marked plan race entry lines && s % candidates_of plan race == candidate) right
      ∙ (ap (λ (b : Bool). b && path_of plan seed race entry % candidates_of plan race == candidate) (marked_is plan seed fates draw claims fine fit race entry within.0)
      ∙ and_comm (is_entry_marked plan seed fates race entry) (path_of plan seed race entry % candidates_of plan race == candidate)))

  -- as many as the total says
  pub led_is : (race instance candidate : ℕ) → race < length plan.races → instance < plan.instances → led plan lines completion race instance candidate ≡ total_of plan seed fates race candidate
  led_is race instance candidate in_race in_instances =
      count-same (is_led plan lines completion race instance candidate) (λ number. leads_to plan seed fates race candidate (left_of plan seed race instance number)) (entries_of plan race)
      (λ number below. leads_alike race instance candidate number (in_race, in_instances, below))
      ∙ (moved_counts (leads_to plan seed fates race candidate) (left_of plan seed race instance) (entries_of plan race) (pointer_laws.lefts plan seed race instance)
      ∙ sym (total_counts plan seed fates race candidate))

  no_gap : (race candidate instance : ℕ) → race < length plan.races → candidate < candidates_of plan race → instance < plan.instances → gap plan lines completion race candidate instance ≡ 0
  no_gap race candidate instance in_race low in_instances =
      no_distance (posted_total lines race candidate) (led plan lines completion race instance candidate)
      (total_is plan seed fates draw claims fine fit claimed race candidate in_race low ∙ sym (led_is race instance candidate in_race in_instances))

  -- each exponent is 0
  pub exponent_none : (race : ℕ) → race < length plan.races → exponent plan lines completion race ≡ 0
  exponent_none race in_race =
      let some = (bounds plan fine).one_instance in
      let greatest = greatest_most (least_gap plan lines completion race) (candidates_of plan race) 0
      (λ candidate low.
      let first : gap plan lines completion race candidate 0 ≡ 0 = no_gap race candidate 0 in_race low (omega (arith, some)) in
      let least = least_most (gap plan lines completion race candidate 0) (gap plan lines completion race candidate) plan.instances in
      omega (arith, first, least)) in
      times_none plan.instances _ greatest
    where
      times_none : (n g : ℕ) → g ≤ 0 → n * g ≡ 0
      times_none n g low = let none : g ≡ 0 = omega (arith, low) in ap (λ k. n * k) none ∙ none_times n
        where
          none_times : (m : ℕ) → m * 0 ≡ 0
          none_times m = omega arith
