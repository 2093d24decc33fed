-- What the limits of a plan give: each ballot has a race, and a small number.
use Rattle.std.proofs.Common.{◌≡◌, ℕ, zero, suc, ◌-◌, ◌<◌, ◌≤◌, ◌==◌, ◌^◌, nat_lt, nat_le, Bool, true, false, cond, List, [], ◌∷◌, ◌++◌, length, replicate, slice_get, Option, Some, None, refl, ap, sym, ◌∙◌, arith, subst}
use Rattle.std.specs.List.{list_all}
use Rattle.std.specs.Option.{option_map_or}
use Rattle.std.proofs.lemmas.Bool.{and_parts}
use Rattle.std.proofs.lemmas.Bool.Decides.{nat_tests}
use Rattle.std.proofs.lemmas.Option.{same_Some}
use Rattle.sg_lists.proofs.Lists.{slice_get_there}
use Rattle.sg_lists.proofs.Tests.{list_all-slice_get}
use Rattle.sg_plan.specs.Ballots.{ballot_styles, ballots_of, races_of_ballot, races_of_style, style_of_ballot}
use Rattle.sg_plan.specs.Limits.{fault_of, run_keeps, style_fits, style_keeps}
use Rattle.sg_plan.specs.declared.plan.Plan.{Plan}
use Rattle.sg_plan.specs.declared.plan.Run.{Run}
use Rattle.sg_plan.specs.declared.plan.Style.{Style}
use Rattle.sg_plan.proofs.LimitLaws.{passes_tests}
use Rattle.sg_plan.proofs.Lists.{first_fault-None}
use Rattle.sg_plan.proofs.PlanLaws.{bounds}
use Rattle.sg_histories.specs.inside.RowReading.{HasRaces, SmallBallots}
use Rattle.sg_histories.proofs.Back.{all_from}

pub small_ballots : (plan : Plan) → fault_of plan ≡ None → SmallBallots plan
small_ballots plan e ballot known =
    let last = (and_parts (nat_le 1 ballot) (nat_le ballot (ballots_of plan)) known).1 in
    let within : ballot ≤ ballots_of plan = grind (arith, nat_tests, last) in
    let few = (bounds plan e).few_ballots in
    below ballot (ballots_of plan) within few
  where
    below : (a b : ℕ) → a ≤ b → b ≤ 20000 → a < 2 ^ 32
    below a b h k = omega (arith, h, k)

-- an item among equal ones and others
repeated : (n s : ℕ) (rest : List ℕ) (place found : ℕ) → slice_get (replicate n s ++ rest) place ≡ Some found → (s ≡ found → ⊥) → (at : ℕ) × (slice_get rest at ≡ Some found)
repeated zero s rest place found e apart = (place, e)
repeated (suc n) s rest zero found e apart = absurd (apart (same_Some s found e))
repeated (suc n) s rest (suc place) found e apart = repeated n s rest place found e apart

-- the style of each ballot is one of the plan's
styles_below : (count : ℕ) (runs : List Run) (place found : ℕ) → list_all (λ run. nat_lt run.style count) runs ≡ true → slice_get (ballot_styles runs) place ≡ Some found → found < count
styles_below count [] place found all e = cc
styles_below count (run ∷ runs) place found all e =
    let parts = and_parts (nat_lt run.style count) (list_all (λ r. nat_lt r.style count) runs) all in
    by_test (nat_lt found count) refl parts.0 (λ at k. styles_below count runs at found parts.1 k)
  where
    by_test : (t : Bool) → nat_lt found count ≡ t → nat_lt run.style count ≡ true → ((at : ℕ) → slice_get (ballot_styles runs) at ≡ Some found → found < count) → found < count
    by_test true k low ih = grind (arith, nat_tests, k)
    by_test false k low ih =
        let r = repeated run.count run.style (ballot_styles runs) place found e (λ s. (let z : nat_lt found count ≡ true = ap (λ n. nat_lt n count) (sym s) ∙ low in (cc))) in
        ih r.0 r.1

style_long : (races : ℕ) (earlier : List Style) (style : Style) → style_fits races earlier style ≡ true → nat_le 1 (length style.races) ≡ true
style_long races earlier style e =
    let keeps = (and_parts (nat_lt (length earlier) 32) (style_keeps races earlier style) e).1 in
    (and_parts _ _ (and_parts _ _ keeps).1).0

pub has_races : (plan : Plan) → fault_of plan ≡ None → HasRaces plan
has_races plan e ballot known =
    let tests = passes_tests plan e in
    let styles = (first_fault-None (style_fits (length plan.races)) plan.styles tests.styles).1 in
    let runs = (first_fault-None (run_keeps (length plan.styles)) plan.runs tests.runs).1 in
    let all_runs : list_all (λ run. nat_lt run.style (length plan.styles)) plan.runs ≡ true
    = all_from (run_keeps (length plan.styles)) (λ run. nat_lt run.style (length plan.styles)) (λ front x k. (and_parts _ _ k).0) [] plan.runs runs in
    let all_styles : list_all (λ style. nat_le 1 (length style.races)) plan.styles ≡ true
    = all_from (style_fits (length plan.races)) (λ style. nat_le 1 (length style.races)) (style_long (length plan.races)) [] plan.styles styles in
    let parts = and_parts (nat_le 1 ballot) (nat_le ballot (ballots_of plan)) known in
    let first : 1 ≤ ballot = (let k = parts.0 in grind (arith, nat_tests, k)) in
    let within : ballot ≤ ballots_of plan = (let k = parts.1 in grind (arith, nat_tests, k)) in
    let style = slice_get_there (ballot_styles plan.runs) (ballot - 1) (omega (arith, first, within)) in
    let low = styles_below (length plan.styles) plan.runs (ballot - 1) style.0 all_runs style.1 in
    let item = slice_get_there plan.styles style.0 low in
    let long : nat_le 1 (length item.0.races) ≡ true = list_all-slice_get (λ (s : Style). nat_le 1 (length s.races)) plan.styles style.0 item.0 all_styles item.1 in
    let some : (ballot == 0) ≡ false = grind (arith, nat_tests, first) in
    let style_is : style_of_ballot plan ballot ≡ Some style.0 = ap (λ b. cond b None (slice_get (ballot_styles plan.runs) (ballot - 1))) some ∙ style.1 in
    let races_are : races_of_ballot plan ballot ≡ item.0.races
    = ap (λ (o : Option ℕ). option_map_or (races_of_style plan) o []) style_is ∙ ap (λ (o : Option Style). option_map_or (λ (s : Style). s.races) o []) item.1 in
    let many : 1 ≤ length item.0.races = grind (arith, nat_tests, long) in
    subst (λ (l : List ℕ). 1 ≤ length l) (sym races_are) many
