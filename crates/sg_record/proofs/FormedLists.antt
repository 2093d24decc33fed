-- What the test of a record's form says of each of its parts.
use Rattle.std.proofs.Common.{◌≡◌, ℕ, zero, suc, ◌+◌, ◌^◌, ◌<◌, ◌==◌, nat_le, Bool, true, ◌&&◌, List, [], ◌∷◌, length, get_or, slice_get, All, None, Some, ap, ◌∙◌, arith}
use Rattle.std.proofs.lemmas.Bool.{and_parts, eqb-true}
use Rattle.std.proofs.lemmas.Option.{get_or_from_slice_get}
use Rattle.std.specs.List.{list_all}
use Rattle.std.specs.Option.{is_none}
use Rattle.sg_plan.proofs.KeptPlans.{keeps-faultless}
use Rattle.sg_plan.proofs.PlanLaws.{bounds}
use Rattle.sg_plan.specs.Ballots.{candidates_of, entries_of}
use Rattle.sg_plan.specs.Limits.{fault_of, most_claims, plan_keeps}
use Rattle.sg_plan.specs.declared.plan.Plan.{Plan}
use Rattle.sg_record.specs.Formed.{are_blocks, each_passes, has_candidates, has_entries, has_rows, is_dispute, is_draw, is_formed}
use Rattle.sg_record.specs.inside.Parts.{HasRaces}
use Rattle.sg_record.specs.declared.record.Record.{Record}

-- the parts of the test
pub record FormedLists (posted : Record) : Type 0 where
  pub plan : fault_of posted.plan ≡ None
  pub code_commits : has_entries posted.plan posted.code_commits ≡ true
  pub row_commits : has_rows posted.plan posted.row_commits ≡ true
  pub blocks : are_blocks posted.plan 0 posted.ballots ≡ true
  pub flags : has_rows posted.plan posted.flags ≡ true
  pub places : has_entries posted.plan posted.places ≡ true
  pub totals : has_candidates posted.plan posted.totals ≡ true
  pub draw : is_draw posted.draw ≡ true
  pub rows : has_rows posted.plan posted.rows ≡ true
  pub disputes : list_all (is_dispute posted.plan) posted.disputes ≡ true

pub formed_parts : (posted : Record) → is_formed posted ≡ true → FormedLists posted
unfolding is_formed
formed_parts posted e =
    let plan = posted.plan in
    let behind_rows = nat_le (length posted.disputes) most_claims && list_all (is_dispute plan) posted.disputes in
    let behind_draw = has_rows plan posted.rows && behind_rows in
    let behind_totals = is_draw posted.draw && behind_draw in
    let behind_places = has_candidates plan posted.totals && behind_totals in
    let behind_flags = has_entries plan posted.places && behind_places in
    let behind_blocks = has_rows plan posted.flags && behind_flags in
    let behind_commits = are_blocks plan 0 posted.ballots && behind_blocks in
    let behind_codes = has_rows plan posted.row_commits && behind_commits in
    let whole = and_parts (plan_keeps plan && length posted.seals == 3) (has_entries plan posted.code_commits && behind_codes) e in
    let limits = and_parts (plan_keeps plan) (length posted.seals == 3) whole.0 in
    let codes = and_parts (has_entries plan posted.code_commits) behind_codes whole.1 in
    let commits = and_parts (has_rows plan posted.row_commits) behind_commits codes.1 in
    let blocks = and_parts (are_blocks plan 0 posted.ballots) behind_blocks commits.1 in
    let flags = and_parts (has_rows plan posted.flags) behind_flags blocks.1 in
    let places = and_parts (has_entries plan posted.places) behind_places flags.1 in
    let totals = and_parts (has_candidates plan posted.totals) behind_totals places.1 in
    let draw = and_parts (is_draw posted.draw) behind_draw totals.1 in
    let rows = and_parts (has_rows plan posted.rows) behind_rows draw.1 in
    let disputes = and_parts (nat_le (length posted.disputes) most_claims) (list_all (is_dispute plan) posted.disputes) rows.1 in
    record {
      plan = keeps-faultless plan limits.0;
      code_commits = codes.0;
      row_commits = commits.0;
      blocks = blocks.0;
      flags = flags.0;
      places = places.0;
      totals = totals.0;
      draw = draw.0;
      rows = rows.0;
      disputes = disputes.1;
    }

-- the item at a place passes
pub each_passes-at : {A : Type 0} (test : ℕ → A → Bool) (from : ℕ) (xs : List A) → each_passes test from xs ≡ true → (k : ℕ) (d : A) → k < length xs → test (from + k) (get_or xs k d) ≡ true
each_passes-at test from [] e k d within = absurd (omega arith)
each_passes-at test from (x ∷ xs) e zero d within =
    let same : from + 0 ≡ from = omega arith in
    rw same (and_parts (test from x) (each_passes test (from + 1) xs) e).0
each_passes-at test from (x ∷ xs) e (suc k) d within =
    let same : from + suc k ≡ from + 1 + k = omega arith in
    rw same (each_passes-at test (from + 1) xs (and_parts (test from x) (each_passes test (from + 1) xs) e).1 k d (omega arith))

-- each race has a list
pub entries_len : {A : Type 0} (plan : Plan) (lists : List (List A)) → has_entries plan lists ≡ true → length lists ≡ length plan.races
entries_len plan lists e = eqb-true (length lists) (length plan.races) (and_parts (length lists == length plan.races) (each_passes (λ race items. length items == entries_of plan race) 0 lists) e).0

-- and so many instances
pub record HaveInstances {A : Type 0} (plan : Plan) (lists : List (List (List A))) : Type 0 where
  pub many : length lists ≡ length plan.races
  pub each : (race : ℕ) → race < length plan.races → length (get_or lists race []) ≡ plan.instances

pub rows_have : {A : Type 0} (plan : Plan) (lists : List (List (List A))) → has_rows plan lists ≡ true → HaveInstances plan lists
rows_have {A} plan lists e =
    let test = λ (race : ℕ) (instances : List (List A)). length instances == plan.instances && list_all (λ items. length items == entries_of plan race) instances in
    let parts = and_parts (length lists == length plan.races) (each_passes test 0 lists) e in
    let many = eqb-true (length lists) (length plan.races) parts.0 in
    record {
      many = many;
      each = λ race less.
          let instances = get_or lists race [] in
          let passes = each_passes-at test 0 lists parts.1 race [] (omega (arith, less, many)) in
          eqb-true (length instances) plan.instances (and_parts (length instances == plan.instances) (list_all (λ items. length items == entries_of plan (0 + race)) instances) passes).0;
    }

-- the list of an instance
pub instance_list : {A : Type 0} (lists : List (List (List A))) (race instance : ℕ) (instances : List (List A)) (rows : List A)
    → slice_get lists race ≡ Some instances → slice_get instances instance ≡ Some rows → get_or (get_or lists race []) instance [] ≡ rows
instance_list {A} lists race instance instances rows here there =
    ap (λ (l : List (List A)). get_or l instance []) (get_or_from_slice_get lists race instances [] here) ∙ get_or_from_slice_get instances instance rows [] there

-- and few instances
pub rows_few : {A : Type 0} (plan : Plan) (lists : List (List (List A))) → fault_of plan ≡ None → has_rows plan lists ≡ true → All (λ instances. length instances < 2 ^ 32) lists
rows_few {A} plan lists limits e = λ k d within.
    let test = λ (race : ℕ) (instances : List (List A)). length instances == plan.instances && list_all (λ items. length items == entries_of plan race) instances in
    let passes = each_passes-at test 0 lists (and_parts (length lists == length plan.races) (each_passes test 0 lists) e).1 k d within in
    let count = eqb-true (length (get_or lists k d)) plan.instances (and_parts (length (get_or lists k d) == plan.instances) (list_all (λ items. length items == entries_of plan (0 + k)) (get_or lists k d)) passes).0 in
    omega (arith, count, (bounds plan limits).few_instances)

pub totals_len : {A : Type 0} (plan : Plan) (lists : List (List A)) → has_candidates plan lists ≡ true → length lists ≡ length plan.races
totals_len plan lists e = eqb-true (length lists) (length plan.races) (and_parts (length lists == length plan.races) (each_passes (λ race items. length items == candidates_of plan race) 0 lists) e).0

-- and few totals
pub totals_few : {A : Type 0} (plan : Plan) (lists : List (List A)) → fault_of plan ≡ None → has_candidates plan lists ≡ true → All (λ totals. length totals < 2 ^ 32) lists
totals_few {A} plan lists limits e = λ k d within.
    let test = λ (race : ℕ) (items : List A). length items == candidates_of plan race in
    let passes = each_passes-at test 0 lists (and_parts (length lists == length plan.races) (each_passes test 0 lists) e).1 k d within in
    let count = eqb-true (length (get_or lists k d)) (candidates_of plan (0 + k)) passes in
    omega (arith, count, (bounds plan limits).few_candidates (0 + k))

-- the races have their results
pub has_races : (posted : Record) → FormedLists posted → HasRaces posted
has_races posted parts = record {
  flags = (rows_have posted.plan posted.flags parts.flags).many;
  places = entries_len posted.plan posted.places parts.places;
  totals = totals_len posted.plan posted.totals parts.totals;
  few_flags = rows_few posted.plan posted.flags parts.plan parts.flags;
  few_totals = totals_few posted.plan posted.totals parts.plan parts.totals;
}
