-- A plan keeps its limits, by the tests of its parts, exactly where it has no fault.
use Rattle.std.proofs.Common.{◌≡◌, ◌↔◌, Bool, true, false, ◌&&◌, List, [], length, Option, Some, None, is_none, nat_le, refl, sym, ap, ◌∙◌}
use Rattle.std.proofs.lemmas.Bool.{and_from, and_parts, le-leb, leb-true}
use Rattle.sg_plan.proofs.LimitLaws.{no_fault, passes_tests}
use Rattle.sg_plan.proofs.Lists.{None-first_fault, first_fault-None}
use Rattle.sg_plan.specs.Ballots.{r_rows}
use Rattle.sg_plan.specs.Limits.{PassesTests, each_keeps, fault_of, first_fault, is_version, most_instances, most_rows, plan_keeps, race_fits, run_keeps, some_keep, style_fits}
use Rattle.sg_plan.specs.Names.{is_name_word, is_within}
use Rattle.sg_plan.specs.declared.limits.PlanFault.{PlanFault}
use Rattle.sg_plan.specs.declared.plan.Plan.{Plan}

-- a list of one item or more keeps its tests exactly where it has no fault
some_keep-None : {X : Type 0} (keeps : List X → X → Bool) (items : List X) → some_keep keeps items ≡ true → first_fault keeps items ≡ None
some_keep-None keeps items kept =
    let parts = and_parts (nat_le 1 (length items)) (each_keeps keeps [] items) kept in
    None-first_fault keeps items (leb-true 1 (length items) parts.0) parts.1

None-some_keep : {X : Type 0} (keeps : List X → X → Bool) (items : List X) → first_fault keeps items ≡ None → some_keep keeps items ≡ true
None-some_keep keeps items fine =
    let parts = first_fault-None keeps items fine in
    and_from (nat_le 1 (length items)) (each_keeps keeps [] items) (le-leb 1 (length items) parts.0) parts.1

keeps-passes : (plan : Plan) → plan_keeps plan ≡ true → PassesTests plan
unfolding plan_keeps
keeps-passes plan kept =
    let head = and_parts (is_version plan.version && is_name_word plan.name) _ kept in
    let named = and_parts (is_version plan.version) (is_name_word plan.name) head.0 in
    let instances = and_parts (is_within 1 most_instances plan.instances) _ head.1 in
    let races = and_parts (some_keep race_fits plan.races) _ instances.1 in
    let styles = and_parts (some_keep (style_fits (length plan.races)) plan.styles) _ races.1 in
    let runs = and_parts (some_keep (run_keeps (length plan.styles)) plan.runs) (nat_le (r_rows plan) most_rows) styles.1 in
    record {
      version = named.0;
      name = named.1;
      instances = instances.0;
      races = some_keep-None race_fits plan.races races.0;
      styles = some_keep-None (style_fits (length plan.races)) plan.styles styles.0;
      runs = some_keep-None (run_keeps (length plan.styles)) plan.runs runs.0;
      rows = runs.1;
    }

passes-keeps : (plan : Plan) → PassesTests plan → plan_keeps plan ≡ true
unfolding plan_keeps
passes-keeps plan tests =
    and_from (is_version plan.version && is_name_word plan.name) _ (and_from (is_version plan.version) (is_name_word plan.name) tests.version tests.name)
    (and_from (is_within 1 most_instances plan.instances) _ tests.instances
    (and_from (some_keep race_fits plan.races) _ (None-some_keep race_fits plan.races tests.races)
    (and_from (some_keep (style_fits (length plan.races)) plan.styles) _ (None-some_keep (style_fits (length plan.races)) plan.styles tests.styles)
    (and_from (some_keep (run_keeps (length plan.styles)) plan.runs) (nat_le (r_rows plan) most_rows) (None-some_keep (run_keeps (length plan.styles)) plan.runs tests.runs) tests.rows))))

-- a plan that keeps its limits has no fault
pub keeps-faultless : (plan : Plan) → plan_keeps plan ≡ true → fault_of plan ≡ None
keeps-faultless plan kept = no_fault plan (keeps-passes plan kept)

-- a plan without a fault keeps its limits
pub faultless-keeps : (plan : Plan) → fault_of plan ≡ None → plan_keeps plan ≡ true
faultless-keeps plan fine = passes-keeps plan (passes_tests plan fine)

pub plan_keeps_told : (plan : Plan) → (plan_keeps plan ≡ true) ↔ (fault_of plan ≡ None)
plan_keeps_told plan = (keeps-faultless plan, faultless-keeps plan)

same_test : (test : Bool) (found : Option PlanFault) → (test ≡ true → found ≡ None) → (found ≡ None → test ≡ true) → test ≡ is_none found
same_test true None from to = refl
same_test true (Some one) from to = absurd (let e = from refl in cc)
same_test false None from to = to refl
same_test false (Some one) from to = refl

-- the same as a test
pub plan_keeps_is : (plan : Plan) → plan_keeps plan ≡ is_none (fault_of plan)
plan_keeps_is plan = same_test (plan_keeps plan) (fault_of plan) (keeps-faultless plan) (faultless-keeps plan)
