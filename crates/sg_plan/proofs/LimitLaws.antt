-- A plan has no fault exactly where it keeps its limits.
use Rattle.std.proofs.Common.{◌≡◌, ◌↔◌, Bool, true, false, List, ◌∷◌, length, Option, Some, None, nat_le, refl}
use Rattle.std.specs.Option.{option_map}
use Rattle.std.proofs.lemmas.Bool.{leb-true, le-leb}
use Rattle.sg_plan.proofs.Lists.{None-first_fault, first_fault-None}
use Rattle.sg_plan.proofs.LimitTests.{is_version-true, races-true, runs-true, styles-true, true-is_version, true-races, true-runs, true-styles}
use Rattle.sg_plan.proofs.NameTests.{is_name_word-true, is_within-true, true-is_name_word, true-is_within}
use Rattle.sg_plan.specs.Ballots.{r_rows}
use Rattle.sg_plan.specs.Limits.{KeepsLimits, PassesTests, fault_of, fault_unless, first_of, is_version, most_instances, race_fault, race_fits, run_fault, run_keeps, style_fault, style_fits}
use Rattle.sg_plan.specs.Names.{is_name_word, is_within}
use Rattle.sg_plan.specs.declared.limits.PlanFault.{PlanFault}
use Rattle.sg_plan.specs.declared.limits.PlanFault.TheVariants as fault
use Rattle.sg_plan.specs.declared.plan.Plan.{Plan}

-- no fault is the first of none
first_of-None : (o : Option PlanFault) (os : List (Option PlanFault)) → first_of (o ∷ os) ≡ None → (o ≡ None) × (first_of os ≡ None)
first_of-None None os e = (refl, e)
first_of-None (Some x) os e = cc

None-first_of : (o : Option PlanFault) (os : List (Option PlanFault)) → o ≡ None → first_of os ≡ None → first_of (o ∷ os) ≡ None
None-first_of None os e rest = rest
None-first_of (Some x) os e rest = cc

fault_unless-None : (b : Bool) (x : PlanFault) → fault_unless b x ≡ None → b ≡ true
fault_unless-None true x e = refl
fault_unless-None false x e = cc

None-fault_unless : (b : Bool) (x : PlanFault) → b ≡ true → fault_unless b x ≡ None
None-fault_unless true x e = refl
None-fault_unless false x e = cc

option_map-None : {A B : Type 0} (f : A → B) (o : Option A) → option_map f o ≡ None → o ≡ None
option_map-None f None e = refl
option_map-None f (Some x) e = cc

None-option_map : {A B : Type 0} (f : A → B) (o : Option A) → o ≡ None → option_map f o ≡ None
None-option_map f None e = refl
None-option_map f (Some x) e = cc

-- a plan without a fault passes each test
pub passes_tests : (plan : Plan) → fault_of plan ≡ None → PassesTests plan
unfolding fault_of
passes_tests plan e =
    let one = first_of-None _ _ e in
    let two = first_of-None _ _ one.1 in
    let three = first_of-None _ _ two.1 in
    let four = first_of-None _ _ three.1 in
    let five = first_of-None _ _ four.1 in
    let six = first_of-None _ _ five.1 in
    let seven = first_of-None _ _ six.1 in
    record {
      version = fault_unless-None (is_version plan.version) fault.Version one.0;
      name = fault_unless-None (is_name_word plan.name) fault.Name two.0;
      instances = fault_unless-None (is_within 1 most_instances plan.instances) fault.Instances three.0;
      races = option_map-None fault.Race (race_fault plan.races) four.0;
      styles = option_map-None fault.Style (style_fault (length plan.races) plan.styles) five.0;
      runs = option_map-None fault.Run (run_fault (length plan.styles) plan.runs) six.0;
      rows = fault_unless-None (nat_le (r_rows plan) 200000) (fault.TooLarge (r_rows plan)) seven.0;
    }

-- a plan that passes each test has no fault
pub no_fault : (plan : Plan) → PassesTests plan → fault_of plan ≡ None
unfolding fault_of
no_fault plan t =
    None-first_of _ _ (None-fault_unless (is_version plan.version) fault.Version t.version)
    (None-first_of _ _ (None-fault_unless (is_name_word plan.name) fault.Name t.name)
    (None-first_of _ _ (None-fault_unless (is_within 1 most_instances plan.instances) fault.Instances t.instances)
    (None-first_of _ _ (None-option_map fault.Race (race_fault plan.races) t.races)
    (None-first_of _ _ (None-option_map fault.Style (style_fault (length plan.races) plan.styles) t.styles)
    (None-first_of _ _ (None-option_map fault.Run (run_fault (length plan.styles) plan.runs) t.runs)
    (None-first_of _ _ (None-fault_unless (nat_le (r_rows plan) 200000) (fault.TooLarge (r_rows plan)) t.rows)
    refl))))))

-- a plan that passes each test keeps its limits
pub keeps_limits : (plan : Plan) → PassesTests plan → KeepsLimits plan
keeps_limits plan t =
    let instances = is_within-true 1 16 plan.instances t.instances in
    let some_races = first_fault-None race_fits plan.races t.races in
    let races = races-true plan.races some_races.1 in
    let some_styles = first_fault-None (style_fits (length plan.races)) plan.styles t.styles in
    let styles = styles-true (length plan.races) plan.styles some_styles.1 in
    let some_runs = first_fault-None (run_keeps (length plan.styles)) plan.runs t.runs in
    let runs = runs-true (length plan.styles) plan.runs some_runs.1 in
    record {
      version = is_version-true plan.version t.version;
      name = is_name_word-true plan.name t.name;
      one_instance = instances.0;
      most_instances = instances.1;
      one_race = some_races.0;
      most_races = races.most;
      races = races.each;
      race_names = races.names;
      one_style = some_styles.0;
      most_styles = styles.most;
      styles = styles.each;
      style_names = styles.names;
      one_run = some_runs.0;
      runs = runs.each;
      most_ballots = runs.most;
      most_rows = leb-true (r_rows plan) 200000 t.rows;
    }

-- a plan that keeps its limits passes each test
pub limits_pass : (plan : Plan) → KeepsLimits plan → PassesTests plan
limits_pass plan kept = record {
  version = true-is_version plan.version kept.version;
  name = true-is_name_word plan.name kept.name;
  instances = true-is_within 1 16 plan.instances kept.one_instance kept.most_instances;
  races = None-first_fault race_fits plan.races kept.one_race (true-races plan.races (record { most = kept.most_races; each = kept.races; names = kept.race_names }));
  styles = None-first_fault (style_fits (length plan.races)) plan.styles kept.one_style
      (true-styles (length plan.races) plan.styles (record { most = kept.most_styles; each = kept.styles; names = kept.style_names }));
  runs = None-first_fault (run_keeps (length plan.styles)) plan.runs kept.one_run (true-runs (length plan.styles) plan.runs (record { each = kept.runs; most = kept.most_ballots }));
  rows = le-leb (r_rows plan) 200000 kept.most_rows;
}

-- a plan has no fault exactly where it keeps its limits
pub limits_told : (plan : Plan) → (fault_of plan ≡ None) ↔ KeepsLimits plan
limits_told plan = (λ e. keeps_limits plan (passes_tests plan e), λ kept. no_fault plan (limits_pass plan kept))
