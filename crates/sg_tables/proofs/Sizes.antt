-- How large the numbers of a plan are, and how long the lists of its tables.
use Rattle.std.proofs.Common.{◌≡◌, ◌⊎◌, ℕ, ◌^◌, ◌<◌, ◌≤◌, length, None, arith}
use Rattle.sg_plan.specs.Ballots.{candidates_of, entries_of, rows_of}
use Rattle.sg_plan.specs.Limits.{fault_of}
use Rattle.sg_plan.specs.declared.plan.Plan.{Plan}
use Rattle.sg_plan.proofs.LimitLaws.{keeps_limits, passes_tests}
use Rattle.sg_plan.proofs.PlanLaws.{bounds}

-- the numbers of a race of a plan without a fault
pub record Sizes (plan : Plan) (race : ℕ) : Type 0 where
  pub version : (plan.version ≡ 1) ⊎ (plan.version ≡ 2)
  pub small : race < 2 ^ 16
  pub instances : plan.instances ≤ 16
  pub some_candidate : 0 < candidates_of plan race
  pub candidates : candidates_of plan race ≤ 16
  pub rows : rows_of plan race ≤ 20000
  pub entries : entries_of plan race ≤ 200000

pub sizes : (plan : Plan) (race : ℕ) → fault_of plan ≡ None → race < length plan.races → Sizes plan race
sizes plan race good here =
    let b = bounds plan good in
    let two = b.two_candidates race here in
    record {
      version = (keeps_limits plan (passes_tests plan good)).version;
      small = omega (arith, b.few_races);
      instances = b.few_instances;
      some_candidate = omega (arith, two);
      candidates = b.few_candidates race;
      rows = omega (arith, b.few_rows race, b.few_ballots);
      entries = b.few_entries race here;
    }
