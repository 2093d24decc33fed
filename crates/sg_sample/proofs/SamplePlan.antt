-- The plan of a sample keeps its limits.
use Rattle.std.proofs.Common.{◌≡◌, ℕ, ◌+◌, ◌*◌, ◌≤◌, nat_le, Bool, true, List, [], ◌∷◌, ◌++◌, length, count_by, replicate, cond, None, refl, ap, ◌∙◌, arith}
use Rattle.std.proofs.lemmas.Bool.Decides.{nat_tests}
use Rattle.std.proofs.lemmas.List.{append-nil, length-replicate}
use Rattle.std.proofs.lemmas.List.Folds.{sum_by-replicate}
use Rattle.sg_plan.proofs.LimitLaws.{no_fault}
use Rattle.sg_plan.specs.Ballots.{ballots_of, r_rows, rows_of, style_has}
use Rattle.sg_plan.specs.Limits.{PassesTests, fault_of, run_fault}
use Rattle.sg_keeper.specs.SetupText.{IsSetup}
use Rattle.sg_keeper.specs.declared.setup.Setup.{Setup}
use Rattle.sg_sample.specs.SampleRun.{sample_plan}

-- each of so many equal items passes a test
pub all_counted : (p : ℕ → Bool) (x n : ℕ) → p x ≡ true → count_by p (replicate n x) ≡ n
all_counted p x n e =
    let each = sum_by-replicate (λ y. cond (p y) 1 0) n x in
    let one : cond (p x) 1 0 ≡ 1 = ap (λ b. cond b 1 0) e in
    each ∙ (ap (λ k. n * k) one ∙ omega arith)

-- how many ballots there are
pub ballots_are : (ballots : ℕ) → ballots_of (sample_plan ballots) ≡ ballots
unfolding sample_plan
ballots_are ballots = ap length (append-nil (replicate ballots 0)) ∙ length-replicate ballots 0

-- each ballot has both races
all_rows : (p : ℕ → Bool) (n : ℕ) → p 0 ≡ true → count_by p (replicate n 0 ++ []) ≡ n
all_rows p n e = ap (count_by p) (append-nil (replicate n 0)) ∙ all_counted p 0 n e

first_rows : (ballots : ℕ) → rows_of (sample_plan ballots) 0 ≡ ballots
unfolding sample_plan
first_rows ballots = all_rows (style_has (sample_plan ballots) 0) ballots refl

second_rows : (ballots : ℕ) → rows_of (sample_plan ballots) 1 ≡ ballots
unfolding sample_plan
second_rows ballots = all_rows (style_has (sample_plan ballots) 1) ballots refl

rows_are : (ballots : ℕ) → r_rows (sample_plan ballots) ≡ 3 * (0 + rows_of (sample_plan ballots) 0 * 3 + rows_of (sample_plan ballots) 1 * 4)
unfolding sample_plan
rows_are ballots = refl

few_rows : (ballots : ℕ) → ballots ≤ 9000 → nat_le (r_rows (sample_plan ballots)) 200000 ≡ true
few_rows ballots few =
    let all = rows_are ballots in
    let one = first_rows ballots in
    let two = second_rows ballots in
    let sum : r_rows (sample_plan ballots) ≤ 200000 = omega (arith, all, one, two, few) in
    grind (arith, nat_tests, sum)

run_keeps : (ballots : ℕ) → 1 ≤ ballots → ballots ≤ 9000 → run_fault 1 (record { style = 0; count = ballots } ∷ []) ≡ None
run_keeps ballots some few =
    let least : nat_le 1 ballots ≡ true = grind (arith, nat_tests, some) in
    let most : nat_le (0 + ballots) 20000 ≡ true = grind (arith, nat_tests, few) in
    rw (least, most) refl

passes : (ballots : ℕ) → 1 ≤ ballots → ballots ≤ 9000 → PassesTests (sample_plan ballots)
unfolding sample_plan
passes ballots some few = record {
  version = refl;
  name = refl;
  instances = refl;
  races = refl;
  styles = refl;
  runs = run_keeps ballots some few;
  rows = few_rows ballots few;
}

pub plan_fits : (ballots : ℕ) → 1 ≤ ballots → ballots ≤ 9000 → fault_of (sample_plan ballots) ≡ None
plan_fits ballots some few = no_fault (sample_plan ballots) (passes ballots some few)

-- an office may be set up with it
pub setup_fits : (setup : Setup) (ballots : ℕ) (none : List (List ℕ)) (secret : List ℕ) → setup.plan ≡ sample_plan ballots → none ≡ [] → setup.secrets ≡ none ++ secret ∷ []
    → 1 ≤ ballots → ballots ≤ 9000 → IsSetup setup
setup_fits setup ballots none secret plan none_is secrets some few =
    let one : length setup.secrets ≡ 1 = ap length (secrets ∙ ap (λ (l : List (List ℕ)). l ++ secret ∷ []) none_is) in
    record {
      plan = ap fault_of plan ∙ plan_fits ballots some few;
      some = omega (arith, one);
      few = omega (arith, one);
    }
