-- What the program's steps on a plan come to.
use Rattle.std.proofs.Common.{◌≡◌, ℕ, zero, suc, ◌+◌, ◌-◌, ◌*◌, ◌≤◌, List, [], ◌∷◌, ◌++◌, length, slice_get, slice_set, Some, sym, ap, ◌∙◌, arith}
use Rattle.std.proofs.lemmas.Nat.{mul-le}
use Rattle.std.proofs.lemmas.Option.{same_Some}
use Rattle.sg_plan.proofs.BallotLists.{count-push, entries_before-le, entries_of-le}
use Rattle.sg_plan.specs.Ballots.{all_entries, ballots_of, entries_before, entries_of, r_rows}
use Rattle.sg_plan.specs.declared.plan.Plan.{Plan}
use Rattle.sg_plan.specs.declared.plan.Race.{Race}
use Rattle.sg_grammar.specs.Head.{last_candidates, with_candidate, with_run}
use Rattle.sg_grammar.specs.Made.{IsSmall}

-- THE LAST RACE

-- its candidates
pub last_candidates-get : (races : List Race) (race : Race) → slice_get races (length races - 1) ≡ Some race → last_candidates races ≡ race.candidates
last_candidates-get [] race e = cc
last_candidates-get (first ∷ []) race e = ap (λ (r : Race). r.candidates) (same_Some first race e)
last_candidates-get (first ∷ next ∷ races) race e =
    let behind : length (first ∷ next ∷ races) - 1 ≡ suc (length (next ∷ races) - 1) = omega arith in
    last_candidates-get (next ∷ races) race (rw behind at e)

-- a candidate is put behind them
pub with_candidate-set : (races : List Race) (race blank : Race) (name : List ℕ) → slice_get races (length races - 1) ≡ Some race
    → slice_set (slice_set races (length races - 1) blank) (length races - 1) (record race { candidates = race.candidates ++ name ∷ [] }) ≡ with_candidate races name
with_candidate-set [] race blank name e = cc
with_candidate-set (first ∷ []) race blank name e = ap (λ (r : Race). record r { candidates = r.candidates ++ name ∷ [] } ∷ []) (sym (same_Some first race e))
with_candidate-set (first ∷ next ∷ races) race blank name e =
    let behind : length (first ∷ next ∷ races) - 1 ≡ suc (length (next ∷ races) - 1) = omega arith in
    rw behind (ap (λ l. first ∷ l) (with_candidate-set (next ∷ races) race blank name (rw behind at e)))

-- a race with the candidates that it had is put back
pub set_back : (races : List Race) (k : ℕ) (race blank : Race) (names : List (List ℕ)) → slice_get races k ≡ Some race → names ≡ race.candidates
    → slice_set (slice_set races k blank) k (record race { candidates = names }) ≡ races
set_back [] k race blank names e same = cc
set_back (first ∷ races) zero race blank names e same =
    ap (λ (l : List (List ℕ)). record race { candidates = l } ∷ races) same ∙ ap (λ (r : Race). r ∷ races) (sym (same_Some first race e))
set_back (first ∷ races) (suc k) race blank names e same = ap (λ l. first ∷ l) (set_back races k race blank names e same)

pub ruleset last_race = (last_candidates-get, with_candidate-set, set_back)

-- THE ROWS OF THE RUNS

-- with one more run there are few ballots
run-ballots : (plan : Plan) (style count : ℕ) → ballots_of plan + count ≤ 20000 → ballots_of (with_run plan style count) ≤ 20000
run-ballots plan style count few = omega (arith, count-push plan.runs (record { style = style; count = count }))

-- and so few entries in a race
pub run-entries : (plan : Plan) (style count race : ℕ) → IsSmall plan → ballots_of plan + count ≤ 20000 → entries_of (with_run plan style count) race ≤ 320000
run-entries plan style count race small few = entries_of-le (with_run plan style count) race (run-ballots plan style count few) (small.most_candidates race)

-- and in some races
pub run-entries_before : (plan : Plan) (style count race : ℕ) → IsSmall plan → ballots_of plan + count ≤ 20000
    → entries_before (with_run plan style count) race ≤ race * 320000
run-entries_before plan style count race small few = entries_before-le (with_run plan style count) race (run-ballots plan style count few) small.most_candidates

-- and so few rows in all
pub run-rows : (plan : Plan) (style count : ℕ) → IsSmall plan → ballots_of plan + count ≤ 20000 → r_rows (with_run plan style count) ≤ 16 * 10240000
run-rows plan style count small few =
    let all : all_entries (with_run plan style count) ≤ 10240000 = omega (arith, run-entries_before plan style count (length plan.races) small few, small.most_races) in
    mul-le plan.instances (all_entries (with_run plan style count)) 16 10240000 small.most_instances all
