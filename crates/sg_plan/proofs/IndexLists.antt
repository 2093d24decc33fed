-- The lists of an index of ballots, as they are made and read.
use Rattle.std.proofs.Common.{◌≡◌, ℕ, zero, suc, ◌+◌, ◌-◌, ◌*◌, ◌<◌, ◌≤◌, min, inl, inr, if◌then◌else◌, Bool, true, false, List, [], ◌∷◌, ◌++◌, append_assoc, length, get_or, slice_get, All, None, Some, take, drop, replicate, count_by, refl, sym, ap, ap₂, subst, ◌∙◌, arith}
use Rattle.std.proofs.Math.Seq.{take-append-add}
use Rattle.std.proofs.lemmas.Bool.{cases_Bool, cases_lt}
use Rattle.std.proofs.lemmas.List.{append-nil, get_or-append_right, get_or-replicate, get_or_append_left, length-append, length-replicate}
use Rattle.std.proofs.lemmas.List.Sums.{count_by-le-length, sum_by-cons}
use Rattle.std.proofs.lemmas.Nat.{mul-add-lt}
use Rattle.std.specs.List.{range_with_len}
use Rattle.sg_lists.proofs.Bools.{cond_le}
use Rattle.sg_lists.proofs.Counting.{at_run, count_by-append, count_by-place, count_by-replicate, count_by-run}
use Rattle.sg_lists.proofs.Lists.{length-take_le}
use Rattle.sg_plan.proofs.BallotLists.{count-push, split_at_run}
use Rattle.sg_plan.proofs.PlanLaws.{bounds, runs_kept, true-ballot_has}
use Rattle.sg_plan.proofs.LimitLaws.{passes_tests}
use Rattle.sg_plan.specs.Ballots.{ballot_has, ballot_row, ballot_styles, ballots_of, rows_of, style_has}
use Rattle.sg_plan.specs.Limits.{KeepsRun, fault_of}
use Rattle.sg_plan.specs.inside.Index.{ballots_to, ballots_with, counts_before, counts_to, firsts_to}
use Rattle.sg_plan.specs.Runs.{IsInRun, run_numbers}
use Rattle.sg_plan.specs.declared.plan.Plan.{Plan}
use Rattle.sg_plan.specs.declared.plan.Run.{Run}

-- the ballots of a run and of those behind it
length-run : (run : Run) (runs : List Run) → length (ballot_styles (run ∷ runs)) ≡ run.count + length (ballot_styles runs)
length-run run runs = length-append (replicate run.count run.style) (ballot_styles runs) ∙ ap (λ (n : ℕ). n + length (ballot_styles runs)) (length-replicate run.count run.style)

-- each run has a ballot, so there are no more runs than ballots
pub few_runs : (count : ℕ) (runs : List Run) → All (KeepsRun count) runs → length runs ≤ length (ballot_styles runs)
few_runs count [] each = omega arith
few_runs count (run ∷ runs) each =
    let first = each 0 run (omega arith) in
    omega (arith, first.one_ballot, length-run run runs, few_runs count runs (λ k d within. each (suc k) d (omega arith)))

-- a plan without a fault has few runs
pub few_runs_of : (plan : Plan) → fault_of plan ≡ None → length plan.runs ≤ 20000
few_runs_of plan good =
    let kept = runs_kept (length plan.styles) plan.runs (passes_tests plan good).runs in
    omega (arith, few_runs (length plan.styles) plan.runs kept.each, (bounds plan good).few_ballots)

-- NUMBERS OF RUNS

pub length-numbers : (number : ℕ) (runs : List Run) → length (run_numbers number runs) ≡ length (ballot_styles runs)
length-numbers number [] = refl
length-numbers number (run ∷ runs) =
    omega (
      arith,
      length-append (replicate run.count number) (run_numbers (number + 1) runs),
      length-replicate run.count number,
      length-numbers (number + 1) runs,
      length-run run runs,
    )

-- with one more run behind the others
pub numbers-push : (number : ℕ) (runs : List Run) (run : Run) → run_numbers number (runs ++ run ∷ []) ≡ run_numbers number runs ++ replicate run.count (number + length runs)
numbers-push number [] run = append-nil (replicate run.count number) ∙ ap (λ (n : ℕ). replicate run.count n) (omega arith)
numbers-push number (first ∷ runs) run =
    let sum : number + 1 + length runs ≡ number + suc (length runs) = omega arith in
    ap (λ (l : List ℕ). replicate first.count number ++ l) (numbers-push (number + 1) runs run ∙ ap (λ (n : ℕ). run_numbers (number + 1) runs ++ replicate run.count n) sum)
    ∙ sym (append_assoc (replicate first.count number) (run_numbers (number + 1) runs) (replicate run.count (number + suc (length runs))))

-- its run, as the list of the runs' numbers has it
pub record FindsRun (runs : List Run) (first place : ℕ) : Type 0 where
  pub number : ℕ
  pub is : get_or (run_numbers first runs) place 0 ≡ first + number
  pub in_run : IsInRun runs place number

pub finds_run : (runs : List Run) (first place : ℕ) → place < length (ballot_styles runs) → FindsRun runs first place
finds_run [] first place below = absurd (omega arith)
finds_run (run ∷ runs) first place below =
    elim (cases_lt place run.count) [
      | inl here ↦ record {
        number = 0;
        is = get_or_append_left (replicate run.count first) (run_numbers (first + 1) runs) 0 place (omega (arith, length-replicate run.count first))
            ∙ (get_or-replicate run.count place first 0 here ∙ omega arith);
        in_run = record { within = omega arith; from = omega arith; to = omega (arith, length-run run []) };
      }
      | inr behind ↦
          let later = finds_run runs (first + 1) (place - run.count) (omega (arith, length-run run runs)) in
          record {
            number = suc later.number;
            is = get_or-append_right (replicate run.count first) (run_numbers (first + 1) runs) run.count place 0 (length-replicate run.count first) (omega arith)
                ∙ (later.is ∙ omega arith);
            in_run = record {
              within = omega (arith, later.in_run.within);
              from = omega (arith, length-run run (take later.number runs), later.in_run.from);
              to = omega (arith, length-run run (take (suc later.number) runs), later.in_run.to);
            };
          }
    ]

-- what is known of a ballot and its run
pub record RunTells (runs : List Run) (run : Run) (start place : ℕ) : Type 0 where
  pub inside : place - start < run.count
  pub from : start ≤ place
  pub style : slice_get (ballot_styles runs) place ≡ Some run.style

pub run_tells : (runs : List Run) (place number : ℕ) (run : Run) → take (number + 1) runs ≡ take number runs ++ run ∷ [] → drop number runs ≡ run ∷ drop (number + 1) runs
    → IsInRun runs place number → RunTells runs run (length (ballot_styles (take number runs))) place
run_tells runs place number run front rest is =
    let start = length (ballot_styles (take number runs)) in
    let next : suc number ≡ number + 1 = omega arith in
    let ends : length (ballot_styles (take (suc number) runs)) ≡ start + run.count
    = ap (λ (n : ℕ). length (ballot_styles (take n runs))) next ∙ (ap (λ (l : List Run). length (ballot_styles l)) front ∙ count-push (take number runs) run) in
    let inside : place - start < run.count = omega (arith, ends, is.from, is.to) in
    let sum : place ≡ start + (place - start) = omega (arith, is.from) in
    record {
      inside = inside;
      from = is.from;
      style = ap₂ (λ (l : List ℕ) (n : ℕ). slice_get l n) (split_at_run runs number run rest) sum
          ∙ at_run (λ (style : ℕ). true) (ballot_styles (take number runs)) run.count run.style (ballot_styles (drop (number + 1) runs)) (place - start) inside refl;
    }

-- how many before it pass: those before its run, and where its run passes the earlier ones of the run
pub row_in_run : (p : ℕ → Bool) (runs : List Run) (place number : ℕ) (run : Run) → drop number runs ≡ run ∷ drop (number + 1) runs
    → RunTells runs run (length (ballot_styles (take number runs))) place
    → count_by p (take place (ballot_styles runs)) ≡ count_by p (ballot_styles (take number runs)) + (if p run.style then place - length (ballot_styles (take number runs)) else 0)
row_in_run p runs place number run rest tells =
    let before = ballot_styles (take number runs) in
    let behind = ballot_styles (drop (number + 1) runs) in
    let k = place - length before in
    let sum : place ≡ length before + k = omega (arith, tells.from) in
    let few : min run.count k ≡ k = omega (arith, tells.inside) in
    let none : k - min run.count k ≡ 0 = omega (arith, tells.inside) in
    let inside : count_by p (take k (replicate run.count run.style ++ behind)) ≡ (if p run.style then k else 0) = count_by-run p run.count run.style behind k ∙ rw (none, few) (omega arith) in
    ap₂ (λ (l : List ℕ) (n : ℕ). count_by p (take n l)) (split_at_run runs number run rest) sum
    ∙ (ap (λ (l : List ℕ). count_by p l) (take-append-add before (replicate run.count run.style ++ behind) k)
    ∙ (count_by-append p before (take k (replicate run.count run.style ++ behind)) ∙ ap (λ (n : ℕ). count_by p before + n) inside))

-- the same where the run passes, and where it does not
pub row_in_run-true : (p : ℕ → Bool) (runs : List Run) (place number : ℕ) (run : Run) → drop number runs ≡ run ∷ drop (number + 1) runs
    → RunTells runs run (length (ballot_styles (take number runs))) place → p run.style ≡ true
    → count_by p (take place (ballot_styles runs)) ≡ count_by p (ballot_styles (take number runs)) + (place - length (ballot_styles (take number runs)))
row_in_run-true p runs place number run rest tells passes =
    subst (λ (b : Bool). count_by p (take place (ballot_styles runs)) ≡ count_by p (ballot_styles (take number runs)) + (if b then place - length (ballot_styles (take number runs)) else 0))
    passes (row_in_run p runs place number run rest tells)

pub row_in_run-false : (p : ℕ → Bool) (runs : List Run) (place number : ℕ) (run : Run) → drop number runs ≡ run ∷ drop (number + 1) runs
    → RunTells runs run (length (ballot_styles (take number runs))) place → p run.style ≡ false
    → count_by p (take place (ballot_styles runs)) ≡ count_by p (ballot_styles (take number runs))
row_in_run-false p runs place number run rest tells fails =
    subst (λ (b : Bool). count_by p (take place (ballot_styles runs)) ≡ count_by p (ballot_styles (take number runs)) + (if b then place - length (ballot_styles (take number runs)) else 0))
    fails (row_in_run p runs place number run rest tells)
    ∙ omega arith

-- no more pass before a place than stand before it
pub few_before : (p : ℕ → Bool) (place : ℕ) (styles : List ℕ) → count_by p (take place styles) ≤ place
few_before p place styles = omega (arith, count_by-le-length p (take place styles), length-take_le place styles)

-- COUNTS BEFORE RUNS

pub length-counts : (has : ℕ → Bool) (count : ℕ) (runs : List Run) → length (counts_before has count runs) ≡ length runs
length-counts has count [] = refl
length-counts has count (run ∷ runs) = ap (λ (n : ℕ). suc n) (length-counts has (count + (if has run.style then run.count else 0)) runs)

count-at : (has : ℕ → Bool) (count : ℕ) (runs : List Run) (at : ℕ) → at < length runs
    → get_or (counts_before has count runs) at 0 ≡ count + count_by has (ballot_styles (take at runs))
count-at has count [] at below = absurd (omega arith)
count-at has count (run ∷ runs) zero below = omega arith
count-at has count (run ∷ runs) (suc at) below =
    count-at has (count + (if has run.style then run.count else 0)) runs at (omega arith)
    ∙ omega (arith, count_by-append has (replicate run.count run.style) (ballot_styles (take at runs)), count_by-replicate has run.count run.style)

pub first_count-at : (has : ℕ → Bool) (runs : List Run) (at : ℕ) → at < length runs → get_or (counts_before has 0 runs) at 0 ≡ count_by has (ballot_styles (take at runs))
first_count-at has runs at below = count-at has 0 runs at below ∙ omega arith

-- all pass
all_count : (xs : List ℕ) → count_by (λ (x : ℕ). true) xs ≡ length xs
all_count [] = refl
all_count (x ∷ xs) = sum_by-cons (λ (y : ℕ). 1) x xs ∙ omega (arith, all_count xs)

pub start-at : (runs : List Run) (at : ℕ) → at < length runs → get_or (counts_before (λ style. true) 0 runs) at 0 ≡ length (ballot_styles (take at runs))
start-at runs at below = first_count-at (λ style. true) runs at below ∙ all_count (ballot_styles (take at runs))

pub length-counts_to : (plan : Plan) (races : ℕ) → length (counts_to plan races) ≡ races * length plan.runs
length-counts_to plan zero = omega arith
length-counts_to plan (suc races) =
    omega (
      arith,
      length-append (counts_to plan races) (counts_before (style_has plan races) 0 plan.runs),
      length-counts (style_has plan races) 0 plan.runs,
      length-counts_to plan races,
    )

-- how many of the ballots before a run have one of the races
pub count_to-at : (plan : Plan) (races race at : ℕ) → race < races → at < length plan.runs
    → get_or (counts_to plan races) (race * length plan.runs + at) 0 ≡ count_by (style_has plan race) (ballot_styles (take at plan.runs))
count_to-at plan zero race at within below = absurd (omega arith)
count_to-at plan (suc races) race at within below =
    let before = counts_to plan races in
    let last = counts_before (style_has plan races) 0 plan.runs in
    let n = length plan.runs in
    elim (cases_lt race races) [
      | inl earlier ↦
          get_or_append_left before last 0 (race * n + at) (omega (arith, length-counts_to plan races, mul-add-lt race n at races earlier below))
          ∙ count_to-at plan races race at earlier below
      | inr later ↦
          let is : race ≡ races = omega arith in
          let behind : length before + at - length before ≡ at = omega arith in
          let place : race * n + at ≡ length before + at = omega (arith, length-counts_to plan races, ap (λ (k : ℕ). k * n) is) in
          ap (λ (k : ℕ). get_or (before ++ last) k 0) place
          ∙ (get_or-append_right before last (length before) (length before + at) 0 refl (omega arith)
          ∙ (ap (λ (k : ℕ). get_or last k 0) behind
          ∙ (first_count-at (style_has plan races) plan.runs at below ∙ ap (λ (k : ℕ). count_by (style_has plan k) (ballot_styles (take at plan.runs))) (sym is))))
    ]

-- BALLOTS WITH A RACE

pub length-with : (has : ℕ → Bool) (ballot : ℕ) (styles : List ℕ) → length (ballots_with has ballot styles) ≡ count_by has styles
length-with has ballot [] = refl
length-with has ballot (style ∷ styles) =
    let counts = sum_by-cons (λ (s : ℕ). if has s then 1 else 0) style styles in
    let rest = length-with has (ballot + 1) styles in
    elim (cases_Bool (has style)) [
      | inl yes' ↦
          let more : count_by has (style ∷ styles) ≡ suc (count_by has styles) = counts ∙ rw yes' (omega arith) in
          rw (more, yes') (ap (λ (n : ℕ). suc n) rest)
      | inr no' ↦
          let same : count_by has (style ∷ styles) ≡ count_by has styles = counts ∙ rw no' (omega arith) in
          rw (same, no') rest
    ]

-- one that passes stands behind those that pass before it
with-at : (has : ℕ → Bool) (ballot : ℕ) (styles : List ℕ) (place : ℕ) → place < length styles → has (get_or styles place 0) ≡ true
    → get_or (ballots_with has ballot styles) (count_by has (take place styles)) 0 ≡ ballot + place
with-at has ballot [] place within passes = absurd (omega arith)
with-at has ballot (style ∷ styles) zero within passes = rw passes (omega arith)
with-at has ballot (style ∷ styles) (suc place) within passes =
    let counts = sum_by-cons (λ (s : ℕ). if has s then 1 else 0) style (take place styles) in
    let rest = with-at has (ballot + 1) styles place (omega arith) passes in
    elim (cases_Bool (has style)) [
      | inl yes' ↦
          let more : count_by has (style ∷ take place styles) ≡ suc (count_by has (take place styles)) = counts ∙ rw yes' (omega arith) in
          rw (more, yes') (rest ∙ omega arith)
      | inr no' ↦
          let same : count_by has (style ∷ take place styles) ≡ count_by has (take place styles) = counts ∙ rw no' (omega arith) in
          rw (same, no') (rest ∙ omega arith)
    ]

-- the ballots of the earlier races
pub length-ballots_to : (plan : Plan) (races : ℕ) → length (ballots_to plan (suc races)) ≡ length (ballots_to plan races) + rows_of plan races
length-ballots_to plan races =
    length-append (ballots_to plan races) (ballots_with (style_has plan races) 1 (ballot_styles plan.runs))
    ∙ ap (λ (n : ℕ). length (ballots_to plan races) + n) (length-with (style_has plan races) 1 (ballot_styles plan.runs))

pub ballots_to-more : (plan : Plan) (race races : ℕ) → race < races → length (ballots_to plan race) + rows_of plan race ≤ length (ballots_to plan races)
ballots_to-more plan race zero within = absurd (omega arith)
ballots_to-more plan race (suc races) within =
    elim (cases_lt race races) [
      | inl earlier ↦ omega (arith, ballots_to-more plan race races earlier, length-ballots_to plan races)
      | inr later ↦
          let is : race ≡ races = omega arith in
          rw is (omega (arith, length-ballots_to plan races))
    ]

-- a ballot of one of the races
ballot_to-at : (plan : Plan) (races race row : ℕ) → race < races → row < rows_of plan race
    → get_or (ballots_to plan races) (length (ballots_to plan race) + row) 0 ≡ get_or (ballots_with (style_has plan race) 1 (ballot_styles plan.runs)) row 0
ballot_to-at plan zero race row within below = absurd (omega arith)
ballot_to-at plan (suc races) race row within below =
    let before = ballots_to plan races in
    let last = ballots_with (style_has plan races) 1 (ballot_styles plan.runs) in
    elim (cases_lt race races) [
      | inl earlier ↦
          get_or_append_left before last 0 (length (ballots_to plan race) + row) (omega (arith, ballots_to-more plan race races earlier))
          ∙ ballot_to-at plan races race row earlier below
      | inr later ↦
          let is : race ≡ races = omega arith in
          let behind : length before + row - length before ≡ row = omega arith in
          ap (λ (k : ℕ). get_or (before ++ last) (length (ballots_to plan k) + row) 0) is
          ∙ (get_or-append_right before last (length before) (length before + row) 0 refl (omega arith)
          ∙ (ap (λ (k : ℕ). get_or last k 0) behind
          ∙ ap (λ (k : ℕ). get_or (ballots_with (style_has plan k) 1 (ballot_styles plan.runs)) row 0) (sym is)))
    ]

-- the ballot that has so many before it with the race
pub record FindsBallot (plan : Plan) (race row ballot : ℕ) : Type 0 where
  pub place : ℕ
  pub is : ballot ≡ place + 1
  pub within : place < ballots_of plan
  pub passes : style_has plan race (get_or (ballot_styles plan.runs) place 0) ≡ true
  pub before : count_by (style_has plan race) (take place (ballot_styles plan.runs)) ≡ row

pub finds_ballot : (plan : Plan) (races race row : ℕ) → race < races → row < rows_of plan race
    → FindsBallot plan race row (get_or (ballots_to plan races) (length (ballots_to plan race) + row) 0)
finds_ballot plan races race row within below =
    let found = count_by-place (style_has plan race) (ballot_styles plan.runs) 0 row below in
    let stands : get_or (ballots_with (style_has plan race) 1 (ballot_styles plan.runs)) row 0 ≡ 1 + found.place
    = ap (λ (n : ℕ). get_or (ballots_with (style_has plan race) 1 (ballot_styles plan.runs)) n 0) (sym found.before)
    ∙ with-at (style_has plan race) 1 (ballot_styles plan.runs) found.place found.within found.passes in
    record {
      place = found.place;
      is = ballot_to-at plan races race row within below ∙ (stands ∙ omega arith);
      within = found.within;
      passes = found.passes;
      before = found.before;
    }

-- what is known of it
pub record BallotTells (plan : Plan) (race row ballot : ℕ) : Type 0 where
  pub has : ballot_has plan ballot race ≡ true
  pub row_is : ballot_row plan race ballot ≡ row
  pub first : 1 ≤ ballot
  pub last : ballot ≤ ballots_of plan

ballot_at : (plan : Plan) (race row ballot : ℕ) → FindsBallot plan race row ballot → BallotTells plan race row ballot
ballot_at plan race row ballot found =
    let same : found.place + 1 - 1 ≡ found.place = omega arith in
    record {
      has = rw found.is (true-ballot_has plan found.place race found.within found.passes);
      row_is = rw (found.is, same) found.before;
      first = omega (arith, found.is);
      last = omega (arith, found.is, found.within);
    }

pub ballot_tells : (plan : Plan) (races race row : ℕ) → race < races → row < rows_of plan race
    → BallotTells plan race row (get_or (ballots_to plan races) (length (ballots_to plan race) + row) 0)
ballot_tells plan races race row within below = ballot_at plan race row (get_or (ballots_to plan races) (length (ballots_to plan race) + row) 0) (finds_ballot plan races race row within below)

-- WHERE THE BALLOTS OF RACES BEGIN

pub length-firsts : (plan : Plan) (races : ℕ) → length (firsts_to plan races) ≡ races
length-firsts plan zero = refl
length-firsts plan (suc races) = omega (arith, length-append (firsts_to plan races) (length (ballots_to plan races) ∷ []), length-firsts plan races)

pub first-at : (plan : Plan) (races race : ℕ) → race < races → get_or (firsts_to plan races) race 0 ≡ length (ballots_to plan race)
first-at plan zero race within = absurd (omega arith)
first-at plan (suc races) race within =
    let before = firsts_to plan races in
    let last = length (ballots_to plan races) ∷ [] in
    elim (cases_lt race races) [
      | inl earlier ↦ get_or_append_left before last 0 race (omega (arith, length-firsts plan races)) ∙ first-at plan races race earlier
      | inr later ↦
          let is : race ≡ races = omega arith in
          let behind : race - races ≡ 0 = omega arith in
          get_or-append_right before last races race 0 (length-firsts plan races) (omega arith)
          ∙ (ap (λ (k : ℕ). get_or last k 0) behind ∙ ap (λ (k : ℕ). length (ballots_to plan k)) (sym is))
    ]

-- all races have few ballots
pub few_ballots_to : (plan : Plan) (races most : ℕ) → ballots_of plan ≤ most → ((race : ℕ) → rows_of plan race ≤ ballots_of plan) → length (ballots_to plan races) ≤ races * most
few_ballots_to plan zero most few rows = omega arith
few_ballots_to plan (suc races) most few rows = omega (arith, length-ballots_to plan races, rows races, few_ballots_to plan races most few rows)

-- MAKING THEM

-- the numbers of the next run are put behind the others
pub numbers-step : (runs : List Run) (at : ℕ) (run : Run) (numbers all : List ℕ) → drop at runs ≡ run ∷ drop (at + 1) runs
    → numbers ++ run_numbers at (drop at runs) ≡ all → (numbers ++ replicate run.count at) ++ run_numbers (at + 1) (drop (at + 1) runs) ≡ all
numbers-step runs at run numbers all next is =
    append_assoc numbers (replicate run.count at) (run_numbers (at + 1) (drop (at + 1) runs))
    ∙ (ap (λ (list : List Run). numbers ++ run_numbers at list) (sym next) ∙ is)

-- the count before the next run is put behind the others
pub counts-step : (has : ℕ → Bool) (runs : List Run) (at count : ℕ) (run : Run) (counts all : List ℕ) → drop at runs ≡ run ∷ drop (at + 1) runs
    → counts ++ counts_before has count (drop at runs) ≡ all
    → (counts ++ count ∷ []) ++ counts_before has (count + (if has run.style then run.count else 0)) (drop (at + 1) runs) ≡ all
counts-step has runs at count run counts all next is =
    append_assoc counts (count ∷ []) (counts_before has (count + (if has run.style then run.count else 0)) (drop (at + 1) runs))
    ∙ (ap (λ (list : List Run). counts ++ counts_before has count list) (sym next) ∙ is)

-- the ballots of equal styles, and then of others
with-run : (has : ℕ → Bool) (ballot count style : ℕ) (styles : List ℕ)
    → ballots_with has ballot (replicate count style ++ styles) ≡ range_with_len ballot (if has style then count else 0) ++ ballots_with has (ballot + count) styles
with-run has ballot zero style styles =
    elim (cases_Bool (has style)) [
      | inl yes' ↦ rw yes' (ap (λ (n : ℕ). ballots_with has n styles) (omega arith))
      | inr no' ↦ rw no' (ap (λ (n : ℕ). ballots_with has n styles) (omega arith))
    ]
with-run has ballot (suc count) style styles =
    let rest = with-run has (ballot + 1) count style styles in
    let sum : ballot + 1 + count ≡ ballot + suc count = omega arith in
    elim (cases_Bool (has style)) [
      | inl yes' ↦
          let rest' : ballots_with has (ballot + 1) (replicate count style ++ styles) ≡ range_with_len (ballot + 1) count ++ ballots_with has (ballot + 1 + count) styles = rw yes' at rest in
          rw yes' (ap (λ (xs : List ℕ). ballot ∷ xs) (rest' ∙ ap (λ (n : ℕ). range_with_len (ballot + 1) count ++ ballots_with has n styles) sum))
      | inr no' ↦
          let rest' : ballots_with has (ballot + 1) (replicate count style ++ styles) ≡ ballots_with has (ballot + 1 + count) styles = rw no' at rest in
          rw no' (rest' ∙ ap (λ (n : ℕ). ballots_with has n styles) sum)
    ]

-- the ballots of the next run that have the race are put behind the others
pub ballots-step : (has : ℕ → Bool) (runs : List Run) (at ballot : ℕ) (run : Run) (ballots all : List ℕ) → drop at runs ≡ run ∷ drop (at + 1) runs
    → ballots ++ ballots_with has ballot (ballot_styles (drop at runs)) ≡ all
    → (ballots ++ range_with_len ballot (if has run.style then run.count else 0)) ++ ballots_with has (ballot + run.count) (ballot_styles (drop (at + 1) runs)) ≡ all
ballots-step has runs at ballot run ballots all next is =
    append_assoc ballots (range_with_len ballot (if has run.style then run.count else 0)) (ballots_with has (ballot + run.count) (ballot_styles (drop (at + 1) runs)))
    ∙ (ap (λ (more : List ℕ). ballots ++ more) (sym (with-run has ballot run.count run.style (ballot_styles (drop (at + 1) runs))))
    ∙ (ap (λ (list : List Run). ballots ++ ballots_with has ballot (ballot_styles list)) (sym next) ∙ is))

-- one more number is put behind the others
pub rising-step : (numbers : List ℕ) (first at count : ℕ) (all : List ℕ) → at < count → numbers ++ range_with_len (first + at) (count - at) ≡ all
    → (numbers ++ (first + at) ∷ []) ++ range_with_len (first + (at + 1)) (count - (at + 1)) ≡ all
rising-step numbers first at count all below is =
    let more : count - at ≡ suc (count - (at + 1)) = omega arith in
    let next : first + at + 1 ≡ first + (at + 1) = omega arith in
    append_assoc numbers ((first + at) ∷ []) (range_with_len (first + (at + 1)) (count - (at + 1)))
    ∙ (ap (λ (from : ℕ). numbers ++ (first + at) ∷ range_with_len from (count - (at + 1))) (sym next)
    ∙ (ap (λ (n : ℕ). numbers ++ range_with_len (first + at) n) (sym more) ∙ is))

-- how many ballots are left
pub left-step : (has : ℕ → Bool) (runs : List Run) (at count : ℕ) (run : Run) (most : ℕ) → drop at runs ≡ run ∷ drop (at + 1) runs
    → count + length (ballot_styles (drop at runs)) ≤ most
    → (count + run.count ≤ most) × (count + run.count + length (ballot_styles (drop (at + 1) runs)) ≤ most) × (count + (if has run.style then run.count else 0) ≤ most)
    × (count + (if has run.style then run.count else 0) + length (ballot_styles (drop (at + 1) runs)) ≤ most)
left-step has runs at count run most next few =
    let left : length (ballot_styles (drop at runs)) ≡ run.count + length (ballot_styles (drop (at + 1) runs)) = ap (λ (list : List Run). length (ballot_styles list)) next ∙ length-run run (drop (at + 1) runs) in
    let part = cond_le (has run.style) run.count in
    (omega (arith, left, few), omega (arith, left, few), omega (arith, left, few, part), omega (arith, left, few, part))
