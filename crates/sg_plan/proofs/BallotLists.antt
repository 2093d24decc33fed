-- The list of the ballots' styles, run by run.
use Rattle.std.proofs.Common.{◌≡◌, ℕ, zero, suc, ◌+◌, ◌-◌, ◌*◌, ◌<◌, ◌≤◌, min, Bool, true, false, if◌then◌else◌, List, [], ◌∷◌, ◌++◌, length, take, drop, replicate, slice_get, count_by, refl, sym, ap, ◌∙◌, arith}
use Rattle.std.specs.Option.{option_map_or}
use Rattle.std.proofs.lemmas.List.{append_assoc, append-nil, length-append, length-replicate, take-append-drop}
use Rattle.std.proofs.lemmas.List.Sums.{count_by-le-length}
use Rattle.std.proofs.lemmas.Nat.{mul-le}
use Rattle.sg_lists.proofs.Counting.{at_run, count_by-append, count_by-before_run, count_by-replicate, count_by-run}
use Rattle.sg_plan.specs.Ballots.{ballot_styles, candidates_of, entries_before, entries_of, rows_of, style_has}
use Rattle.sg_plan.specs.declared.plan.Plan.{Plan}
use Rattle.sg_plan.specs.declared.plan.Run.{Run}

-- the ballots of some runs and of later ones follow one another
pub ballot_styles-append : (xs ys : List Run) → ballot_styles (xs ++ ys) ≡ ballot_styles xs ++ ballot_styles ys
ballot_styles-append [] ys = refl
ballot_styles-append (run ∷ xs) ys =
    ap (λ l. replicate run.count run.style ++ l) (ballot_styles-append xs ys) ∙ sym (append_assoc (replicate run.count run.style) (ballot_styles xs) (ballot_styles ys))

-- those of the first runs, and those of the others
pub ballot_styles-split : (runs : List Run) (at : ℕ) → ballot_styles runs ≡ ballot_styles (take at runs) ++ ballot_styles (drop at runs)
ballot_styles-split runs at = ap ballot_styles (sym (take-append-drop at runs)) ∙ ballot_styles-append (take at runs) (drop at runs)

-- one more run brings so many more ballots
pub count-push : (xs : List Run) (run : Run) → length (ballot_styles (xs ++ run ∷ [])) ≡ length (ballot_styles xs) + run.count
count-push xs run =
    ap length (ballot_styles-append xs (run ∷ []))
    ∙ (length-append (ballot_styles xs) (replicate run.count run.style ++ [])
    ∙ ap (λ n. length (ballot_styles xs) + n) (ap length (append-nil (replicate run.count run.style)) ∙ length-replicate run.count run.style))

pub ruleset counts = (count-push)

-- a run at some place, the ballots before it and those behind it
pub split_at_run : (runs : List Run) (at : ℕ) (run : Run) → drop at runs ≡ run ∷ drop (at + 1) runs
    → ballot_styles runs ≡ ballot_styles (take at runs) ++ (replicate run.count run.style ++ ballot_styles (drop (at + 1) runs))
split_at_run runs at run rest = ballot_styles-split runs at ∙ ap (λ l. ballot_styles (take at runs) ++ ballot_styles l) rest

-- the ballots up to and with a run are no more than all
pub counts_within : (runs : List Run) (at : ℕ) (run : Run) → drop at runs ≡ run ∷ drop (at + 1) runs
    → length (ballot_styles (take at runs)) + run.count ≤ length (ballot_styles runs)
counts_within runs at run rest =
    omega (
      arith,
      ap length (split_at_run runs at run rest),
      length-append (ballot_styles (take at runs)) (replicate run.count run.style ++ ballot_styles (drop (at + 1) runs)),
      length-append (replicate run.count run.style) (ballot_styles (drop (at + 1) runs)),
      length-replicate run.count run.style,
    )

-- the rows of a run are all its ballots, or none
pub rows_of_run : (b : Bool) (count left : ℕ) → left < (if b then count else 0) → (b ≡ true) × (left < count)
rows_of_run true count left below = (refl, below)
rows_of_run false count left below = absurd (omega arith)

-- the next run, in the count of the rows of the first ballots
pub rows_step : (p : ℕ → Bool) (runs : List Run) (at : ℕ) (run : Run) (rows left total : ℕ) → drop at runs ≡ run ∷ drop (at + 1) runs
    → rows + count_by p (take left (ballot_styles (drop at runs))) ≡ total
    → (rows + (if p run.style then min run.count left else 0)) + count_by p (take (left - min run.count left) (ballot_styles (drop (at + 1) runs))) ≡ total
rows_step p runs at run rows left total rest sum =
    let step : count_by p (take left (ballot_styles (drop at runs))) ≡ (if p run.style then min run.count left else 0) + count_by p (take (left - min run.count left) (ballot_styles (drop (at + 1) runs)))
    = ap (λ l. count_by p (take left (ballot_styles l))) rest ∙ count_by-run p run.count run.style (ballot_styles (drop (at + 1) runs)) left in
    omega (arith, step, sum)

-- what holds of the ballot in a run at so many of its rows
pub record InRun (p : ℕ → Bool) (styles : List ℕ) (place row : ℕ) : Type 0 where
  pub has : option_map_or p (slice_get styles place) false ≡ true
  pub before : count_by p (take place styles) ≡ row

-- the ballot in a run that has so many rows before it
pub in_run : (p : ℕ → Bool) (runs : List Run) (at : ℕ) (run : Run) (left row : ℕ) → drop at runs ≡ run ∷ drop (at + 1) runs
    → left < (if p run.style then run.count else 0) → count_by p (ballot_styles (take at runs)) + left ≡ row
    → InRun p (ballot_styles runs) (length (ballot_styles (take at runs)) + left) row
in_run p runs at run left row rest below sum =
    let inside = rows_of_run (p run.style) run.count left below in
    let split = split_at_run runs at run rest in
    record {
      has = rw (split, at_run p (ballot_styles (take at runs)) run.count run.style (ballot_styles (drop (at + 1) runs)) left inside.1 inside.0) inside.0;
      before = rw split (count_by-before_run p (ballot_styles (take at runs)) run.count run.style (ballot_styles (drop (at + 1) runs)) left inside.1 inside.0 ∙ sum);
    }

-- what is kept from one run to the next in the search for a row
pub record Passed (p : ℕ → Bool) (runs : List Run) (at passed left row : ℕ) : Type 0 where
  pub ballots : passed ≡ length (ballot_styles (take at runs))
  pub rows : count_by p (ballot_styles (take at runs)) + left ≡ row
  pub rest : left < count_by p (ballot_styles (drop at runs))

-- the next run is passed where the row is behind it
pub pass_run : (p : ℕ → Bool) (runs : List Run) (at : ℕ) (run : Run) (passed left row : ℕ)
    → take (at + 1) runs ≡ take at runs ++ run ∷ [] → drop at runs ≡ run ∷ drop (at + 1) runs
    → (if p run.style then run.count else 0) ≤ left
    → Passed p runs at passed left row → Passed p runs (at + 1) (passed + run.count) (left - (if p run.style then run.count else 0)) row
pass_run p runs at run passed left row front rest above kept =
    let here = count_by-replicate p run.count run.style in
    let before : count_by p (ballot_styles (take (at + 1) runs)) ≡ count_by p (ballot_styles (take at runs)) + (if p run.style then run.count else 0)
    = ap (λ l. count_by p (ballot_styles l)) front
    ∙ (ap (λ l. count_by p l) (ballot_styles-append (take at runs) (run ∷ []) ∙ ap (λ l. ballot_styles (take at runs) ++ l) (append-nil (replicate run.count run.style)))
    ∙ (count_by-append p (ballot_styles (take at runs)) (replicate run.count run.style) ∙ ap (λ n. count_by p (ballot_styles (take at runs)) + n) here)) in
    let behind : count_by p (ballot_styles (drop at runs)) ≡ (if p run.style then run.count else 0) + count_by p (ballot_styles (drop (at + 1) runs))
    = ap (λ l. count_by p (ballot_styles l)) rest
    ∙ (count_by-append p (replicate run.count run.style) (ballot_styles (drop (at + 1) runs)) ∙ ap (λ n. n + count_by p (ballot_styles (drop (at + 1) runs))) here) in
    record {
      ballots = ap (λ n. n + run.count) kept.ballots ∙ sym (ap (λ l. length (ballot_styles l)) front ∙ count-push (take at runs) run);
      rows = omega (arith, before, kept.rows);
      rest = omega (arith, behind, kept.rest);
    }

-- no race has more rows than there are ballots
pub rows_of-le : (plan : Plan) (race : ℕ) → rows_of plan race ≤ length (ballot_styles plan.runs)
rows_of-le plan race = count_by-le-length (style_has plan race) (ballot_styles plan.runs)

-- so many entries at most
pub entries_of-le : (plan : Plan) (race : ℕ) → length (ballot_styles plan.runs) ≤ 20000 → candidates_of plan race ≤ 16 → entries_of plan race ≤ 320000
entries_of-le plan race few_ballots few_candidates =
    mul-le (rows_of plan race) (candidates_of plan race) 20000 16 (omega (arith, rows_of-le plan race)) few_candidates

-- and of some races
pub entries_before-le : (plan : Plan) (race : ℕ) → length (ballot_styles plan.runs) ≤ 20000 → ((r : ℕ) → candidates_of plan r ≤ 16) → entries_before plan race ≤ race * 320000
entries_before-le plan zero few_ballots few_candidates = omega arith
entries_before-le plan (suc race) few_ballots few_candidates =
    omega (arith, entries_before-le plan race few_ballots few_candidates, entries_of-le plan race few_ballots (few_candidates race))
