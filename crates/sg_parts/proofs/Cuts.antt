-- How rows are cut into races and instances.
use Rattle.std.proofs.Common.{◌≡◌, ℕ, suc, ◌+◌, ◌-◌, ◌*◌, ◌<◌, ◌≤◌, ◌==◌, Bool, true, ◌&&◌, List, [], ◌∷◌, ◌++◌, drop, length, refl, sym, subst, ap, ◌∙◌, append_assoc, append-nil, suc-mul, arith}
use Rattle.std.specs.List.{list_all}
use Rattle.std.specs.Prelude.{slice_range}
use Rattle.std.proofs.lemmas.Bool.{and_from, and_parts, eq-eqb, eqb-true}
use Rattle.std.proofs.lemmas.List.{drop_all, length-append, length_push}
use Rattle.std.proofs.lemmas.Grind.{common_steps}
use Rattle.std.proofs.lemmas.List.Folds.{drop_split}
use Rattle.std.proofs.lemmas.Nat.{mul-le}
use Rattle.std.proofs.Math.Nat.{mul-le-mul_left}
use Rattle.sg_lists.proofs.Tests.{list_all-push}
use Rattle.sg_plan.proofs.PlanLaws.{entries_before-more}
use Rattle.sg_plan.specs.Ballots.{entries_before, entries_of, r_rows}
use Rattle.sg_plan.specs.declared.plan.Plan.{Plan}
use Rattle.sg_record.specs.Formed.{each_passes}
use Rattle.sg_parts.specs.Given.{joined}
use Rattle.sg_parts.specs.declared.parts.RowGiven.{RowGiven}
use Rattle.sg_parts.specs.inside.Cutting.{AreCut, AreInstances}

-- LISTS, ONE MORE

pub joined_push : {A : Type 0} (xs : List (List A)) (x : List A) → joined (xs ++ x ∷ []) ≡ joined xs ++ x
joined_push [] x = append-nil x
joined_push (y ∷ xs) x = ap (λ l. y ++ l) (joined_push xs x) ∙ sym (append_assoc y (joined xs) x)

pub joined_both : {A : Type 0} (xs ys : List (List A)) → joined (xs ++ ys) ≡ joined xs ++ joined ys
joined_both [] ys = refl
joined_both (x ∷ xs) ys = ap (λ l. x ++ l) (joined_both xs ys) ∙ sym (append_assoc x (joined xs) (joined ys))

pub all_long : {A : Type 0} (count : ℕ) (rows : List (List A)) → list_all (λ items. length items == count) rows ≡ true → length (joined rows) ≡ length rows * count
all_long count [] all = omega arith
all_long count (x ∷ rows) all =
    let parts = and_parts (length x == count) (list_all (λ items. length items == count) rows) all in
    let rest = all_long count rows parts.1 in
    let here = eqb-true (length x) count parts.0 in
    omega (arith, length-append x (joined rows), rest, here, suc-mul (length rows) count)

-- a part of the rows is as long as its bounds are apart
pub slice_long : (rows : List RowGiven) (from end : ℕ) → from ≤ end → end ≤ length rows → length (slice_range rows from end) ≡ end - from
slice_long rows from end order within = grind (arith, common_steps)

-- INSTANCES

-- so many instances were cut off the rows, and others are left
pub record HasInstances (at count done : ℕ) (rows : List RowGiven) (cut : List (List RowGiven)) : Type 0 where
  pub done_are : done ≡ at * count
  pub long : length cut ≡ at
  pub each_long : list_all (λ items. length items == count) cut ≡ true
  pub rows_are : joined cut ++ drop done rows ≡ rows

pub instances_start : (count : ℕ) (rows : List RowGiven) (cut : List (List RowGiven)) → cut ≡ [] → HasInstances 0 count 0 rows cut
instances_start count rows cut none = record {
  done_are = omega arith;
  long = ap length none;
  each_long = ap (list_all (λ items. length items == count)) none;
  rows_are = ap (λ (l : List (List RowGiven)). joined l ++ rows) none;
}

pub instances_more : (at count done next : ℕ) (rows here : List RowGiven) (cut cut' : List (List RowGiven)) → HasInstances at count done rows cut → next ≡ done + count → next ≤ length rows
    → here ≡ slice_range rows done next → cut' ≡ cut ++ here ∷ [] → HasInstances (at + 1) count next rows cut'
instances_more at count done next rows here cut cut' has next_is within is grown = record {
  done_are = next_is ∙ (ap (λ n. n + count) has.done_are ∙ sym (one_more at));
  long = ap length grown ∙ (length_push cut here ∙ ap (λ n. n + 1) has.long);
  each_long = ap (list_all (λ items. length items == count)) grown ∙ list_all-push (λ items. length items == count) cut here has.each_long (eq-eqb (length here) count long);
  rows_are =
      ap (λ (l : List (List RowGiven)). joined l ++ drop next rows) grown
      ∙ (ap (λ (l : List RowGiven). l ++ drop next rows) (joined_push cut here)
      ∙ (append_assoc (joined cut) here (drop next rows)
      ∙ (ap (λ (l : List RowGiven). joined cut ++ (l ++ drop next rows)) is ∙ (ap (λ (l : List RowGiven). joined cut ++ l) (sym (drop_split rows done next (omega (arith, next_is)))) ∙ has.rows_are))));
}
  where
    one_more : (n : ℕ) → (n + 1) * count ≡ n * count + count
    one_more n = grind arith

    long : length here ≡ count
    long = let apart = slice_long rows done next (omega (arith, next_is)) within in omega (arith, ap length is, apart, next_is)

-- there are rows for one more
pub instances_fit : (at count done instances : ℕ) (rows : List RowGiven) (cut : List (List RowGiven)) → HasInstances at count done rows cut → at < instances → length rows ≡ instances * count → done + count ≤ length rows
instances_fit at count done instances rows cut has less long =
    let up = mul-le (at + 1) count instances count (omega (arith, less)) (omega arith) in
    let step : (at + 1) * count ≡ at * count + count = grind arith in
    omega (arith, up, step, has.done_are, long)

pub instances_all : (at count done instances : ℕ) (rows : List RowGiven) (cut : List (List RowGiven)) → HasInstances at count done rows cut → at ≡ instances → length rows ≡ instances * count → AreInstances instances count rows cut
instances_all at count done instances rows cut has all long =
    let past : length rows ≤ done = omega (arith, long, has.done_are, ap (λ n. n * count) all) in
    record {
      long = has.long ∙ all;
      each_long = has.each_long;
      rows_are = sym (append-nil (joined cut)) ∙ (ap (λ (l : List RowGiven). joined cut ++ l) (sym (drop_all done rows past)) ∙ has.rows_are);
    }

-- RACES

abbrev pub passes : Plan → ℕ → List (List RowGiven) → Bool
passes plan race instances = length instances == plan.instances && list_all (λ items. length items == entries_of plan race) instances

-- the rows of the races so far were cut off, and others are left
pub record HasRaces (plan : Plan) (race done : ℕ) (rows : List RowGiven) (cut : List (List (List RowGiven))) : Type 0 where
  pub done_are : done ≡ plan.instances * entries_before plan race
  pub long : length cut ≡ race
  pub each_long : each_passes (passes plan) 0 cut ≡ true
  pub rows_are : joined (joined cut) ++ drop done rows ≡ rows

pub races_start : (plan : Plan) (rows : List RowGiven) (cut : List (List (List RowGiven))) → cut ≡ [] → HasRaces plan 0 0 rows cut
races_start plan rows cut none = record {
  done_are = nothing plan.instances;
  long = ap length none;
  each_long = ap (each_passes (passes plan) 0) none;
  rows_are = ap (λ (l : List (List (List RowGiven))). joined (joined l) ++ rows) none;
}
  where
    nothing : (n : ℕ) → 0 ≡ n * 0
    nothing n = omega arith

each_push : (plan : Plan) (at : ℕ) (rows : List (List (List RowGiven))) (read : List (List RowGiven)) → each_passes (passes plan) at rows ≡ true → passes plan (at + length rows) read ≡ true
    → each_passes (passes plan) at (rows ++ read ∷ []) ≡ true
each_push plan at [] read all one =
    let same : at + 0 ≡ at = omega arith in
    and_from (passes plan at read) true (subst (λ n. passes plan n read ≡ true) same one) refl
each_push plan at (r ∷ rows) read all one =
    let parts = and_parts (passes plan at r) (each_passes (passes plan) (at + 1) rows) all in
    let same : at + suc (length rows) ≡ (at + 1) + length rows = omega arith in
    and_from (passes plan at r) (each_passes (passes plan) (at + 1) (rows ++ read ∷ [])) parts.0 (each_push plan (at + 1) rows read parts.1 (subst (λ n. passes plan n read ≡ true) same one))

pub races_more : (plan seen : Plan) (race done next count : ℕ) (rows part : List RowGiven) (here : List (List RowGiven)) (cut cut' : List (List (List RowGiven))) → HasRaces plan race done rows cut
    → seen ≡ plan → count ≡ entries_of seen race → next ≡ done + seen.instances * count → part ≡ slice_range rows done next → AreInstances seen.instances count part here → cut' ≡ cut ++ here ∷ []
    → HasRaces plan (race + 1) next rows cut'
races_more plan seen race done next count rows part here cut cut' has same_plan seen_counts next_is is more grown =
    let many : seen.instances ≡ plan.instances = ap (λ (p : Plan). p.instances) same_plan in
    let counts : count ≡ entries_of plan race = seen_counts ∙ ap (λ (p : Plan). entries_of p race) same_plan in
    let one : suc race ≡ race + 1 = omega arith in
    let spread : plan.instances * (entries_before plan race + entries_of plan race) ≡ plan.instances * entries_before plan race + plan.instances * entries_of plan race = grind arith in
    let same : seen.instances * count ≡ plan.instances * entries_of plan race = ap (λ n. n * count) many ∙ ap (λ n. plan.instances * n) counts in
    record {
      done_are = omega (arith, has.done_are, next_is, same, spread, ap (λ n. plan.instances * entries_before plan n) one);
      long = ap length grown ∙ (length_push cut here ∙ ap (λ n. n + 1) has.long);
      each_long =
          ap (each_passes (passes plan) 0) grown
          ∙ each_push plan 0 cut here has.each_long
          (let at : race ≡ 0 + length cut = omega (arith, has.long) in
          subst (λ n. passes plan n here ≡ true) at
          (and_from (length here == plan.instances) (list_all (λ items. length items == entries_of plan race) here) (eq-eqb (length here) plan.instances (more.long ∙ many))
          (subst (λ n. list_all (λ items. length items == n) here ≡ true) counts more.each_long)));
      rows_are =
          ap (λ (l : List (List (List RowGiven))). joined (joined l) ++ drop next rows) grown
          ∙ (ap (λ (l : List RowGiven). l ++ drop next rows) (ap joined (joined_push cut here) ∙ joined_both (joined cut) here)
          ∙ (append_assoc (joined (joined cut)) (joined here) (drop next rows)
          ∙ (ap (λ (l : List RowGiven). joined (joined cut) ++ (l ++ drop next rows)) (more.rows_are ∙ is)
          ∙ (ap (λ (l : List RowGiven). joined (joined cut) ++ l) (sym (drop_split rows done next (omega (arith, next_is)))) ∙ has.rows_are))));
    }

-- the rows of a race more are no more than all rows
pub few_rows : (plan seen : Plan) (race done count : ℕ) → seen ≡ plan → race < length seen.races → done ≡ plan.instances * entries_before plan race → count ≡ entries_of seen race
    → done + seen.instances * count ≤ r_rows plan
few_rows plan seen race done count same_plan less is seen_counts =
    let many : seen.instances ≡ plan.instances = ap (λ (p : Plan). p.instances) same_plan in
    let counts : count ≡ entries_of plan race = seen_counts ∙ ap (λ (p : Plan). entries_of p race) same_plan in
    let more = entries_before-more plan race (length plan.races) (omega (arith, less, ap (λ (p : Plan). length p.races) same_plan)) in
    let spread : plan.instances * (entries_before plan race + entries_of plan race) ≡ plan.instances * entries_before plan race + plan.instances * entries_of plan race = grind arith in
    let same : seen.instances * count ≡ plan.instances * entries_of plan race = ap (λ n. n * count) many ∙ ap (λ n. plan.instances * n) counts in
    let up = mul-le-mul_left plan.instances more in
    omega (arith, is, same, spread, up)

pub races_all : (plan : Plan) (race done : ℕ) (rows : List RowGiven) (cut : List (List (List RowGiven))) → HasRaces plan race done rows cut → race ≡ length plan.races → length rows ≡ r_rows plan → AreCut plan rows cut
races_all plan race done rows cut has all long =
    let past : length rows ≤ done = omega (arith, long, has.done_are ∙ ap (λ n. plan.instances * entries_before plan n) all) in
    record {
      rows_fit = and_from (length cut == length plan.races) (each_passes (passes plan) 0 cut) (eq-eqb (length cut) (length plan.races) (has.long ∙ all)) has.each_long;
      rows_are = sym (append-nil (joined (joined cut))) ∙ (ap (λ (l : List RowGiven). joined (joined cut) ++ l) (sym (drop_all done rows past)) ∙ has.rows_are);
    }
