-- The lines of a completion, and what lists that are the same begin with.
use Rattle.std.proofs.Common.{◌≡◌, ℕ, zero, suc, ◌+◌, ◌*◌, ◌<◌, ◌==◌, Bool, true, ◌&&◌, List, [], ◌∷◌, ◌++◌, All, length, replicate, ap, ◌∙◌, length-append, arith}
use Rattle.std.specs.List.{list_all}
use Rattle.std.proofs.lemmas.Bool.{and_parts, eqb-true}
use Rattle.std.proofs.lemmas.List.{length-map}
use Rattle.sg_plan.specs.Ballots.{ballot_styles, entries_before, entries_of, r_rows}
use Rattle.sg_plan.specs.Limits.{KeepsRun}
use Rattle.sg_plan.specs.declared.plan.Plan.{Plan}
use Rattle.sg_plan.specs.declared.plan.Run.{Run}
use Rattle.sg_record.specs.Formed.{each_passes, has_rows}
use Rattle.sg_parts.specs.Given.{completion_texts, joined, row_text}
use Rattle.sg_parts.specs.declared.parts.RowGiven.{RowGiven}

-- LISTS

-- ROWS

lists_long : {A : Type 0} (count : ℕ) (lists : List (List A)) → list_all (λ items. length items == count) lists ≡ true → length (joined lists) ≡ length lists * count
lists_long count [] all = omega arith
lists_long count (x ∷ lists) all =
    let parts = and_parts (length x == count) (list_all (λ items. length items == count) lists) all in
    let rest = lists_long count lists parts.1 in
    let here = eqb-true (length x) count parts.0 in
    let step : suc (length lists) * count ≡ count + length lists * count = one_more (length lists) count in
    omega (arith, length-append x (joined lists), rest, here, step)
  where
    one_more : (n c : ℕ) → suc n * c ≡ c + n * c
    one_more n c = grind arith

joined_both : {A : Type 0} (xs ys : List (List A)) → length (joined (xs ++ ys)) ≡ length (joined xs) + length (joined ys)
joined_both [] ys = omega arith
joined_both (x ∷ xs) ys = omega (arith, length-append x (joined (xs ++ ys)), length-append x (joined xs), joined_both xs ys)

abbrev passes : Plan → ℕ → List (List RowGiven) → Bool
passes plan race instances = length instances == plan.instances && list_all (λ items. length items == entries_of plan race) instances

races_long : (plan : Plan) (race : ℕ) (rows : List (List (List RowGiven))) → each_passes (passes plan) race rows ≡ true
    → plan.instances * entries_before plan race + length (joined (joined rows)) ≡ plan.instances * entries_before plan (race + length rows)
races_long plan race [] all = let same : race ≡ race + 0 = omega arith in omega (arith, ap (λ n. plan.instances * entries_before plan n) same)
races_long plan race (x ∷ rows) all =
    let parts = and_parts (passes plan race x) (each_passes (passes plan) (race + 1) rows) all in
    let here = and_parts (length x == plan.instances) (list_all (λ items. length items == entries_of plan race) x) parts.0 in
    let long : length (joined x) ≡ plan.instances * entries_of plan race = lists_long (entries_of plan race) x here.1 ∙ ap (λ n. n * entries_of plan race) (eqb-true (length x) plan.instances here.0) in
    let rest = races_long plan (race + 1) rows parts.1 in
    let next : race + 1 ≡ suc race = omega arith in
    let last : (race + 1) + length rows ≡ race + suc (length rows) = omega arith in
    let spread : plan.instances * (entries_before plan race + entries_of plan race) ≡ plan.instances * entries_before plan race + plan.instances * entries_of plan race = grind arith in
    omega (arith, joined_both x (joined rows), long, rest, ap (λ n. plan.instances * entries_before plan n) next, ap (λ n. plan.instances * entries_before plan n) last, spread)

-- a completion has a line for each row
pub rows_few : (plan : Plan) (rows : List (List (List RowGiven))) → has_rows plan rows ≡ true → length (completion_texts rows) ≡ r_rows plan
rows_few plan rows has =
    let parts = and_parts (length rows == length plan.races) (each_passes (passes plan) 0 rows) has in
    let counted = races_long plan 0 rows parts.1 in
    let races = eqb-true (length rows) (length plan.races) parts.0 in
    let all : 0 + length rows ≡ length plan.races = omega (arith, races) in
    let none : plan.instances * 0 ≡ 0 = omega arith in
    length-map (joined (joined rows)) row_text ∙ omega (arith, counted, none, ap (λ n. plan.instances * entries_before plan n) all)

-- STYLES

abbrev pub AreBelow : ℕ → List ℕ → Type 0
AreBelow end [] = Unit {0}
AreBelow end (x ∷ xs) = (x < end) × AreBelow end xs

below_both : (end : ℕ) (xs ys : List ℕ) → AreBelow end xs → AreBelow end ys → AreBelow end (xs ++ ys)
below_both end [] ys a b = b
below_both end (x ∷ xs) ys a b = (a.0, below_both end xs ys a.1 b)

below_again : (end count x : ℕ) → x < end → AreBelow end (replicate count x)
below_again end zero x less = tt
below_again end (suc count) x less = (less, below_again end count x less)

pub styles_below : (end : ℕ) (runs : List Run) → All (KeepsRun end) runs → AreBelow end (ballot_styles runs)
styles_below end [] all = tt
styles_below end (run ∷ runs) all =
    below_both end (replicate run.count run.style) (ballot_styles runs) (below_again end run.count run.style (all 0 run (omega arith)).style) (styles_below end runs (λ k d within. all (suc k) d (omega (arith, within))))
