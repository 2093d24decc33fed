-- A scan that fits has at most 512 marks: they are all different.
use Rattle.std.proofs.Common.{◌≡◌, ℕ, zero, suc, ◌+◌, ◌*◌, ◌<◌, ◌≤◌, ◌==◌, nat_lt, Bool, true, false, ◌&&◌, ◌||◌, not, List, [], ◌∷◌, ◌++◌, length, map, slice_get, Option, Some, None, refl, ap, ◌∙◌, arith, subst}
use Rattle.std.specs.List.{IsDistinct, AllByRecursion, list_all, list_any}
use Rattle.std.specs.Option.{option_map, option_map_or}
use Rattle.std.proofs.lemmas.Bool.{and_parts}
use Rattle.std.proofs.lemmas.Bool.Decides.{nat_tests}
use Rattle.std.proofs.lemmas.List.{append_assoc}
use Rattle.std.proofs.lemmas.Map.Steps.{length-le_from_distinct_below}
use Rattle.sg_lists.proofs.Options.{is_none-true}
use Rattle.sg_plan.specs.Ballots.{ballot_has, candidates_of}
use Rattle.sg_plan.specs.Fates.{has_mark}
use Rattle.sg_plan.specs.Limits.{each_keeps, fault_of, first_bad}
use Rattle.sg_plan.specs.declared.plan.Mark.{Mark}
use Rattle.sg_plan.specs.declared.plan.Plan.{Plan}
use Rattle.sg_plan.specs.declared.plan.Race.{Race}
use Rattle.sg_plan.proofs.PlanLaws.{bounds}
use Rattle.sg_acts.specs.declared.asks.Act.TheVariants as act
use Rattle.sg_acts.specs.declared.replies.FateWord.TheVariants as word
use Rattle.sg_acts.specs.declared.replies.Phase.TheVariants as phase
use Rattle.sg_acts.specs.declared.replies.Reply.{Reply}
use Rattle.sg_acts.specs.declared.replies.Reply.TheVariants as reply
use Rattle.sg_histories.specs.Answers.{early_refusal, scan_refusal}
use Rattle.sg_histories.specs.ValidRows.{fits}
use Rattle.sg_histories.proofs.Accepted.{first_none}
use Rattle.sg_histories.proofs.Back.{all_from, each_from}

abbrev pub key_of : Mark → ℕ
key_of mark = mark.race * 16 + mark.candidate

pub map_none : (f : ℕ → Reply) (o : Option ℕ) → option_map f o ≡ None → o ≡ None
map_none f None e = refl
map_none f (Some x) e = cc

pub inside_not : (p : Mark → Bool) (front : List Mark) (x : Mark) (back : List Mark) → not (list_any p (front ++ x ∷ back)) ≡ true → p x ≡ false
inside_not p [] x back e = here (p x) (list_any p back) e
  where
    here : (a b : Bool) → not (a || b) ≡ true → a ≡ false
    here true b k = cc
    here false b k = refl
inside_not p (y ∷ front) x back e = inside_not p front x back (there (p y) (list_any p (front ++ x ∷ back)) e)
  where
    there : (a b : Bool) → not (a || b) ≡ true → not b ≡ true
    there true b k = cc
    there false b k = k

keys_apart : (a b c d : ℕ) → b < 16 → d < 16 → (a == c && b == d) ≡ false → (a * 16 + b == c * 16 + d) ≡ false
keys_apart a b c d sb sd e = grind (arith, nat_tests, sb, sd, e)

later_apart : (x : Mark) (front back xs : List Mark) → x.candidate < 16 → list_all (λ mark. nat_lt mark.candidate 16) xs ≡ true
    → each_keeps (λ earlier mark. not (has_mark earlier mark.race mark.candidate)) (front ++ x ∷ back) xs ≡ true → AllByRecursion (λ y. (key_of x == y) ≡ false) (map key_of xs)
later_apart x front back [] low all e = tt
later_apart x front back (y ∷ ys) low all e =
    let parts = and_parts (not (has_mark (front ++ x ∷ back) y.race y.candidate)) (each_keeps (λ earlier mark. not (has_mark earlier mark.race mark.candidate)) ((front ++ x ∷ back) ++ y ∷ []) ys) e in
    let lows = and_parts (nat_lt y.candidate 16) (list_all (λ mark. nat_lt mark.candidate 16) ys) all in
    let differ : (x.race == y.race && x.candidate == y.candidate) ≡ false = inside_not (λ m. m.race == y.race && m.candidate == y.candidate) front x back parts.0 in
    let low_y : y.candidate < 16 = (let k = lows.0 in grind (arith, nat_tests, k)) in
    let next : each_keeps (λ earlier mark. not (has_mark earlier mark.race mark.candidate)) (front ++ x ∷ (back ++ y ∷ [])) ys ≡ true
    = subst (λ (l : List Mark). each_keeps (λ earlier mark. not (has_mark earlier mark.race mark.candidate)) l ys ≡ true) (append_assoc front (x ∷ back) (y ∷ [])) parts.1 in
    (keys_apart x.race x.candidate y.race y.candidate low low_y differ, later_apart x front (back ++ y ∷ []) ys low lows.1 next)

distinct : (earlier xs : List Mark) → list_all (λ mark. nat_lt mark.candidate 16) xs ≡ true → each_keeps (λ before mark. not (has_mark before mark.race mark.candidate)) earlier xs ≡ true → IsDistinct (λ a b. a == b) (map key_of xs)
unfolding IsDistinct
distinct earlier [] all e = tt
distinct earlier (x ∷ xs) all e =
    let parts = and_parts (not (has_mark earlier x.race x.candidate)) (each_keeps (λ before mark. not (has_mark before mark.race mark.candidate)) (earlier ++ x ∷ []) xs) e in
    let lows = and_parts (nat_lt x.candidate 16) (list_all (λ mark. nat_lt mark.candidate 16) xs) all in
    let low : x.candidate < 16 = (let k = lows.0 in grind (arith, nat_tests, k)) in
    (later_apart x earlier [] xs low lows.1 parts.1, distinct (earlier ++ x ∷ []) xs lows.1 parts.1)

keys_below : (xs : List Mark) → list_all (λ mark. nat_lt (key_of mark) 512) xs ≡ true → (q : ℕ) → list_any (λ y. q == y) (map key_of xs) ≡ true → q < 512
keys_below [] all q e = cc
keys_below (x ∷ xs) all q e =
    let parts = and_parts (nat_lt (key_of x) 512) (list_all (λ mark. nat_lt (key_of mark) 512) xs) all in
    by_test (q == key_of x) refl parts.0 e (λ k. keys_below xs parts.1 q k)
  where
    by_test : (t : Bool) → (q == key_of x) ≡ t → nat_lt (key_of x) 512 ≡ true → (t || list_any (λ y. q == y) (map key_of xs)) ≡ true → (list_any (λ y. q == y) (map key_of xs) ≡ true → q < 512) → q < 512
    by_test true k low any ih = (let same : q ≡ key_of x = grind (arith, nat_tests, k) in let l : nat_lt q 512 ≡ true = ap (λ n. nat_lt n 512) same ∙ low in grind (arith, nat_tests, l))
    by_test false k low any ih = ih any

keys_long : (xs : List Mark) → length (map key_of xs) ≡ length xs
keys_long [] = refl
keys_long (x ∷ xs) = ap (λ n. suc n) (keys_long xs)

pub mark_small : (plan : Plan) (mark : Mark) → fault_of plan ≡ None → nat_lt mark.candidate (candidates_of plan mark.race) ≡ true → (mark.race < 32) × (mark.candidate < 16)
mark_small plan mark e c =
    let b = bounds plan e in
    let few = b.few_candidates mark.race in
    let races = b.few_races in
    let low : mark.candidate < candidates_of plan mark.race = grind (arith, nat_tests, c) in
    let within : mark.race < length plan.races = race_within plan.races mark.race low in
    (omega (arith, within, races), omega (arith, low, few))
  where
    race_within : (list : List Race) (race : ℕ) → mark.candidate < option_map_or (λ r. length r.candidates) (slice_get list race) 0 → race < length list
    race_within [] race h = absurd (omega (arith, h))
    race_within (r ∷ list) zero h = omega arith
    race_within (r ∷ list) (suc race) h = let k = race_within list race h in omega (arith, k)

pub few_marks : (plan : Plan) (ballot : ℕ) (marks : List Mark) → fault_of plan ≡ None → fits plan (act.Scan ballot marks) ≡ true → length marks ≤ 512
few_marks plan ballot marks kept f =
    let one = first_none (early_refusal plan phase.Voting word.Unused ballot) _ (is_none-true (scan_refusal plan phase.Voting word.Unused ballot marks) f) in
    let two = first_none (option_map reply.Race (first_bad (λ earlier mark. ballot_has plan ballot mark.race) [] marks)) _ one.1 in
    let three = first_none (option_map reply.Candidate (first_bad (λ earlier mark. nat_lt mark.candidate (candidates_of plan mark.race)) [] marks)) _ two.1 in
    let four = first_none (option_map reply.Twice (first_bad (λ earlier mark. not (has_mark earlier mark.race mark.candidate)) [] marks)) _ three.1 in
    let cs = each_from (λ earlier mark. nat_lt mark.candidate (candidates_of plan mark.race)) marks (map_none reply.Candidate _ three.0) in
    let ts = each_from (λ earlier mark. not (has_mark earlier mark.race mark.candidate)) marks (map_none reply.Twice _ four.0) in
    let lows : list_all (λ mark. nat_lt mark.candidate 16) marks ≡ true
    = all_from (λ earlier mark. nat_lt mark.candidate (candidates_of plan mark.race)) (λ mark. nat_lt mark.candidate 16) (λ front (mark : Mark) k. (let s = (mark_small plan mark kept k).1 in low_is mark.candidate 16 s)) [] marks cs in
    let keys : list_all (λ mark. nat_lt (key_of mark) 512) marks ≡ true
    = all_from (λ earlier mark. nat_lt mark.candidate (candidates_of plan mark.race)) (λ mark. nat_lt (key_of mark) 512) (λ front (mark : Mark) k. (let s = mark_small plan mark kept k in key_low mark.race mark.candidate s.0 s.1)) [] marks cs in
    let most = length-le_from_distinct_below (map key_of marks) 512 (distinct [] marks lows ts) (keys_below marks keys) in
    let long : length (map key_of marks) ≡ length marks = keys_long marks in
    omega (arith, most, long)
  where
    low_is : (a b : ℕ) → a < b → nat_lt a b ≡ true
    low_is a b h = grind (arith, nat_tests, h)

    key_low : (a b : ℕ) → a < 32 → b < 16 → nat_lt (a * 16 + b) 512 ≡ true
    key_low a b h k = low_is (a * 16 + b) 512 (omega (arith, h, k))
