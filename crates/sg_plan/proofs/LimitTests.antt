-- The tests of races, styles and runs say what the limits say in plain form.
use Rattle.std.proofs.Common.{◌≡◌, ℕ, zero, suc, ◌+◌, ◌<◌, ◌≤◌, ◌≢◌, ◌⊎◌, inl, inr, true, false, ◌&&◌, not, List, [], ◌∷◌, ◌++◌, length, take, get_or, All, nat_lt, nat_le, ◌==◌, refl, arith}
use Rattle.std.specs.List.{AllPairs}
use Rattle.std.proofs.lemmas.Bool.{and_from, and_parts, eq-eqb, eqb-true, leb-true, le-leb, lt-ltb, ltb-true, not-true, not_from_false, or_cases, or_left, or_right}
use Rattle.std.proofs.lemmas.List.{append_assoc, append-nil, drop_more, length-take-le}
use Rattle.std.proofs.lemmas.List.Elements.{All-cons, All-head, All-tail}
use Rattle.sg_plan.proofs.BallotLists.{count-push, counts_within}
use Rattle.sg_plan.proofs.Lists.{each_keeps-at, each_keeps-from, few_places, names_differ, names_new}
use Rattle.sg_plan.proofs.NameTests.{is_name_word-true, is_within-true, true-is_name_word, true-is_within}
use Rattle.sg_plan.specs.Ballots.{ballot_styles}
use Rattle.sg_plan.specs.Limits.{KeepsRace, KeepsRun, KeepsStyle, each_keeps, is_version, race_fits, race_head_keeps, race_keeps, races_have, rises, run_keeps, style_fits, style_keeps, styles_have}
use Rattle.sg_plan.specs.Names.{is_among, is_name_word, is_within, name_keeps}
use Rattle.sg_plan.specs.declared.plan.Race.{Race}
use Rattle.sg_plan.specs.declared.plan.Run.{Run}
use Rattle.sg_plan.specs.declared.plan.Style.{Style}

-- VERSIONS

pub is_version-true : (version : ℕ) → is_version version ≡ true → (version ≡ 1) ⊎ (version ≡ 2)
is_version-true version e = elim (or_cases (version == 1) (version == 2) e) [ inl one ↦ inl (eqb-true version 1 one) | inr two ↦ inr (eqb-true version 2 two) ]

pub true-is_version : (version : ℕ) → (version ≡ 1) ⊎ (version ≡ 2) → is_version version ≡ true
true-is_version version (inl one) = or_left (version == 1) (version == 2) (eq-eqb version 1 one)
true-is_version version (inr two) = or_right (version == 1) (version == 2) (eq-eqb version 2 two)

-- RACES

-- the parts of a race's test
pub record RaceTests (earlier : List Race) (race : Race) : Type 0 where
  pub name : is_name_word race.name ≡ true
  pub fresh : races_have earlier race.name ≡ false
  pub candidates : is_within 2 16 (length race.candidates) ≡ true
  pub votes : is_within 1 (length race.candidates) race.votes ≡ true
  pub each : each_keeps name_keeps [] race.candidates ≡ true

pub race_keeps-true : (earlier : List Race) (race : Race) → race_keeps earlier race ≡ true → RaceTests earlier race
race_keeps-true earlier race e =
    let whole = and_parts (race_head_keeps earlier race.name (length race.candidates) race.votes) (each_keeps name_keeps [] race.candidates) e in
    let head = and_parts (is_name_word race.name && not (races_have earlier race.name)) (is_within 2 16 (length race.candidates) && is_within 1 (length race.candidates) race.votes) whole.0 in
    let named = and_parts (is_name_word race.name) (not (races_have earlier race.name)) head.0 in
    let sizes = and_parts (is_within 2 16 (length race.candidates)) (is_within 1 (length race.candidates) race.votes) head.1 in
    record { name = named.0; fresh = not-true (races_have earlier race.name) named.1; candidates = sizes.0; votes = sizes.1; each = whole.1 }

pub true-race_keeps : (earlier : List Race) (race : Race) → RaceTests earlier race → race_keeps earlier race ≡ true
true-race_keeps earlier race t =
    and_from (race_head_keeps earlier race.name (length race.candidates) race.votes) (each_keeps name_keeps [] race.candidates)
    (and_from (is_name_word race.name && not (races_have earlier race.name)) (is_within 2 16 (length race.candidates) && is_within 1 (length race.candidates) race.votes)
    (and_from (is_name_word race.name) (not (races_have earlier race.name)) t.name (not_from_false (races_have earlier race.name) t.fresh))
    (and_from (is_within 2 16 (length race.candidates)) (is_within 1 (length race.candidates) race.votes) t.candidates t.votes))
    t.each

-- candidates that pass are names, and all different
pub record KeepsNames (names : List (List ℕ)) : Type 0 where
  pub each : (k : ℕ) (d : List ℕ) → k < length names → is_name_word (get_or names k d) ≡ true
  pub different : (i j : ℕ) (d : List ℕ) → i < j → j < length names → get_or names i d ≢ get_or names j d

pub candidates-true : (names : List (List ℕ)) → each_keeps name_keeps [] names ≡ true → KeepsNames names
candidates-true names e = record { each = λ k d within. (parts k d within).0; different = λ i j d before within. names_differ (λ w. w) names i j d before within (not-true (is_among (take j names) (get_or names j d)) (parts j d within).1) }
  where
    parts : (k : ℕ) (d : List ℕ) → k < length names → (is_name_word (get_or names k d) ≡ true) × (not (is_among (take k names) (get_or names k d)) ≡ true)
    parts k d within = and_parts (is_name_word (get_or names k d)) (not (is_among (take k names) (get_or names k d))) (each_keeps-at name_keeps [] names e k d within)

pub true-candidates : (names : List (List ℕ)) → KeepsNames names → each_keeps name_keeps [] names ≡ true
true-candidates names kept = each_keeps-from name_keeps [] names (λ k d within.
    and_from (is_name_word (get_or names k d)) (not (is_among (take k names) (get_or names k d))) (kept.each k d within)
    (not_from_false (is_among (take k names) (get_or names k d)) (names_new (λ w. w) names k d within (λ i before. kept.different i k d before within))))

-- a race that passes keeps its limits
pub keeps_race : (earlier : List Race) (race : Race) → RaceTests earlier race → KeepsRace race
keeps_race earlier race t =
    let names = candidates-true race.candidates t.each in
    let sizes = is_within-true 2 16 (length race.candidates) t.candidates in
    let votes = is_within-true 1 (length race.candidates) race.votes t.votes in
    record {
      name = is_name_word-true race.name t.name;
      two_candidates = sizes.0;
      most_candidates = sizes.1;
      candidates = λ k d within. is_name_word-true (get_or race.candidates k d) (names.each k d within);
      different = names.different;
      one_vote = votes.0;
      most_votes = votes.1;
    }

-- a race that keeps its limits passes beside races of other names
pub race_tests : (earlier : List Race) (race : Race) → KeepsRace race → races_have earlier race.name ≡ false → RaceTests earlier race
race_tests earlier race kept fresh = record {
  name = true-is_name_word race.name kept.name;
  fresh = fresh;
  candidates = true-is_within 2 16 (length race.candidates) kept.two_candidates kept.most_candidates;
  votes = true-is_within 1 (length race.candidates) race.votes kept.one_vote kept.most_votes;
  each = true-candidates race.candidates (record { each = λ k d within. true-is_name_word (get_or race.candidates k d) (kept.candidates k d within); different = kept.different });
}

-- what the tests say of all races
pub record KeepsRaces (races : List Race) : Type 0 where
  pub most : length races ≤ 32
  pub each : All KeepsRace races
  pub names : AllPairs (λ a b. a.name ≢ b.name) races

pub races-true : (races : List Race) → each_keeps race_fits [] races ≡ true → KeepsRaces races
races-true races e = record {
  most = few_places races 32 (λ k d within. ltb-true (length (take k races)) 32 (parts k d within).0);
  each = λ k d within. keeps_race (take k races) (get_or races k d) (tests k d within);
  names = λ i j d before within. names_differ (λ race. race.name) races i j d before within (tests j d within).fresh;
}
  where
    parts : (k : ℕ) (d : Race) → k < length races → (nat_lt (length (take k races)) 32 ≡ true) × (race_keeps (take k races) (get_or races k d) ≡ true)
    parts k d within = and_parts (nat_lt (length (take k races)) 32) (race_keeps (take k races) (get_or races k d)) (each_keeps-at race_fits [] races e k d within)

    tests : (k : ℕ) (d : Race) → k < length races → RaceTests (take k races) (get_or races k d)
    tests k d within = race_keeps-true (take k races) (get_or races k d) (parts k d within).1

pub true-races : (races : List Race) → KeepsRaces races → each_keeps race_fits [] races ≡ true
true-races races kept = each_keeps-from race_fits [] races (λ k d within.
    let long = length-take-le k races (omega arith) in
    let fresh = names_new (λ race. race.name) races k d within (λ i before. kept.names i k d before within) in
    and_from (nat_lt (length (take k races)) 32) (race_keeps (take k races) (get_or races k d))
    (lt-ltb (length (take k races)) 32 (omega (arith, kept.most)))
    (true-race_keeps (take k races) (get_or races k d) (race_tests (take k races) (get_or races k d) (kept.each k d within) fresh)))

-- STYLES

AllPairs-cons : (x : ℕ) (xs : List ℕ) → All (λ y. x < y) xs → AllPairs (λ a b. a < b) xs
    → (i j : ℕ) (d : ℕ) → i < j → j < length (x ∷ xs) → get_or (x ∷ xs) i d < get_or (x ∷ xs) j d
AllPairs-cons x xs later pairs i zero d before within = absurd (omega arith)
AllPairs-cons x xs later pairs zero (suc j) d before within = later j d (omega arith)
AllPairs-cons x xs later pairs (suc i) (suc j) d before within = pairs i j d (omega arith) (omega arith)

-- numbers that rise from the least on, below the end
pub record Rise (least end : ℕ) (numbers : List ℕ) : Type 0 where
  pub low : All (λ n. least ≤ n) numbers
  pub high : All (λ n. n < end) numbers
  pub rising : AllPairs (λ a b. a < b) numbers

pub rises-true : (least end : ℕ) (numbers : List ℕ) → rises least end numbers ≡ true → Rise least end numbers
rises-true least end [] e = record { low = λ k d within. absurd (omega arith); high = λ k d within. absurd (omega arith); rising = λ i j d before within. absurd (omega arith) }
rises-true least end (n ∷ ns) e =
    let parts = and_parts (nat_le least n && nat_lt n end) (rises (n + 1) end ns) e in
    let here = and_parts (nat_le least n) (nat_lt n end) parts.0 in
    let low = leb-true least n here.0 in
    let rest = rises-true (n + 1) end ns parts.1 in
    record {
      low = All-cons (λ m. least ≤ m) n ns low (λ k d within. let above = rest.low k d within in omega arith);
      high = All-cons (λ m. m < end) n ns (ltb-true n end here.1) rest.high;
      rising = AllPairs-cons n ns (λ k d within. let above = rest.low k d within in omega arith) rest.rising;
    }

pub true-rises : (least end : ℕ) (numbers : List ℕ) → Rise least end numbers → rises least end numbers ≡ true
true-rises least end [] rise = refl
true-rises least end (n ∷ ns) rise =
    and_from (nat_le least n && nat_lt n end) (rises (n + 1) end ns)
    (and_from (nat_le least n) (nat_lt n end) (le-leb least n (All-head (λ m. least ≤ m) n ns rise.low)) (lt-ltb n end (All-head (λ m. m < end) n ns rise.high)))
    (true-rises (n + 1) end ns (record {
      low = λ k d within. let above = rise.rising 0 (suc k) d (omega arith) (omega arith) in omega arith;
      high = All-tail (λ m. m < end) n ns rise.high;
      rising = λ i j d before within. rise.rising (suc i) (suc j) d (omega arith) (omega arith);
    }))

-- the parts of a style's test
pub record StyleTests (count : ℕ) (earlier : List Style) (style : Style) : Type 0 where
  pub name : is_name_word style.name ≡ true
  pub fresh : styles_have earlier style.name ≡ false
  pub some : nat_le 1 (length style.races) ≡ true
  pub races : rises 0 count style.races ≡ true

pub style_keeps-true : (count : ℕ) (earlier : List Style) (style : Style) → style_keeps count earlier style ≡ true → StyleTests count earlier style
style_keeps-true count earlier style e =
    let whole = and_parts (is_name_word style.name && not (styles_have earlier style.name)) (nat_le 1 (length style.races) && rises 0 count style.races) e in
    let named = and_parts (is_name_word style.name) (not (styles_have earlier style.name)) whole.0 in
    let races = and_parts (nat_le 1 (length style.races)) (rises 0 count style.races) whole.1 in
    record { name = named.0; fresh = not-true (styles_have earlier style.name) named.1; some = races.0; races = races.1 }

pub true-style_keeps : (count : ℕ) (earlier : List Style) (style : Style) → StyleTests count earlier style → style_keeps count earlier style ≡ true
true-style_keeps count earlier style t =
    and_from (is_name_word style.name && not (styles_have earlier style.name)) (nat_le 1 (length style.races) && rises 0 count style.races)
    (and_from (is_name_word style.name) (not (styles_have earlier style.name)) t.name (not_from_false (styles_have earlier style.name) t.fresh))
    (and_from (nat_le 1 (length style.races)) (rises 0 count style.races) t.some t.races)

pub keeps_style : (count : ℕ) (earlier : List Style) (style : Style) → StyleTests count earlier style → KeepsStyle count style
keeps_style count earlier style t =
    let rise = rises-true 0 count style.races t.races in
    record { name = is_name_word-true style.name t.name; one_race = leb-true 1 (length style.races) t.some; rising = rise.rising; races = rise.high }

pub style_tests : (count : ℕ) (earlier : List Style) (style : Style) → KeepsStyle count style → styles_have earlier style.name ≡ false → StyleTests count earlier style
style_tests count earlier style kept fresh = record {
  name = true-is_name_word style.name kept.name;
  fresh = fresh;
  some = le-leb 1 (length style.races) kept.one_race;
  races = true-rises 0 count style.races (record { low = λ k d within. omega arith; high = kept.races; rising = kept.rising });
}

-- what the tests say of all styles
pub record KeepsStyles (count : ℕ) (styles : List Style) : Type 0 where
  pub most : length styles ≤ 32
  pub each : All (KeepsStyle count) styles
  pub names : AllPairs (λ a b. a.name ≢ b.name) styles

pub styles-true : (count : ℕ) (styles : List Style) → each_keeps (style_fits count) [] styles ≡ true → KeepsStyles count styles
styles-true count styles e = record {
  most = few_places styles 32 (λ k d within. ltb-true (length (take k styles)) 32 (parts k d within).0);
  each = λ k d within. keeps_style count (take k styles) (get_or styles k d) (tests k d within);
  names = λ i j d before within. names_differ (λ style. style.name) styles i j d before within (tests j d within).fresh;
}
  where
    parts : (k : ℕ) (d : Style) → k < length styles → (nat_lt (length (take k styles)) 32 ≡ true) × (style_keeps count (take k styles) (get_or styles k d) ≡ true)
    parts k d within = and_parts (nat_lt (length (take k styles)) 32) (style_keeps count (take k styles) (get_or styles k d)) (each_keeps-at (style_fits count) [] styles e k d within)

    tests : (k : ℕ) (d : Style) → k < length styles → StyleTests count (take k styles) (get_or styles k d)
    tests k d within = style_keeps-true count (take k styles) (get_or styles k d) (parts k d within).1

pub true-styles : (count : ℕ) (styles : List Style) → KeepsStyles count styles → each_keeps (style_fits count) [] styles ≡ true
true-styles count styles kept = each_keeps-from (style_fits count) [] styles (λ k d within.
    let long = length-take-le k styles (omega arith) in
    let fresh = names_new (λ style. style.name) styles k d within (λ i before. kept.names i k d before within) in
    and_from (nat_lt (length (take k styles)) 32) (style_keeps count (take k styles) (get_or styles k d))
    (lt-ltb (length (take k styles)) 32 (omega (arith, kept.most)))
    (true-style_keeps count (take k styles) (get_or styles k d) (style_tests count (take k styles) (get_or styles k d) (kept.each k d within) fresh)))

-- RUNS

-- what the tests say of all runs
pub record KeepsRuns (count : ℕ) (runs : List Run) : Type 0 where
  pub each : All (KeepsRun count) runs
  pub most : length (ballot_styles runs) ≤ 20000

-- the parts of a run's test
pub record RunTests (count : ℕ) (earlier : List Run) (run : Run) : Type 0 where
  pub style : run.style < count
  pub some : 1 ≤ run.count
  pub most : length (ballot_styles earlier) + run.count ≤ 20000

pub run_keeps-true : (count : ℕ) (earlier : List Run) (run : Run) → run_keeps count earlier run ≡ true → RunTests count earlier run
run_keeps-true count earlier run e =
    let whole = and_parts (nat_lt run.style count) (nat_le 1 run.count && nat_le (length (ballot_styles earlier) + run.count) 20000) e in
    let sizes = and_parts (nat_le 1 run.count) (nat_le (length (ballot_styles earlier) + run.count) 20000) whole.1 in
    record { style = ltb-true run.style count whole.0; some = leb-true 1 run.count sizes.0; most = leb-true (length (ballot_styles earlier) + run.count) 20000 sizes.1 }

pub true-run_keeps : (count : ℕ) (earlier : List Run) (run : Run) → RunTests count earlier run → run_keeps count earlier run ≡ true
true-run_keeps count earlier run t =
    and_from (nat_lt run.style count) (nat_le 1 run.count && nat_le (length (ballot_styles earlier) + run.count) 20000)
    (lt-ltb run.style count t.style)
    (and_from (nat_le 1 run.count) (nat_le (length (ballot_styles earlier) + run.count) 20000) (le-leb 1 run.count t.some) (le-leb (length (ballot_styles earlier) + run.count) 20000 t.most))

-- runs that pass bring few ballots
few_ballots : (count : ℕ) (earlier runs : List Run) → length (ballot_styles earlier) ≤ 20000 → each_keeps (run_keeps count) earlier runs ≡ true → length (ballot_styles (earlier ++ runs)) ≤ 20000
few_ballots count earlier [] few e = rw (append-nil earlier) few
few_ballots count earlier (run ∷ runs) few e =
    let parts = and_parts (run_keeps count earlier run) (each_keeps (run_keeps count) (earlier ++ run ∷ []) runs) e in
    let more = run_keeps-true count earlier run parts.0 in
    let joined : (earlier ++ run ∷ []) ++ runs ≡ earlier ++ (run ∷ runs) = append_assoc earlier (run ∷ []) runs in
    rw (← joined) (few_ballots count (earlier ++ run ∷ []) runs (omega (arith, count-push earlier run, more.most)) parts.1)

pub runs-true : (count : ℕ) (runs : List Run) → each_keeps (run_keeps count) [] runs ≡ true → KeepsRuns count runs
runs-true count runs e = record {
  each = λ k d within. let t = run_keeps-true count (take k runs) (get_or runs k d) (each_keeps-at (run_keeps count) [] runs e k d within) in record { style = t.style; one_ballot = t.some };
  most = few_ballots count [] runs (omega arith) e;
}

pub true-runs : (count : ℕ) (runs : List Run) → KeepsRuns count runs → each_keeps (run_keeps count) [] runs ≡ true
true-runs count runs kept = each_keeps-from (run_keeps count) [] runs (λ k d within.
    let run = kept.each k d within in
    let few = counts_within runs k (get_or runs k d) (drop_more runs k d within) in
    true-run_keeps count (take k runs) (get_or runs k d) (record { style = run.style; some = run.one_ballot; most = omega (arith, few, kept.most) }))
