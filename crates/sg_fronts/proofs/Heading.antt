-- From each stage of the plan its other lines go on: a race of two candidates, a style, and a run of one ballot.
use Rattle.std.proofs.Common.{◌≡◌, ℕ, zero, suc, ◌+◌, ◌-◌, ◌*◌, ◌≤◌, nat_le, nat_lt, Bool, true, false, ◌&&◌, not, cond, inl, List, [], ◌∷◌, ◌++◌, length, Some, None, refl, ap, ◌∙◌, arith}
use Rattle.std.proofs.lemmas.Bool.{and_from, and_parts, eq-eqb, le-leb, lt-ltb, ne_eqb}
use Rattle.std.proofs.lemmas.List.Elements.{All-cons, All-nil}
use Rattle.std.proofs.lemmas.Nat.{mul-le}
use Rattle.sg_plan.proofs.NameTests.{is_name_word-true, is_within-true}
use Rattle.sg_plan.specs.Ballots.{all_entries, ballot_styles, candidates_of, entries_before, entries_of, r_rows, style_has}
use Rattle.sg_plan.specs.Limits.{each_keeps, race_head_keeps, race_keeps, races_have, run_keeps, style_keeps}
use Rattle.sg_plan.specs.Names.{is_name_word, is_within, name_keeps}
use Rattle.sg_plan.specs.declared.plan.Plan.{Plan}
use Rattle.sg_plan.specs.declared.plan.Race.{Race as PlanRace}
use Rattle.sg_plan.specs.declared.plan.Run.{Run}
use Rattle.sg_plan.specs.declared.plan.Style.{Style as PlanStyle}
use Rattle.sg_forms.specs.Said.{Said}
use Rattle.sg_forms.specs.Said.Said.{Ballots, Cand, Election, Instances, Race, Style, Version}
use Rattle.sg_forms.specs.Spelling.{IsInRange, IsNumber}
use Rattle.sg_grammar.proofs.Making.{candidates-race, entries_of-run, length-with_candidate, made-line, no_runs-entries, styles-small}
use Rattle.sg_grammar.proofs.Walking.{take_line-head}
use Rattle.sg_grammar.specs.Head.{Making, behind_candidate, head_line, if_then, last_candidates, made, take_style, with_cand, with_instances, with_name, with_race, with_run, with_style, with_version}
use Rattle.sg_grammar.specs.Made.{IsMade, races_keep_but}
use Rattle.sg_grammar.specs.Walk.{headed}
use Rattle.sg_grammar.specs.declared.state.Head.{Head}
use Rattle.sg_grammar.specs.declared.state.Head.TheVariants as head
use Rattle.sg_grammar.specs.declared.state.Part.{Part}
use Rattle.sg_grammar.specs.declared.state.Part.TheVariants as part
use Rattle.sg_grammar.specs.declared.state.Slot.{Slot}
use Rattle.sg_fronts.proofs.Behind.{CanEnd, line-ends, runs-ends, state, whole-ends}
use Rattle.sg_fronts.proofs.Filled.{CanFillAll}
use Rattle.sg_fronts.proofs.Names.{new_name, new_name-keeps, new_name-word}

-- each state of a plan at this stage leads to a whole record
abbrev Ends : Plan → Head → Type 0
Ends plan stage = (due : List Slot) (may_begin : Part) → CanEnd (state plan stage due may_begin)

-- a line of the plan is taken, behind which each state does
head-ends : (plan : Plan) (stage : Head) (said : Said) (next : Plan) (on : Head) → IsInRange plan.version said → head_line plan stage said ≡ Some (made next on) → Ends next on → Ends plan stage
head-ends plan stage said next on range e ends due may_begin =
    line-ends (state plan stage due may_begin) said (headed said (made next on)) range (take_line-head (state plan stage due may_begin) said (made next on) e) (ends [] (part.Ballots 0))

-- a test that is passed
passes : {A : Type 0} (b : Bool) (x : A) → b ≡ true → if_then b x ≡ Some x
passes b x e = ap (λ t. if_then t x) e

-- the name `a`
abbrev name_a : List ℕ
name_a = 97 ∷ []

-- RUNS

-- with one ballot a race has at most 16 entries
one_run-entries : (plan : Plan) (race : ℕ) → plan.runs ≡ [] → candidates_of plan race ≤ 16 → entries_of (with_run plan 0 1) race ≤ 16
one_run-entries plan race none few =
    omega (arith, entries_of-run plan 0 1 race, no_runs-entries plan race none, once (style_has plan race 0) (candidates_of plan race), few)
  where
    once : (b : Bool) (n : ℕ) → cond b (1 * n) 0 ≤ n
    once true n = omega arith
    once false n = omega arith

-- and so many races at most so many times 16
one_run-before : (plan : Plan) (race : ℕ) → plan.runs ≡ [] → ((r : ℕ) → candidates_of plan r ≤ 16) → entries_before (with_run plan 0 1) race ≤ race * 16
one_run-before plan zero none few = omega arith
one_run-before plan (suc race) none few = omega (arith, one_run-before plan race none few, one_run-entries plan race none (few race))

-- with one ballot there are few rows
one_run-rows : (plan : Plan) → IsMade plan head.Styles → r_rows (with_run plan 0 1) ≤ 200000
one_run-rows plan kept =
    let small = styles-small plan kept in
    let entries : all_entries (with_run plan 0 1) ≤ 512 = omega (arith, one_run-before plan (length plan.races) kept.stands.3 small.most_candidates, small.most_races) in
    omega (arith, mul-le plan.instances (all_entries (with_run plan 0 1)) 16 512 small.most_instances entries)

-- behind a style a run of one ballot comes
styles-ends : (plan : Plan) → IsMade plan head.Styles → Ends plan head.Styles
styles-ends plan kept =
    let run : Run = record { style = 0; count = 1 } in
    let ballots : length (ballot_styles plan.runs) ≡ 0 = ap (λ l. length (ballot_styles l)) kept.stands.3 in
    let keeps : run_keeps (length plan.styles) plan.runs run ≡ true
    = and_from (nat_lt 0 (length plan.styles)) (nat_le (length (ballot_styles plan.runs) + 1) 20000)
    (lt-ltb 0 (length plan.styles) (omega (arith, kept.stands.2.one))) (le-leb (length (ballot_styles plan.runs) + 1) 20000 (omega (arith, ballots))) in
    let rows : nat_le (r_rows (with_run plan 0 1)) 200000 ≡ true = le-leb (r_rows (with_run plan 0 1)) 200000 (one_run-rows plan kept) in
    let taken : head_line plan head.Styles (Ballots 0 1) ≡ Some (made (with_run plan 0 1) head.Runs)
    = passes (run_keeps (length plan.styles) plan.runs run && nat_le (r_rows (with_run plan 0 1)) 200000) (made (with_run plan 0 1) head.Runs)
    (and_from (run_keeps (length plan.styles) plan.runs run) (nat_le (r_rows (with_run plan 0 1)) 200000) keeps rows) in
    head-ends plan head.Styles (Ballots 0 1) (with_run plan 0 1) head.Runs (omega arith, omega arith) taken
    (λ due may_begin. runs-ends (with_run plan 0 1) due may_begin (made-line plan head.Styles (Ballots 0 1) (made (with_run plan 0 1) head.Runs) kept taken))

-- STYLES

-- behind a race
later_races-ends : (plan : Plan) → 1 ≤ length plan.races → IsMade plan head.Races → Ends plan head.Races
later_races-ends plan one kept =
    let style : PlanStyle = record { name = name_a; races = 0 ∷ [] } in
    let next : Making = made (with_style plan name_a (0 ∷ [])) head.Styles in
    let some : nat_lt 0 (length plan.races) ≡ true = lt-ltb 0 (length plan.races) (omega (arith, one)) in
    let keeps : style_keeps (length plan.races) [] style ≡ true = rw some refl in
    let few : nat_lt (length plan.styles) 32 ≡ true = ap (λ (l : List PlanStyle). nat_lt (length l) 32) kept.stands.2.styles in
    let all : style_keeps (length plan.races) plan.styles style ≡ true = ap (λ (l : List PlanStyle). style_keeps (length plan.races) l style) kept.stands.2.styles ∙ keeps in
    let taken : head_line plan head.Races (Style name_a (0 ∷ [])) ≡ Some next
    = ap (λ b. cond b (take_style plan (Style name_a (0 ∷ []))) None) some
    ∙ passes (nat_lt (length plan.styles) 32 && style_keeps (length plan.races) plan.styles style) next
    (and_from (nat_lt (length plan.styles) 32) (style_keeps (length plan.races) plan.styles style) few all) in
    head-ends plan head.Races (Style name_a (0 ∷ [])) (with_style plan name_a (0 ∷ [])) head.Styles
    (is_name_word-true name_a refl, All-cons IsNumber 0 [] (omega arith) (All-nil IsNumber), omega arith, omega arith) taken
    (styles-ends (with_style plan name_a (0 ∷ [])) (made-line plan head.Races (Style name_a (0 ∷ [])) next kept taken))

-- CANDIDATES

-- a race with candidates that are due has not all of its 16
few_candidates : (left : ℕ) (earlier races : List PlanRace) → races_keep_but left earlier races ≡ true → length (last_candidates races) ≤ 16
few_candidates left earlier [] keep = cc
few_candidates left earlier (race ∷ []) keep =
    let parts = and_parts (race_head_keeps earlier race.name (length race.candidates + left) race.votes) (each_keeps name_keeps [] race.candidates) keep in
    let sizes = and_parts (is_name_word race.name && not (races_have earlier race.name))
    (is_within 2 16 (length race.candidates + left) && is_within 1 (length race.candidates + left) race.votes) parts.0 in
    let two = is_within-true 2 16 (length race.candidates + left)
    (and_parts (is_within 2 16 (length race.candidates + left)) (is_within 1 (length race.candidates + left) race.votes) sizes.1).0 in
    omega (arith, two.1)
few_candidates left earlier (race ∷ next ∷ races) keep =
    few_candidates left (earlier ++ race ∷ []) (next ∷ races) (and_parts (race_keeps earlier race) (races_keep_but left (earlier ++ race ∷ []) (next ∷ races)) keep).1

-- the next candidate, behind which it goes on
candidate-ends : (left : ℕ) (plan : Plan) (on : Head) → behind_candidate left ≡ on → IsMade plan (head.Candidates left)
    → ((next : Plan) → 1 ≤ length next.races → IsMade next on → Ends next on) → Ends plan (head.Candidates left)
candidate-ends left plan on is kept ends =
    let few = few_candidates left [] plan.races kept.stands.1.keep in
    let name : List ℕ = new_name (last_candidates plan.races) in
    let taken : head_line plan (head.Candidates left) (Cand name) ≡ Some (made (with_cand plan name) on)
    = passes (name_keeps (last_candidates plan.races) name) (made (with_cand plan name) (behind_candidate left)) (new_name-keeps (last_candidates plan.races) few)
    ∙ ap (λ (stage : Head). Some (made (with_cand plan name) stage)) is in
    head-ends plan (head.Candidates left) (Cand name) (with_cand plan name) on (is_name_word-true name (new_name-word (last_candidates plan.races) few)) taken
    (ends (with_cand plan name) (omega (arith, candidates-race plan left kept, length-with_candidate plan.races name))
    (made-line plan (head.Candidates left) (Cand name) (made (with_cand plan name) on) kept taken))

-- so many candidates, one after another
candidates-ends : (count left : ℕ) (plan : Plan) → left ≡ count + 1 → IsMade plan (head.Candidates left) → Ends plan (head.Candidates left)
candidates-ends zero left plan is kept =
    let last : behind_candidate left ≡ head.Races = ap (λ b. cond b head.Races (head.Candidates (left - 1))) (eq-eqb left 1 is) in
    candidate-ends left plan head.Races last kept later_races-ends
candidates-ends (suc count) left plan is kept =
    let more : behind_candidate left ≡ head.Candidates (left - 1) = ap (λ b. cond b head.Races (head.Candidates (left - 1))) (ne_eqb left 1 (λ e. omega (arith, e, is))) in
    let fewer : left - 1 ≡ count + 1 = omega (arith, is) in
    candidate-ends left plan (head.Candidates (left - 1)) more kept (λ next one made_next. candidates-ends count (left - 1) next fewer made_next)

-- RACES

-- the first race
first_race-ends : (plan : Plan) → plan.races ≡ [] → IsMade plan head.Races → Ends plan head.Races
first_race-ends plan none kept =
    let next : Making = made (with_race plan name_a 1) (head.Candidates 2) in
    let fits : nat_lt (length plan.races) 32 && race_head_keeps plan.races name_a 2 1 ≡ true = ap (λ (l : List PlanRace). nat_lt (length l) 32 && race_head_keeps l name_a 2 1) none in
    let taken : head_line plan head.Races (Race name_a 2 1) ≡ Some next = passes (nat_lt (length plan.races) 32 && race_head_keeps plan.races name_a 2 1) next fits in
    head-ends plan head.Races (Race name_a 2 1) (with_race plan name_a 1) (head.Candidates 2) (is_name_word-true name_a refl, omega arith, omega arith) taken
    (candidates-ends 1 2 (with_race plan name_a 1) (omega arith) (made-line plan head.Races (Race name_a 2 1) next kept taken))

-- a further race, or the first style
races-ends : (plan : Plan) → IsMade plan head.Races → Ends plan head.Races
races-ends plan kept = by_races plan.races refl
  where
    by_races : (races : List PlanRace) → plan.races ≡ races → Ends plan head.Races
    by_races [] is = first_race-ends plan is kept
    by_races (race ∷ races) is = later_races-ends plan (omega (arith, ap length is)) kept

-- THE FIRST LINES

-- one instance
instances-ends : (plan : Plan) → IsMade plan head.Instances → Ends plan head.Instances
instances-ends plan kept =
    head-ends plan head.Instances (Instances 1) (with_instances plan 1) head.Races (omega arith) refl
    (races-ends (with_instances plan 1) (made-line plan head.Instances (Instances 1) (made (with_instances plan 1) head.Races) kept refl))

-- the name of the election
election-ends : (plan : Plan) → IsMade plan head.Election → Ends plan head.Election
election-ends plan kept =
    head-ends plan head.Election (Election name_a) (with_name plan name_a) head.Instances (is_name_word-true name_a refl) refl
    (instances-ends (with_name plan name_a) (made-line plan head.Election (Election name_a) (made (with_name plan name_a) head.Instances) kept refl))

-- the first version
version-ends : (plan : Plan) → IsMade plan head.Version → Ends plan head.Version
version-ends plan kept =
    head-ends plan head.Version (Version 1) (with_version plan 1) head.Election (inl refl) refl
    (election-ends (with_version plan 1) (made-line plan head.Version (Version 1) (made (with_version plan 1) head.Election) kept refl))

-- EACH STATE

-- from any stage of the plan on
pub stage-ends : (plan : Plan) (stage : Head) (due : List Slot) (may_begin : Part) → IsMade plan stage → CanFillAll due → CanEnd (state plan stage due may_begin)
stage-ends plan head.Version due may_begin kept fill = version-ends plan kept due may_begin
stage-ends plan head.Election due may_begin kept fill = election-ends plan kept due may_begin
stage-ends plan head.Instances due may_begin kept fill = instances-ends plan kept due may_begin
stage-ends plan head.Races due may_begin kept fill = races-ends plan kept due may_begin
stage-ends plan (head.Candidates left) due may_begin kept fill = candidates-ends (left - 1) left plan (omega (arith, kept.stands.1.some)) kept due may_begin
stage-ends plan head.Styles due may_begin kept fill = styles-ends plan kept due may_begin
stage-ends plan head.Runs due may_begin kept fill = runs-ends plan due may_begin kept
stage-ends plan head.Whole due may_begin kept fill = whole-ends plan due may_begin kept fill
