-- The lines of a plan that keeps its limits may stand one after another.
use Rattle.std.proofs.Common.{◌≡◌, ℕ, zero, suc, ◌+◌, ◌-◌, ◌≤◌, ◌==◌, nat_lt, nat_le, true, false, ◌&&◌, not, List, [], ◌∷◌, ◌++◌, length, map, count_by, None, refl, sym, subst, ap, ◌∙◌, arith}
use Rattle.std.proofs.lemmas.Bool.{and_parts, le-leb, leb-true, lt-ltb, ne_eqb}
use Rattle.std.proofs.lemmas.List.{append-nil, append_assoc}
use Rattle.std.proofs.lemmas.Nat.{mul-le}
use Rattle.std.specs.List.{flat_map}
use Rattle.sg_lists.proofs.Counting.{count_by-append}
use Rattle.sg_plan.proofs.BallotLists.{ballot_styles-append}
use Rattle.sg_plan.proofs.LimitLaws.{passes_tests}
use Rattle.sg_plan.proofs.Lists.{first_fault-None}
use Rattle.sg_plan.proofs.NameTests.{is_within-true}
use Rattle.sg_plan.specs.Ballots.{ballot_styles, candidates_of, entries_before, entries_of, r_rows, rows_of, style_has}
use Rattle.sg_plan.specs.Limits.{each_keeps, fault_of, race_fits, race_head_keeps, race_keeps, races_have, run_keeps, style_fits}
use Rattle.sg_plan.specs.Names.{is_name_word, is_within, name_keeps}
use Rattle.sg_plan.specs.declared.plan.Plan.{Plan}
use Rattle.sg_plan.specs.declared.plan.Race.{Race as PlanRace}
use Rattle.sg_plan.specs.declared.plan.Run.{Run}
use Rattle.sg_plan.specs.declared.plan.Style.{Style as PlanStyle}
use Rattle.sg_forms.specs.Said.{Said}
use Rattle.sg_forms.specs.Said.Said.{Cand, Election, Instances, Race, Version}
use Rattle.sg_grammar.specs.Head.{Making, last_candidates, made, with_candidate, with_instances, with_name, with_version, no_plan}
use Rattle.sg_grammar.specs.Walk.{Next, headed, start, take_line}
use Rattle.sg_grammar.specs.declared.state.Head.{Head}
use Rattle.sg_grammar.specs.declared.state.Head.TheVariants as head
use Rattle.sg_grammar.specs.declared.state.Part.TheVariants as part
use Rattle.sg_record.proofs.SaidWalk.{Goes, run_state}
use Rattle.sg_record.specs.Lines.{plan_lines, race_lines, run_line, style_line}

-- the plan so far, and which of its lines stand
abbrev pub head_state : Plan → Head → Next
head_state plan stage = record { plan = plan; head = stage; due = []; part = part.Ballots 0 }

-- the plan with these of its lists
abbrev so_far : Plan → List PlanRace → List PlanStyle → List Run → Plan
so_far plan races styles runs = record plan { races = races; styles = styles; runs = runs }

-- RACES

-- a race with these candidates
abbrev race_so_far : PlanRace → List (List ℕ) → PlanRace
race_so_far race names = record race { candidates = names }

last-candidates : (earlier : List PlanRace) (race : PlanRace) → last_candidates (earlier ++ race ∷ []) ≡ race.candidates
last-candidates [] race = refl
last-candidates (first ∷ []) race = refl
last-candidates (first ∷ second ∷ earlier) race = last-candidates (second ∷ earlier) race

last-with : (earlier : List PlanRace) (race : PlanRace) (name : List ℕ) → with_candidate (earlier ++ race ∷ []) name ≡ earlier ++ race_so_far race (race.candidates ++ name ∷ []) ∷ []
last-with [] race name = refl
last-with (first ∷ []) race name = refl
last-with (first ∷ second ∷ earlier) race name = ap (λ l. first ∷ l) (last-with (second ∷ earlier) race name)

-- the candidates of the last race
candidates-out : (plan : Plan) (earlier : List PlanRace) (race : PlanRace) (before : List (List ℕ)) (name : List ℕ) (names : List (List ℕ)) (rest : List Said) (end : Next)
    → each_keeps name_keeps before (name ∷ names) ≡ true
    → Goes (head_state (so_far plan (earlier ++ race_so_far race (before ++ (name ∷ names)) ∷ []) [] []) head.Races) rest end
    → Goes (head_state (so_far plan (earlier ++ race_so_far race before ∷ []) [] []) (head.Candidates (length (name ∷ names)))) (map Cand (name ∷ names) ++ rest) end
unfolding take_line
candidates-out plan earlier race before name [] rest end keeps goes =
    let parts = and_parts (name_keeps before name) true keeps in
    let now : Plan = so_far plan (earlier ++ race_so_far race before ∷ []) [] [] in
    let with : with_candidate (earlier ++ race_so_far race before ∷ []) name ≡ earlier ++ race_so_far race (before ++ name ∷ []) ∷ [] = last-with earlier (race_so_far race before) name in
    let next : Making = made (so_far plan (earlier ++ race_so_far race (before ++ name ∷ []) ∷ []) [] []) head.Races in
    (headed (Cand name) next, rw (last-candidates earlier (race_so_far race before), parts.0, with) refl, goes)
candidates-out plan earlier race before name (second ∷ names) rest end keeps goes =
    let parts = and_parts (name_keeps before name) (each_keeps name_keeps (before ++ name ∷ []) (second ∷ names)) keeps in
    let now : Plan = so_far plan (earlier ++ race_so_far race before ∷ []) [] [] in
    let with : with_candidate (earlier ++ race_so_far race before ∷ []) name ≡ earlier ++ race_so_far race (before ++ name ∷ []) ∷ [] = last-with earlier (race_so_far race before) name in
    let more : (length (name ∷ second ∷ names) == 1) ≡ false = ne_eqb (length (name ∷ second ∷ names)) 1 (λ e. omega (arith, e)) in
    let fewer : length (name ∷ second ∷ names) - 1 ≡ length (second ∷ names) = omega arith in
    let next : Making = made (so_far plan (earlier ++ race_so_far race (before ++ name ∷ []) ∷ []) [] []) (head.Candidates (length (second ∷ names))) in
    let joined : before ++ (name ∷ second ∷ names) ≡ (before ++ name ∷ []) ++ (second ∷ names) = sym (append_assoc before (name ∷ []) (second ∷ names)) in (
      headed (Cand name) next,
      rw (last-candidates earlier (race_so_far race before), parts.0, with, more, fewer) refl,
      candidates-out plan earlier race (before ++ name ∷ []) second names rest end parts.1
          (subst (λ (l : List (List ℕ)). Goes (head_state (so_far plan (earlier ++ race_so_far race l ∷ []) [] []) head.Races) rest end) joined goes),
    )

-- a race with its candidates, of which there are some
race-out : (plan : Plan) (earlier : List PlanRace) (race : PlanRace) (rest : List Said) (end : Next) → race_fits earlier race ≡ true
    → Goes (head_state (so_far plan (earlier ++ race ∷ []) [] []) head.Races) rest end → Goes (head_state (so_far plan earlier [] []) head.Races) (race_lines race ++ rest) end
unfolding take_line
race-out plan earlier race rest end fits goes =
    let parts = and_parts (nat_lt (length earlier) 32) (race_keeps earlier race) fits in
    let keeps = and_parts (race_head_keeps earlier race.name (length race.candidates) race.votes) (each_keeps name_keeps [] race.candidates) parts.1 in
    let sizes = and_parts (is_name_word race.name && not (races_have earlier race.name)) (is_within 2 16 (length race.candidates) && is_within 1 (length race.candidates) race.votes) keeps.0 in
    let two = is_within-true 2 16 (length race.candidates) (and_parts (is_within 2 16 (length race.candidates)) (is_within 1 (length race.candidates) race.votes) sizes.1).0 in
    let next : Making = made (so_far plan (earlier ++ race_so_far race [] ∷ []) [] []) (head.Candidates (length race.candidates)) in
    (headed (Race race.name (length race.candidates) race.votes) next, rw (parts.0, keeps.0) refl, names race.candidates two.0 keeps.1 goes)
  where
    names : (list : List (List ℕ)) → 2 ≤ length list → each_keeps name_keeps [] list ≡ true
        → Goes (head_state (so_far plan (earlier ++ race_so_far race list ∷ []) [] []) head.Races) rest end
        → Goes (head_state (so_far plan (earlier ++ race_so_far race [] ∷ []) [] []) (head.Candidates (length list))) (map Cand list ++ rest) end
    names [] two keep on = absurd (omega (arith, two))
    names (name ∷ list) two keep on = candidates-out plan earlier race [] name list rest end keep on

races-out : (plan : Plan) (earlier races : List PlanRace) (rest : List Said) (end : Next) → each_keeps race_fits earlier races ≡ true
    → Goes (head_state (so_far plan (earlier ++ races) [] []) head.Races) rest end → Goes (head_state (so_far plan earlier [] []) head.Races) (flat_map race_lines races ++ rest) end
races-out plan earlier [] rest end fit goes = subst (λ (l : List PlanRace). Goes (head_state (so_far plan l [] []) head.Races) rest end) (append-nil earlier) goes
races-out plan earlier (race ∷ races) rest end fit goes =
    let parts = and_parts (race_fits earlier race) (each_keeps race_fits (earlier ++ race ∷ []) races) fit in
    let joined : earlier ++ (race ∷ races) ≡ (earlier ++ race ∷ []) ++ races = sym (append_assoc earlier (race ∷ []) races) in
    subst (λ (l : List Said). Goes (head_state (so_far plan earlier [] []) head.Races) l end) (sym (append_assoc (race_lines race) (flat_map race_lines races) rest))
    (race-out plan earlier race (flat_map race_lines races ++ rest) end parts.0
    (races-out plan (earlier ++ race ∷ []) races rest end parts.1 (subst (λ (l : List PlanRace). Goes (head_state (so_far plan l [] []) head.Races) rest end) joined goes)))

-- STYLES

later_styles-out : (plan : Plan) (races : List PlanRace) (earlier styles : List PlanStyle) (rest : List Said) (end : Next) → each_keeps (style_fits (length races)) earlier styles ≡ true
    → Goes (head_state (so_far plan races (earlier ++ styles) []) head.Styles) rest end → Goes (head_state (so_far plan races earlier []) head.Styles) (map style_line styles ++ rest) end
unfolding take_line
later_styles-out plan races earlier [] rest end fit goes = subst (λ (l : List PlanStyle). Goes (head_state (so_far plan races l []) head.Styles) rest end) (append-nil earlier) goes
later_styles-out plan races earlier (style ∷ styles) rest end fit goes =
    let parts = and_parts (style_fits (length races) earlier style) (each_keeps (style_fits (length races)) (earlier ++ style ∷ []) styles) fit in
    let joined : earlier ++ (style ∷ styles) ≡ (earlier ++ style ∷ []) ++ styles = sym (append_assoc earlier (style ∷ []) styles) in
    let next : Making = made (so_far plan races (earlier ++ style ∷ []) []) head.Styles in (
      headed (style_line style) next,
      rw parts.0 refl,
      later_styles-out plan races (earlier ++ style ∷ []) styles rest end parts.1
          (subst (λ (l : List PlanStyle). Goes (head_state (so_far plan races l []) head.Styles) rest end) joined goes),
    )

styles-out : (plan : Plan) (races : List PlanRace) (styles : List PlanStyle) (rest : List Said) (end : Next) → 1 ≤ length races → 1 ≤ length styles
    → each_keeps (style_fits (length races)) [] styles ≡ true
    → Goes (head_state (so_far plan races styles []) head.Styles) rest end → Goes (head_state (so_far plan races [] []) head.Races) (map style_line styles ++ rest) end
unfolding take_line
styles-out plan races [] rest end one some fit goes = absurd (omega (arith, some))
styles-out plan races (style ∷ styles) rest end one some fit goes =
    let parts = and_parts (style_fits (length races) [] style) (each_keeps (style_fits (length races)) (style ∷ []) styles) fit in
    let next : Making = made (so_far plan races (style ∷ []) []) head.Styles in
    (headed (style_line style) next, rw (lt-ltb 0 (length races) (omega (arith, one)), parts.0) refl, later_styles-out plan races (style ∷ []) styles rest end parts.1 goes)

-- RUNS

-- more runs bring no fewer entries
entries-more : (plan : Plan) (runs more : List Run) (race : ℕ) → entries_of (record plan { runs = runs }) race ≤ entries_of (record plan { runs = runs ++ more }) race
entries-more plan runs more race =
    let styles : count_by (style_has plan race) (ballot_styles (runs ++ more)) ≡ count_by (style_has plan race) (ballot_styles runs) + count_by (style_has plan race) (ballot_styles more)
    = ap (count_by (style_has plan race)) (ballot_styles-append runs more) ∙ count_by-append (style_has plan race) (ballot_styles runs) (ballot_styles more) in
    mul-le (rows_of (record plan { runs = runs }) race) (candidates_of plan race) (rows_of (record plan { runs = runs ++ more }) race) (candidates_of plan race) (omega (arith, styles)) (omega arith)

entries_before-more : (plan : Plan) (runs more : List Run) (race : ℕ) → entries_before (record plan { runs = runs }) race ≤ entries_before (record plan { runs = runs ++ more }) race
entries_before-more plan runs more zero = omega arith
entries_before-more plan runs more (suc race) = omega (arith, entries_before-more plan runs more race, entries-more plan runs more race)

rows-more : (plan : Plan) (runs more : List Run) → r_rows (record plan { runs = runs }) ≤ r_rows (record plan { runs = runs ++ more })
rows-more plan runs more =
    mul-le plan.instances (entries_before (record plan { runs = runs }) (length plan.races)) plan.instances (entries_before (record plan { runs = runs ++ more }) (length plan.races)) (omega arith)
    (entries_before-more plan runs more (length plan.races))

-- with each run there are few rows, as there are with all of them
rows-few : (plan : Plan) (earlier : List Run) (run : Run) (runs : List Run) → r_rows (record plan { runs = earlier ++ (run ∷ runs) }) ≤ 200000
    → nat_le (r_rows (record plan { runs = earlier ++ run ∷ [] })) 200000 ≡ true
rows-few plan earlier run runs few =
    let joined : r_rows (record plan { runs = earlier ++ (run ∷ runs) }) ≡ r_rows (record plan { runs = (earlier ++ run ∷ []) ++ runs })
    = ap (λ (l : List Run). r_rows (record plan { runs = l })) (sym (append_assoc earlier (run ∷ []) runs)) in
    le-leb (r_rows (record plan { runs = earlier ++ run ∷ [] })) 200000 (omega (arith, rows-more plan (earlier ++ run ∷ []) runs, joined, few))

later_runs-out : (plan : Plan) (earlier runs : List Run) (rest : List Said) (end : Next) → each_keeps (run_keeps (length plan.styles)) earlier runs ≡ true
    → r_rows (record plan { runs = earlier ++ runs }) ≤ 200000
    → Goes (head_state (record plan { runs = earlier ++ runs }) head.Runs) rest end → Goes (head_state (record plan { runs = earlier }) head.Runs) (map run_line runs ++ rest) end
unfolding take_line
later_runs-out plan earlier [] rest end keep few goes = subst (λ (l : List Run). Goes (head_state (record plan { runs = l }) head.Runs) rest end) (append-nil earlier) goes
later_runs-out plan earlier (run ∷ runs) rest end keep few goes =
    let parts = and_parts (run_keeps (length plan.styles) earlier run) (each_keeps (run_keeps (length plan.styles)) (earlier ++ run ∷ []) runs) keep in
    let joined : earlier ++ (run ∷ runs) ≡ (earlier ++ run ∷ []) ++ runs = sym (append_assoc earlier (run ∷ []) runs) in
    let next : Making = made (record plan { runs = earlier ++ run ∷ [] }) head.Runs in (
      headed (run_line run) next,
      rw (parts.0, rows-few plan earlier run runs few) refl,
      later_runs-out plan (earlier ++ run ∷ []) runs rest end parts.1 (subst (λ (l : List Run). r_rows (record plan { runs = l }) ≤ 200000) joined few)
          (subst (λ (l : List Run). Goes (head_state (record plan { runs = l }) head.Runs) rest end) joined goes),
    )

runs-out : (plan : Plan) (runs : List Run) (rest : List Said) (end : Next) → 1 ≤ length runs → each_keeps (run_keeps (length plan.styles)) [] runs ≡ true
    → r_rows (record plan { runs = runs }) ≤ 200000
    → Goes (head_state (record plan { runs = runs }) head.Runs) rest end → Goes (head_state (record plan { runs = [] }) head.Styles) (map run_line runs ++ rest) end
unfolding take_line
runs-out plan [] rest end some keep few goes = absurd (omega (arith, some))
runs-out plan (run ∷ runs) rest end some keep few goes =
    let parts = and_parts (run_keeps (length plan.styles) [] run) (each_keeps (run_keeps (length plan.styles)) (run ∷ []) runs) keep in
    let next : Making = made (record plan { runs = run ∷ [] }) head.Runs in
    (headed (run_line run) next, rw (parts.0, rows-few plan [] run runs few) refl, later_runs-out plan (run ∷ []) runs rest end parts.1 few goes)

-- THE PLAN

pub plan-out : (plan : Plan) (rest : List Said) (end : Next) → fault_of plan ≡ None → Goes (run_state plan) rest end → Goes start (plan_lines plan ++ rest) end
unfolding take_line
plan-out plan rest end fine goes =
    let tests = passes_tests plan fine in
    let races = first_fault-None race_fits plan.races tests.races in
    let styles = first_fault-None (style_fits (length plan.races)) plan.styles tests.styles in
    let runs = first_fault-None (run_keeps (length plan.styles)) plan.runs tests.runs in
    let on = runs-out plan plan.runs rest end runs.0 runs.1 (leb-true (r_rows plan) 200000 tests.rows) goes in
    let lines = styles-out plan plan.races plan.styles (map run_line plan.runs ++ rest) end races.0 styles.0 styles.1 on in
    let all = races-out plan [] plan.races (map style_line plan.styles ++ (map run_line plan.runs ++ rest)) end races.1 lines in
    let joined : flat_map race_lines plan.races ++ (map style_line plan.styles ++ (map run_line plan.runs ++ rest))
    ≡ (flat_map race_lines plan.races ++ (map style_line plan.styles ++ map run_line plan.runs)) ++ rest
    = ap (λ l. flat_map race_lines plan.races ++ l) (sym (append_assoc (map style_line plan.styles) (map run_line plan.runs) rest))
    ∙ sym (append_assoc (flat_map race_lines plan.races) (map style_line plan.styles ++ map run_line plan.runs) rest) in
    let named : Plan = with_name (with_version no_plan plan.version) plan.name in (
      headed (Version plan.version) (made (with_version no_plan plan.version) head.Election),
      rw tests.version refl,
      (
        headed (Election plan.name) (made named head.Instances),
        rw tests.name refl,
        (
          headed (Instances plan.instances) (made (with_instances named plan.instances) head.Races),
          rw tests.instances refl,
          subst (λ (l : List Said). Goes (head_state (so_far plan [] [] []) head.Races) l end) joined all,
        ),
      ),
    )
