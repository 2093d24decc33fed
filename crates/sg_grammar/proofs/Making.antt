-- What holds of a plan in the making, and of one whose lines all stand.
use Rattle.std.proofs.Common.{◌≡◌, ℕ, zero, suc, ◌+◌, ◌-◌, ◌*◌, ◌<◌, ◌≤◌, nat_lt, nat_le, Bool, true, false, ◌&&◌, not, cond, if◌then◌else◌, inl, inr, List, [], ◌∷◌, ◌++◌, length, replicate, slice_get, count_by, Option, Some, None, refl, sym, subst, ap, ◌∙◌, arith}
use Rattle.std.specs.Option.{is_none, option_map_or}
use Rattle.std.specs.Prelude.{IsSome}
use Rattle.std.proofs.Math.Nat.{add-mul}
use Rattle.std.proofs.lemmas.Bool.{and_from, and_parts, cases_Bool, cases_eq, cases_lt, eq-eqb, le-leb, leb-true, lt-ltb, ltb-true, ne_eqb, true≢false}
use Rattle.std.proofs.lemmas.List.{append_assoc, append-nil, length-append}
use Rattle.std.proofs.lemmas.Nat.{mul-le}
use Rattle.std.proofs.lemmas.Option.{slice_get_past}
use Rattle.sg_lists.proofs.Counting.{count_by-append, count_by-replicate}
use Rattle.sg_lists.proofs.Options.{cond_some-then, is_none-true}
use Rattle.sg_plan.proofs.BallotLists.{ballot_styles-append}
use Rattle.sg_plan.proofs.LimitLaws.{no_fault, passes_tests}
use Rattle.sg_plan.proofs.LimitTests.{runs-true}
use Rattle.sg_plan.proofs.Lists.{None-first_fault, each_keeps-push, first_fault-None}
use Rattle.sg_plan.proofs.NameTests.{is_within-true, true-is_within}
use Rattle.sg_plan.specs.Ballots.{all_entries, ballot_styles, ballots_of, candidates_of, entries_before, entries_of, r_rows, rows_of, style_has}
use Rattle.sg_plan.specs.Limits.{PassesTests, each_keeps, fault_of, is_version, most_instances, most_races, most_styles, race_fits, race_head_keeps, race_keeps, races_have, run_keeps, style_fits, style_keeps}
use Rattle.sg_plan.specs.declared.limits.PlanFault.{PlanFault}
use Rattle.sg_plan.specs.Names.{is_name_word, is_within, name_keeps}
use Rattle.sg_plan.specs.declared.plan.Plan.{Plan}
use Rattle.sg_plan.specs.declared.plan.Race.{Race as PlanRace}
use Rattle.sg_plan.specs.declared.plan.Run.{Run}
use Rattle.sg_plan.specs.declared.plan.Style.{Style as PlanStyle}
use Rattle.sg_forms.specs.Said.{Said}
use Rattle.sg_forms.specs.Said.Said.{Ballots, Cand, Election, Instances, Race, Style, Version}
use Rattle.sg_grammar.proofs.Claims.{if_then-claim}
use Rattle.sg_grammar.specs.Head.{Making, behind_candidate, has_runs, head_line, last_candidates, made, no_plan, take_run, take_style, with_cand, with_candidate, with_instances, with_name, with_race, with_run, with_style, with_version}
use Rattle.sg_grammar.specs.Made.{HasFront, HasNoRaces, HasNoStyles, HasRaces, HasRacesBut, HasSizes, HasStyles, IsComplete, IsMade, IsSmall, races_keep_but}
use Rattle.sg_grammar.specs.declared.state.Head.{Head}
use Rattle.sg_grammar.specs.declared.state.Head.TheVariants as head

-- a candidate brings no race
pub length-with_candidate : (races : List PlanRace) (name : List ℕ) → length (with_candidate races name) ≡ length races
length-with_candidate [] name = refl
length-with_candidate (race ∷ []) name = refl
length-with_candidate (race ∷ next ∷ races) name = ap suc (length-with_candidate (next ∷ races) name)

-- RACES WHOSE LAST ONE IS NOT WHOLE

-- the first race has all its candidates, where others follow
but-first : (left : ℕ) (earlier : List PlanRace) (race : PlanRace) (races : List PlanRace) → 0 < length races
    → races_keep_but left earlier (race ∷ races) ≡ (race_keeps earlier race && races_keep_but left (earlier ++ race ∷ []) races)
but-first left earlier race [] some = absurd (omega arith)
but-first left earlier race (next ∷ races) some = refl

-- a race without all its candidates is added
but-push : (left : ℕ) (earlier races : List PlanRace) (race : PlanRace) → each_keeps race_keeps earlier races ≡ true
    → race_head_keeps (earlier ++ races) race.name (length race.candidates + left) race.votes ≡ true → each_keeps name_keeps [] race.candidates ≡ true
    → races_keep_but left earlier (races ++ race ∷ []) ≡ true
but-push left earlier [] race kept first names =
    let first_of : race_head_keeps earlier race.name (length race.candidates + left) race.votes ≡ true = rw (append-nil earlier) at first in
    and_from (race_head_keeps earlier race.name (length race.candidates + left) race.votes) (each_keeps name_keeps [] race.candidates) first_of names
but-push left earlier (other ∷ races) race kept first names =
    let parts = and_parts (race_keeps earlier other) (each_keeps race_keeps (earlier ++ other ∷ []) races) kept in
    let joined : (earlier ++ other ∷ []) ++ races ≡ earlier ++ (other ∷ races) = append_assoc earlier (other ∷ []) races in
    let behind = but-push left (earlier ++ other ∷ []) races race parts.1 (rw joined first) names in
    but-first left earlier other (races ++ race ∷ []) (omega (arith, length-append races (race ∷ [])))
    ∙ and_from (race_keeps earlier other) (races_keep_but left (earlier ++ other ∷ []) (races ++ race ∷ [])) parts.0 behind

-- a candidate is added to the last race
but-candidate : (left : ℕ) (earlier races : List PlanRace) (name : List ℕ) → races_keep_but (left + 1) earlier races ≡ true
    → name_keeps (last_candidates races) name ≡ true → races_keep_but left earlier (with_candidate races name) ≡ true
but-candidate left earlier [] name kept new = kept
but-candidate left earlier (race ∷ []) name kept new =
    let parts = and_parts (race_head_keeps earlier race.name (length race.candidates + (left + 1)) race.votes) (each_keeps name_keeps [] race.candidates) kept in
    let many : length race.candidates + (left + 1) ≡ length (race.candidates ++ name ∷ []) + left = omega (arith, length-append race.candidates (name ∷ [])) in
    and_from (race_head_keeps earlier race.name (length (race.candidates ++ name ∷ []) + left) race.votes) (each_keeps name_keeps [] (race.candidates ++ name ∷ []))
    (subst (λ (n : ℕ). race_head_keeps earlier race.name n race.votes ≡ true) many parts.0)
    (each_keeps-push name_keeps [] race.candidates name ∙ and_from (each_keeps name_keeps [] race.candidates) (name_keeps race.candidates name) parts.1 new)
but-candidate left earlier (race ∷ next ∷ races) name kept new =
    let parts = and_parts (race_keeps earlier race) (races_keep_but (left + 1) (earlier ++ race ∷ []) (next ∷ races)) kept in
    let behind = but-candidate left (earlier ++ race ∷ []) (next ∷ races) name parts.1 new in
    but-first left earlier race (with_candidate (next ∷ races) name) (omega (arith, length-with_candidate (next ∷ races) name))
    ∙ and_from (race_keeps earlier race) (races_keep_but left (earlier ++ race ∷ []) (with_candidate (next ∷ races) name)) parts.0 behind

-- no candidate is due: the races are whole
but-none : (earlier races : List PlanRace) → races_keep_but 0 earlier races ≡ true → each_keeps race_keeps earlier races ≡ true
but-none earlier [] kept = refl
but-none earlier (race ∷ []) kept =
    let parts = and_parts (race_head_keeps earlier race.name (length race.candidates + 0) race.votes) (each_keeps name_keeps [] race.candidates) kept in
    let same : length race.candidates + 0 ≡ length race.candidates = omega arith in
    and_from (race_keeps earlier race) true
    (and_from (race_head_keeps earlier race.name (length race.candidates) race.votes) (each_keeps name_keeps [] race.candidates)
    (subst (λ (n : ℕ). race_head_keeps earlier race.name n race.votes ≡ true) same parts.0) parts.1)
    refl
but-none earlier (race ∷ next ∷ races) kept =
    let parts = and_parts (race_keeps earlier race) (races_keep_but 0 (earlier ++ race ∷ []) (next ∷ races)) kept in
    and_from (race_keeps earlier race) (each_keeps race_keeps (earlier ++ race ∷ []) (next ∷ races)) parts.0 (but-none (earlier ++ race ∷ []) (next ∷ races) parts.1)

-- A LINE OF THE PLAN GOES ON MAKING IT

-- the claim on the plan behind a line
abbrev Goes : Making → Type 0
Goes making = IsMade making.plan making.head

-- a plan of no lines is a plan in the making
pub made-start : IsMade no_plan head.Version
made-start = record { stands = record { races = refl; behind = record { styles = refl; runs = refl } } }

version_line-made : (plan : Plan) (said : Said) (m : Making) → HasNoRaces plan → head_line plan head.Version said ≡ Some m → Goes m
version_line-made plan (Version version) m none e =
    if_then-claim Goes (is_version version) (made (with_version plan version) head.Election) m
    (λ ok. record { stands = (ok, record { races = none.races; behind = record { styles = none.behind.styles; runs = none.behind.runs } }) }) e
version_line-made plan said m none e = cc

election_line-made : (plan : Plan) (said : Said) (m : Making) → is_version plan.version ≡ true → HasNoRaces plan → head_line plan head.Election said ≡ Some m → Goes m
election_line-made plan (Election name) m version none e =
    if_then-claim Goes (is_name_word name) (made (with_name plan name) head.Instances) m
    (λ ok. record { stands = (version, ok, record { races = none.races; behind = record { styles = none.behind.styles; runs = none.behind.runs } }) }) e
election_line-made plan said m version none e = cc

instances_line-made : (plan : Plan) (said : Said) (m : Making) → is_version plan.version ≡ true → is_name_word plan.name ≡ true → HasNoRaces plan
    → head_line plan head.Instances said ≡ Some m → Goes m
instances_line-made plan (Instances instances) m version name none e =
    if_then-claim Goes (is_within 1 most_instances instances) (made (with_instances plan instances) head.Races) m
    (λ ok. record {
      stands = (
        record { version = version; name = name; instances = ok },
        record { most = omega (arith, ap length none.races); keep = ap (λ l. each_keeps race_keeps [] l) none.races },
        record { styles = none.behind.styles; runs = none.behind.runs },
      );
    }) e
instances_line-made plan said m version name none e = cc

-- a plan with a further style
take_style-made : (plan : Plan) (name races : List ℕ) (m : Making) → HasFront plan → HasRaces plan → 1 ≤ length plan.races
    → each_keeps (style_keeps (length plan.races)) [] plan.styles ≡ true → plan.runs ≡ [] → take_style plan (Style name races) ≡ Some m → Goes m
take_style-made plan name races m front whole one kept none e =
    let style : PlanStyle = record { name = name; races = races } in
    if_then-claim Goes (nat_lt (length plan.styles) most_styles && style_keeps (length plan.races) plan.styles style) (made (with_style plan name races) head.Styles) m
    (λ ok.
    let parts = and_parts (nat_lt (length plan.styles) most_styles) (style_keeps (length plan.races) plan.styles style) ok in
    record {
      stands = (
        record { version = front.version; name = front.name; instances = front.instances },
        record { most = whole.most; keep = whole.keep },
        record {
          one_race = one;
          one = omega (arith, length-append plan.styles (style ∷ []));
          most = omega (arith, length-append plan.styles (style ∷ []), ltb-true (length plan.styles) most_styles parts.0);
          keep = each_keeps-push (style_keeps (length plan.races)) [] plan.styles style
              ∙ and_from (each_keeps (style_keeps (length plan.races)) [] plan.styles) (style_keeps (length plan.races) plan.styles style) kept parts.1;
        },
        none,
      );
    }) e

-- a plan with a further race, whose candidates are due
race_line-made : (plan : Plan) (said : Said) (m : Making) → HasFront plan → HasRaces plan → HasNoStyles plan → head_line plan head.Races said ≡ Some m → Goes m
race_line-made plan (Race name candidates votes) m front whole none e =
    let race : PlanRace = record { name = name; candidates = []; votes = votes } in
    if_then-claim Goes (nat_lt (length plan.races) most_races && race_head_keeps plan.races name candidates votes) (made (with_race plan name votes) (head.Candidates candidates)) m
    (λ ok.
    let parts = and_parts (nat_lt (length plan.races) most_races) (race_head_keeps plan.races name candidates votes) ok in
    let sizes = and_parts (is_name_word name && not (races_have plan.races name)) (is_within 2 16 candidates && is_within 1 candidates votes) parts.1 in
    let two = is_within-true 2 16 candidates (and_parts (is_within 2 16 candidates) (is_within 1 candidates votes) sizes.1).0 in
    let same : candidates ≡ length race.candidates + candidates = omega arith in
    record {
      stands = (
        record { version = front.version; name = front.name; instances = front.instances },
        record {
          some = omega (arith, two.0);
          most = omega (arith, length-append plan.races (race ∷ []), ltb-true (length plan.races) most_races parts.0);
          keep = but-push candidates [] plan.races race whole.keep (subst (λ (n : ℕ). race_head_keeps plan.races name n votes ≡ true) same parts.1) refl;
        },
        record { styles = none.styles; runs = none.runs },
      );
    }) e
race_line-made plan (Style name races) m front whole none e =
    let some : 1 ≤ length plan.races = some_races plan (length plan.races) m name races e in
    take_style-made plan name races m front whole some (ap (λ l. each_keeps (style_keeps (length plan.races)) [] l) none.styles) none.runs
    (cond_some-then (nat_lt 0 (length plan.races)) (take_style plan (Style name races)) m e)
  where
    some_races : (p : Plan) (n : ℕ) (x : Making) (word list : List ℕ) → cond (nat_lt 0 n) (take_style p (Style word list)) None ≡ Some x → 1 ≤ n
    some_races p zero x word list none_there = cc
    some_races p (suc n) x word list there = omega arith
race_line-made plan said m front whole none e = cc

-- a plan with a further candidate of its last race
candidate_line-made : (left : ℕ) (plan : Plan) (said : Said) (m : Making) → HasFront plan → HasRacesBut left plan → HasNoStyles plan → head_line plan (head.Candidates left) said ≡ Some m → Goes m
candidate_line-made left plan (Cand name) m front but none e =
    if_then-claim Goes (name_keeps (last_candidates plan.races) name) (made (with_cand plan name) (behind_candidate left)) m
    (λ ok.
    let front_of : HasFront (with_cand plan name) = record { version = front.version; name = front.name; instances = front.instances } in
    let none_of : HasNoStyles (with_cand plan name) = record { styles = none.styles; runs = none.runs } in
    let few : length (with_candidate plan.races name) ≤ most_races = omega (arith, length-with_candidate plan.races name, but.most) in
    let one_more : left ≡ (left - 1) + 1 = omega (arith, but.some) in
    let kept = but-candidate (left - 1) [] plan.races name (subst (λ (n : ℕ). races_keep_but n [] plan.races ≡ true) one_more but.keep) ok in
    elim (cases_eq left 1) [
      | inl last ↦
          let no_more : left - 1 ≡ 0 = omega (arith, last) in
          rw (eq-eqb left 1 last) (record {
            stands = (
              front_of,
              record { most = few; keep = but-none [] (with_candidate plan.races name) (subst (λ (n : ℕ). races_keep_but n [] (with_candidate plan.races name) ≡ true) no_more kept) },
              none_of,
            );
          })
      | inr more ↦
          rw (ne_eqb left 1 more) (record { stands = (front_of, record { some = omega (arith, but.some, more); most = few; keep = kept }, none_of) })
    ]) e
candidate_line-made left plan said m front but none e = cc

-- a plan with a further run
take_run-made : (plan : Plan) (said : Said) (m : Making) → HasFront plan → HasRaces plan → HasStyles plan → each_keeps (run_keeps (length plan.styles)) [] plan.runs ≡ true
    → take_run plan said ≡ Some m → Goes m
take_run-made plan (Ballots style count) m front whole styles kept e =
    let run : Run = record { style = style; count = count } in
    if_then-claim Goes (run_keeps (length plan.styles) plan.runs run && nat_le (r_rows (with_run plan style count)) 200000) (made (with_run plan style count) head.Runs) m
    (λ ok.
    let parts = and_parts (run_keeps (length plan.styles) plan.runs run) (nat_le (r_rows (with_run plan style count)) 200000) ok in
    record {
      stands = record {
        front = record { version = front.version; name = front.name; instances = front.instances };
        races = record { most = whole.most; keep = whole.keep };
        styles = record { one_race = styles.one_race; one = styles.one; most = styles.most; keep = styles.keep };
        runs = record {
          one = omega (arith, length-append plan.runs (run ∷ []));
          keep = each_keeps-push (run_keeps (length plan.styles)) [] plan.runs run
              ∙ and_from (each_keeps (run_keeps (length plan.styles)) [] plan.runs) (run_keeps (length plan.styles) plan.runs run) kept parts.0;
          rows = leb-true (r_rows (with_run plan style count)) 200000 parts.1;
        };
      };
    }) e
take_run-made plan said m front whole styles kept e = cc

later_style_line-made : (plan : Plan) (said : Said) (m : Making) → HasFront plan → HasRaces plan → HasStyles plan → plan.runs ≡ [] → head_line plan head.Styles said ≡ Some m → Goes m
later_style_line-made plan (Style name races) m front whole styles none e = take_style-made plan name races m front whole styles.one_race styles.keep none e
later_style_line-made plan said m front whole styles none e =
    take_run-made plan said m front whole styles (ap (λ l. each_keeps (run_keeps (length plan.styles)) [] l) none) e

-- what holds of a plan in the making holds of it with each further line
pub made-line : (plan : Plan) (stage : Head) (said : Said) (making : Making) → IsMade plan stage → head_line plan stage said ≡ Some making → IsMade making.plan making.head
made-line plan head.Version said m kept e = version_line-made plan said m kept.stands e
made-line plan head.Election said m kept e = election_line-made plan said m kept.stands.0 kept.stands.1 e
made-line plan head.Instances said m kept e = instances_line-made plan said m kept.stands.0 kept.stands.1 kept.stands.2 e
made-line plan head.Races said m kept e = race_line-made plan said m kept.stands.0 kept.stands.1 kept.stands.2 e
made-line plan (head.Candidates left) said m kept e = candidate_line-made left plan said m kept.stands.0 kept.stands.1 kept.stands.2 e
made-line plan head.Styles said m kept e = later_style_line-made plan said m kept.stands.0 kept.stands.1 kept.stands.2 kept.stands.3 e
made-line plan head.Runs said m kept e = take_run-made plan said m kept.stands.front kept.stands.races kept.stands.styles kept.stands.runs.keep e
made-line plan head.Whole said m kept e = cc

pub ruleset made_so_far = (made-start, made-line)

-- THE SIZES OF A PLAN WHOSE RUNS STAND

-- a race with a candidate is one of the plan's
pub candidates_within : (plan : Plan) (race : ℕ) → 0 < candidates_of plan race → race < length plan.races
candidates_within plan race some = races_within plan.races race some
  where
    races_within : (races : List PlanRace) (k : ℕ) → 0 < option_map_or (λ r. length r.candidates) (slice_get races k) 0 → k < length races
    races_within [] k more = absurd (omega arith)
    races_within (r ∷ rs) zero more = omega arith
    races_within (r ∷ rs) (suc k) more = omega (arith, races_within rs k more)

-- a race behind the last one has no candidates
candidates_past : (plan : Plan) (race : ℕ) → length plan.races ≤ race → candidates_of plan race ≡ 0
candidates_past plan race past = ap (λ o. option_map_or (λ (r : PlanRace). length r.candidates) o 0) (slice_get_past plan.races race past)

-- how many candidates each race has
races_sized : (earlier races : List PlanRace) (k : ℕ) → each_keeps race_keeps earlier races ≡ true → k < length races
    → (2 ≤ option_map_or (λ r. length r.candidates) (slice_get races k) 0) × (option_map_or (λ r. length r.candidates) (slice_get races k) 0 ≤ 16)
races_sized earlier [] k kept within = absurd (omega arith)
races_sized earlier (race ∷ races) zero kept within =
    let whole = and_parts (race_keeps earlier race) (each_keeps race_keeps (earlier ++ race ∷ []) races) kept in
    let parts = and_parts (race_head_keeps earlier race.name (length race.candidates) race.votes) (each_keeps name_keeps [] race.candidates) whole.0 in
    let sizes = and_parts (is_name_word race.name && not (races_have earlier race.name)) (is_within 2 16 (length race.candidates) && is_within 1 (length race.candidates) race.votes) parts.0 in
    is_within-true 2 16 (length race.candidates) (and_parts (is_within 2 16 (length race.candidates)) (is_within 1 (length race.candidates) race.votes) sizes.1).0
races_sized earlier (race ∷ races) (suc k) kept within =
    races_sized (earlier ++ race ∷ []) races k (and_parts (race_keeps earlier race) (each_keeps race_keeps (earlier ++ race ∷ []) races) kept).1 (omega arith)

-- the entries of a race are among those of the races before a later one
pub entries_of-before : (plan : Plan) (race end : ℕ) → race < end → entries_of plan race ≤ entries_before plan end
entries_of-before plan race zero less = absurd (omega arith)
entries_of-before plan race (suc end) less = elim (cases_eq race end) [
  | inl same ↦ rw same (omega arith)
  | inr other ↦ omega (arith, entries_of-before plan race end (omega (arith, other)))
]

-- there is an instance, and so each race has at most as many entries as there are rows of table R
entries_of-rows : (plan : Plan) (race : ℕ) → 1 ≤ plan.instances → race < length plan.races → entries_of plan race ≤ r_rows plan
entries_of-rows plan race one within =
    omega (arith, entries_of-before plan race (length plan.races) within, mul-le 1 (all_entries plan) plan.instances (all_entries plan) one (omega arith))

-- a race behind the last one has no entries
entries_past : (plan : Plan) (race : ℕ) → length plan.races ≤ race → entries_of plan race ≡ 0
entries_past plan race past = rw (candidates_past plan race past) (omega arith)

pub complete-sizes : (plan : Plan) → IsComplete plan → HasSizes plan
complete-sizes plan whole =
    let instances = is_within-true 1 most_instances plan.instances whole.front.instances in
    record {
      one_race = whole.styles.one_race;
      most_races = omega (arith, whole.races.most);
      one_instance = instances.0;
      most_instances = omega (arith, instances.1);
      two_candidates = λ race within. (races_sized [] plan.races race whole.races.keep within).0;
      most_candidates = λ race. elim (cases_lt race (length plan.races)) [
        | inl within ↦ (races_sized [] plan.races race whole.races.keep within).1
        | inr past ↦ rw (candidates_past plan race past) (omega arith)
      ];
      most_ballots = (runs-true (length plan.styles) plan.runs whole.runs.keep).most;
      most_entries = λ race. elim (cases_lt race (length plan.races)) [
        | inl within ↦ omega (arith, entries_of-rows plan race instances.0 within, whole.runs.rows)
        | inr past ↦ omega (arith, entries_past plan race past)
      ];
      most_rows = whole.runs.rows;
    }

-- the sizes of a plan with styles, as far as they go
small : (plan : Plan) → HasFront plan → HasRaces plan → ballots_of plan ≤ 20000 → IsSmall plan
small plan front whole few = record {
  most_races = omega (arith, whole.most);
  most_instances = omega (arith, is_within-true 1 most_instances plan.instances front.instances);
  most_candidates = λ race. elim (cases_lt race (length plan.races)) [
    | inl within ↦ (races_sized [] plan.races race whole.keep within).1
    | inr past ↦ rw (candidates_past plan race past) (omega arith)
  ];
  most_ballots = few;
}

-- where a style or the first run may come
pub styles-small : (plan : Plan) → IsMade plan head.Styles → IsSmall plan
styles-small plan kept = small plan kept.stands.0 kept.stands.1 (omega (arith, ap (λ l. length (ballot_styles l)) kept.stands.3))

-- where a further run may come
pub runs-small : (plan : Plan) → IsMade plan head.Runs → IsSmall plan
runs-small plan kept = small plan kept.stands.front kept.stands.races (runs-true (length plan.styles) plan.runs kept.stands.runs.keep).most

-- there is a race, where candidates are due
pub candidates-race : (plan : Plan) (left : ℕ) → IsMade plan (head.Candidates left) → 0 < length plan.races
candidates-race plan left kept = last_there plan.races kept.stands.1.keep
  where
    last_there : (races : List PlanRace) → races_keep_but left [] races ≡ true → 0 < length races
    last_there [] keep = absurd (true≢false (sym keep))
    last_there (race ∷ races) keep = omega arith

pub ruleset stages = (styles-small, runs-small, candidates-race)

-- the same, where a run or the first commitment may come
pub runs-sizes : (plan : Plan) → IsMade plan head.Runs → HasSizes plan
runs-sizes plan kept = complete-sizes plan kept.stands

-- and behind the plan
pub whole-sizes : (plan : Plan) → IsMade plan head.Whole → HasSizes plan
whole-sizes plan kept = complete-sizes plan kept.stands

-- THE FAULT OF A PLAN IN THE MAKING

-- races and styles that are few enough have their places
fits : {X : Type 0} (keeps : List X → X → Bool) (earlier xs : List X) → length earlier + length xs ≤ 32 → each_keeps keeps earlier xs ≡ true
    → each_keeps (λ before x. nat_lt (length before) 32 && keeps before x) earlier xs ≡ true
fits keeps earlier [] few kept = refl
fits keeps earlier (x ∷ xs) few kept =
    let parts = and_parts (keeps earlier x) (each_keeps keeps (earlier ++ x ∷ []) xs) kept in
    let behind = fits keeps (earlier ++ x ∷ []) xs (omega (arith, length-append earlier (x ∷ []))) parts.1 in
    and_from (nat_lt (length earlier) 32 && keeps earlier x) (each_keeps (λ before y. nat_lt (length before) 32 && keeps before y) (earlier ++ x ∷ []) xs)
    (and_from (nat_lt (length earlier) 32) (keeps earlier x) (lt-ltb (length earlier) 32 (omega arith)) parts.0) behind

-- a plan whose lines all stand keeps its limits
pub complete-fault : (plan : Plan) → IsComplete plan → fault_of plan ≡ None
complete-fault plan whole =
    let instances = is_within-true 1 most_instances plan.instances whole.front.instances in
    let races = fits race_keeps [] plan.races (omega (arith, whole.races.most)) whole.races.keep in
    let styles = fits (style_keeps (length plan.races)) [] plan.styles (omega (arith, whole.styles.most)) whole.styles.keep in
    no_fault plan (record {
      version = whole.front.version;
      name = whole.front.name;
      instances = true-is_within 1 16 plan.instances instances.0 (omega (arith, instances.1));
      races = None-first_fault race_fits plan.races whole.styles.one_race races;
      styles = None-first_fault (style_fits (length plan.races)) plan.styles whole.styles.one styles;
      runs = None-first_fault (run_keeps (length plan.styles)) plan.runs whole.runs.one whole.runs.keep;
      rows = le-leb (r_rows plan) 200000 whole.runs.rows;
    })

-- a plan without runs is at fault
pub no_runs-fault : (plan : Plan) → plan.runs ≡ [] → is_none (fault_of plan) ≡ false
no_runs-fault plan none = elim (cases_Bool (is_none (fault_of plan))) [
  | inl fine ↦ absurd (some_runs (passes_tests plan (is_none-true (fault_of plan) fine)))
  | inr at_fault ↦ at_fault
]
  where
    some_runs : PassesTests plan → ⊥
    some_runs tests = let some = (first_fault-None (run_keeps (length plan.styles)) plan.runs tests.runs).0 in omega (arith, some, ap length none)

-- a plan in the making keeps its limits exactly where a line of ballots stands
pub made-fault : (plan : Plan) (stage : Head) → IsMade plan stage → is_none (fault_of plan) ≡ has_runs stage
made-fault plan head.Version kept = no_runs-fault plan kept.stands.behind.runs
made-fault plan head.Election kept = no_runs-fault plan kept.stands.1.behind.runs
made-fault plan head.Instances kept = no_runs-fault plan kept.stands.2.behind.runs
made-fault plan head.Races kept = no_runs-fault plan kept.stands.2.runs
made-fault plan (head.Candidates left) kept = no_runs-fault plan kept.stands.2.runs
made-fault plan head.Styles kept = no_runs-fault plan kept.stands.3
made-fault plan head.Runs kept = ap is_none (complete-fault plan kept.stands)
made-fault plan head.Whole kept = ap is_none (complete-fault plan kept.stands)

-- it keeps them where a further run may come
pub runs-fault : (plan : Plan) → IsMade plan head.Runs → fault_of plan ≡ None
runs-fault plan kept = complete-fault plan kept.stands

-- and behind the plan
pub whole-fault : (plan : Plan) → IsMade plan head.Whole → fault_of plan ≡ None
whole-fault plan kept = complete-fault plan kept.stands

-- but not before
pub early-fault : (plan : Plan) (stage : Head) → IsMade plan stage → has_runs stage ≡ false → IsSome (fault_of plan)
early-fault plan stage kept early = some_there (fault_of plan) (made-fault plan stage kept ∙ early)
  where
    some_there : (o : Option PlanFault) → is_none o ≡ false → IsSome o
    some_there None none = absurd (true≢false none)
    some_there (Some x) some = refl

-- HOW THE ENTRIES GROW

-- a run adds its ballots to the rows of the races that its style has
pub rows_of-run : (plan : Plan) (style count race : ℕ) → rows_of (with_run plan style count) race ≡ rows_of plan race + (if style_has plan race style then count else 0)
rows_of-run plan style count race =
    let run : Run = record { style = style; count = count } in
    ap (λ l. count_by (style_has plan race) l) (ballot_styles-append plan.runs (run ∷ []))
    ∙ (count_by-append (style_has plan race) (ballot_styles plan.runs) (replicate count style ++ [])
    ∙ ap (λ n. rows_of plan race + n) (ap (λ l. count_by (style_has plan race) l) (append-nil (replicate count style)) ∙ count_by-replicate (style_has plan race) count style))

-- and so many times its candidates to the entries
pub entries_of-run : (plan : Plan) (style count race : ℕ)
    → entries_of (with_run plan style count) race ≡ entries_of plan race + (if style_has plan race style then count * candidates_of plan race else 0)
entries_of-run plan style count race =
    ap (λ n. n * candidates_of plan race) (rows_of-run plan style count race) ∙ times (style_has plan race style) (rows_of plan race) (candidates_of plan race)
  where
    times : (b : Bool) (rows candidates : ℕ) → (rows + (if b then count else 0)) * candidates ≡ rows * candidates + (if b then count * candidates else 0)
    times true rows candidates = add-mul rows count candidates
    times false rows candidates = omega (arith, add-mul rows 0 candidates)

-- no race of a plan without runs has entries
pub no_runs-entries : (plan : Plan) (race : ℕ) → plan.runs ≡ [] → entries_of plan race ≡ 0
no_runs-entries plan race none = ap (λ l. count_by (style_has plan race) (ballot_styles l) * candidates_of plan race) none ∙ omega arith

-- where no line of ballots stands, there are no runs
pub early-runs : (plan : Plan) (stage : Head) → IsMade plan stage → has_runs stage ≡ false → plan.runs ≡ []
early-runs plan head.Version kept early = kept.stands.behind.runs
early-runs plan head.Election kept early = kept.stands.1.behind.runs
early-runs plan head.Instances kept early = kept.stands.2.behind.runs
early-runs plan head.Races kept early = kept.stands.2.runs
early-runs plan (head.Candidates left) kept early = kept.stands.2.runs
early-runs plan head.Styles kept early = kept.stands.3
early-runs plan head.Runs kept early = absurd (true≢false early)
early-runs plan head.Whole kept early = absurd (true≢false early)

-- and so no entries
pub early-entries : (plan : Plan) (stage : Head) (race : ℕ) → IsMade plan stage → has_runs stage ≡ false → entries_of plan race ≡ 0
early-entries plan stage race kept early = no_runs-entries plan race (early-runs plan stage kept early)
