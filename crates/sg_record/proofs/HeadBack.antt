-- Lines that may stand one after another up to a whole record begin with the lines of a plan that keeps its limits.
use Rattle.std.proofs.Common.{◌≡◌, ℕ, ◌+◌, ◌-◌, ◌<◌, nat_lt, nat_le, Bool, true, false, ◌&&◌, inl, inr, List, [], ◌∷◌, ◌++◌, length, map, Some, refl, sym, subst, ap, ◌∙◌, arith}
use Rattle.std.proofs.lemmas.Bool.{cases_eq, eq-eqb, ne_eqb}
use Rattle.std.proofs.lemmas.List.{append-nil, append_assoc, length-append, map_push}
use Rattle.std.specs.List.{flat_map}
use Rattle.sg_lists.proofs.Options.{cond_some-then, option_map-some}
use Rattle.sg_plan.specs.Ballots.{r_rows}
use Rattle.sg_plan.specs.Limits.{is_version, most_instances, most_races, most_styles, race_head_keeps, run_keeps, style_keeps}
use Rattle.sg_plan.specs.Names.{is_name_word, is_within, name_keeps}
use Rattle.sg_plan.specs.declared.plan.Plan.{Plan}
use Rattle.sg_plan.specs.declared.plan.Race.{Race as PlanRace}
use Rattle.sg_plan.specs.declared.plan.Run.{Run}
use Rattle.sg_plan.specs.declared.plan.Style.{Style as PlanStyle}
use Rattle.sg_forms.specs.Said.{Said}
use Rattle.sg_forms.specs.Said.Said.{Ballots, Cand, Election, Instances, Race, Style, Version}
use Rattle.sg_grammar.proofs.Claims.{if_then-claim}
use Rattle.sg_grammar.proofs.Making.{candidates-race, made-line, made-start}
use Rattle.sg_grammar.specs.Due.{commits}
use Rattle.sg_grammar.specs.Head.{Making, behind_candidate, head_line, last_candidates, made, no_plan, take_run, take_style, with_cand, with_candidate, with_instances, with_name, with_race, with_run, with_style, with_version}
use Rattle.sg_grammar.specs.Made.{HasNoStyles, IsMade}
use Rattle.sg_grammar.specs.Walk.{Next, Taken, after_run, behind, headed, in_head, is_whole, is_whole_at, start, take_at, take_line}
use Rattle.sg_grammar.specs.declared.state.Head.{Head}
use Rattle.sg_grammar.specs.declared.state.Head.TheVariants as head
use Rattle.sg_grammar.specs.declared.state.Part.TheVariants as part
use Rattle.sg_record.proofs.HeadOut.{head_state}
use Rattle.sg_record.proofs.SaidWalk.{Goes}
use Rattle.sg_record.specs.Lines.{plan_lines, race_lines, run_line, style_line}

-- THE LINES SO FAR

-- races, so many candidates of the last one of which are due
abbrev pub races_but : ℕ → List PlanRace → List Said
races_but left [] = []
races_but left (race ∷ []) = Race race.name (length race.candidates + left) race.votes ∷ map Cand race.candidates
races_but left (race ∷ next ∷ races) = race_lines race ++ races_but left (next ∷ races)

-- the plan's lines behind its races
abbrev pub later_lines : Plan → List Said
later_lines plan = map style_line plan.styles ++ map run_line plan.runs

-- the lines of the plan so far, where these are its races
abbrev pub lines_with : Plan → List Said → List Said
lines_with plan races = Version plan.version ∷ Election plan.name ∷ Instances plan.instances ∷ (races ++ later_lines plan)

-- the lines of a plan in the making
abbrev pub head_lines : Plan → Head → List Said
head_lines plan head.Version = []
head_lines plan head.Election = Version plan.version ∷ []
head_lines plan head.Instances = Version plan.version ∷ Election plan.name ∷ []
head_lines plan head.Races = plan_lines plan
head_lines plan (head.Candidates left) = lines_with plan (races_but left plan.races)
head_lines plan head.Styles = plan_lines plan
head_lines plan head.Runs = plan_lines plan
head_lines plan head.Whole = plan_lines plan

-- the plan is not whole yet
abbrev pub is_head : Head → Bool
is_head head.Whole = false
is_head stage = true

-- the plan's lines go on by this line
abbrev pub Adds : List Said → Said → Making → Type 0
Adds lines said making = (head_lines making.plan making.head ≡ lines ++ said ∷ []) × (is_head making.head ≡ true)

-- RACES

but-none : (races : List PlanRace) → races_but 0 races ≡ flat_map race_lines races
but-none [] = refl
but-none (race ∷ []) =
    let same : length race.candidates + 0 ≡ length race.candidates = omega arith in
    ap (λ n. Race race.name n race.votes ∷ map Cand race.candidates) same ∙ sym (append-nil (race_lines race))
but-none (race ∷ next ∷ races) = ap (λ l. race_lines race ++ l) (but-none (next ∷ races))

-- a race without candidates yet
but-race : (races : List PlanRace) (name : List ℕ) (count votes : ℕ)
    → races_but count (races ++ record { name = name; candidates = []; votes = votes } ∷ []) ≡ flat_map race_lines races ++ Race name count votes ∷ []
but-race [] name count votes =
    let same : 0 + count ≡ count = omega arith in
    ap (λ n. Race name n votes ∷ []) same
but-race (race ∷ []) name count votes =
    let same : 0 + count ≡ count = omega arith in
    ap (λ n. race_lines race ++ Race name n votes ∷ []) same ∙ ap (λ l. l ++ Race name count votes ∷ []) (sym (append-nil (race_lines race)))
but-race (race ∷ next ∷ races) name count votes =
    ap (λ l. race_lines race ++ l) (but-race (next ∷ races) name count votes) ∙ sym (append_assoc (race_lines race) (flat_map race_lines (next ∷ races)) (Race name count votes ∷ []))

-- one more candidate
but-candidate : (left : ℕ) (races : List PlanRace) (name : List ℕ) → 0 < length races → races_but left (with_candidate races name) ≡ races_but (left + 1) races ++ Cand name ∷ []
but-candidate left [] name some = absurd (omega arith)
but-candidate left (race ∷ []) name some =
    let same : length (race.candidates ++ name ∷ []) + left ≡ length race.candidates + (left + 1) = omega (arith, length-append race.candidates (name ∷ [])) in
    ap (λ n. Race race.name n race.votes ∷ map Cand (race.candidates ++ name ∷ [])) same
    ∙ ap (λ l. Race race.name (length race.candidates + (left + 1)) race.votes ∷ l) (map_push Cand race.candidates name)
but-candidate left (race ∷ next ∷ []) name some =
    ap (λ l. race_lines race ++ l) (but-candidate left (next ∷ []) name (omega arith)) ∙ sym (append_assoc (race_lines race) (races_but (left + 1) (next ∷ [])) (Cand name ∷ []))
but-candidate left (race ∷ next ∷ third ∷ races) name some =
    ap (λ l. race_lines race ++ l) (but-candidate left (next ∷ third ∷ races) name (omega arith))
    ∙ sym (append_assoc (race_lines race) (races_but (left + 1) (next ∷ third ∷ races)) (Cand name ∷ []))

-- no line behind the races stands
no_later : (plan : Plan) → HasNoStyles plan → later_lines plan ≡ []
no_later plan none = ap (λ l. map style_line l ++ map run_line plan.runs) none.styles ∙ ap (λ l. map run_line l) none.runs

-- a line is added to the races
races-add : (plan : Plan) (races more : List Said) (said : Said) → later_lines plan ≡ [] → more ≡ races ++ said ∷ [] → lines_with plan more ≡ lines_with plan races ++ said ∷ []
races-add plan races more said none is =
    let front : List Said → List Said = λ l. Version plan.version ∷ Election plan.name ∷ Instances plan.instances ∷ l in
    ap (λ l. front (more ++ l)) none
    ∙ (ap front (append-nil more)
    ∙ (ap front is ∙ ap (λ l. front (l ++ said ∷ [])) (sym (append-nil races) ∙ ap (λ l. races ++ l) (sym none))))

-- EACH LINE

style-adds : (plan : Plan) (name races : List ℕ) (m : Making) → plan.runs ≡ [] → take_style plan (Style name races) ≡ Some m → Adds (plan_lines plan) (Style name races) m
style-adds plan name races m none e =
    if_then-claim (Adds (plan_lines plan) (Style name races)) (nat_lt (length plan.styles) most_styles && style_keeps (length plan.races) plan.styles (record { name = name; races = races }))
    (made (with_style plan name races) head.Styles) m
    (λ ok.
    let style : PlanStyle = record { name = name; races = races } in
    let front : List Said → List Said = λ l. Version plan.version ∷ Election plan.name ∷ Instances plan.instances ∷ (flat_map race_lines plan.races ++ l) in
    let one : map style_line (plan.styles ++ style ∷ []) ++ map run_line plan.runs ≡ map style_line plan.styles ++ Style name races ∷ []
    = ap (λ (l : List Run). map style_line (plan.styles ++ style ∷ []) ++ map run_line l) none
    ∙ (append-nil (map style_line (plan.styles ++ style ∷ [])) ∙ map_push style_line plan.styles style) in
    let two : map style_line plan.styles ++ Style name races ∷ [] ≡ later_lines plan ++ Style name races ∷ []
    = ap (λ l. l ++ Style name races ∷ []) (sym (append-nil (map style_line plan.styles)) ∙ ap (λ (l : List Run). map style_line plan.styles ++ map run_line l) (sym none)) in
    (ap front (one ∙ two) ∙ ap (λ l. Version plan.version ∷ Election plan.name ∷ Instances plan.instances ∷ l) (sym (append_assoc (flat_map race_lines plan.races) (later_lines plan) (Style name races ∷ []))), refl)) e

run-adds : (plan : Plan) (said : Said) (m : Making) → take_run plan said ≡ Some m → Adds (plan_lines plan) said m
run-adds plan (Ballots style count) m e =
    if_then-claim (Adds (plan_lines plan) (Ballots style count)) (run_keeps (length plan.styles) plan.runs (record { style = style; count = count }) && nat_le (r_rows (with_run plan style count)) 200000)
    (made (with_run plan style count) head.Runs) m
    (λ ok.
    let run : Run = record { style = style; count = count } in
    let front : List Said → List Said = λ l. Version plan.version ∷ Election plan.name ∷ Instances plan.instances ∷ (flat_map race_lines plan.races ++ l) in
    let one : map style_line plan.styles ++ map run_line (plan.runs ++ run ∷ []) ≡ later_lines plan ++ Ballots style count ∷ []
    = ap (λ l. map style_line plan.styles ++ l) (map_push run_line plan.runs run) ∙ sym (append_assoc (map style_line plan.styles) (map run_line plan.runs) (Ballots style count ∷ [])) in
    (ap front one ∙ ap (λ l. Version plan.version ∷ Election plan.name ∷ Instances plan.instances ∷ l) (sym (append_assoc (flat_map race_lines plan.races) (later_lines plan) (Ballots style count ∷ []))), refl)) e
run-adds plan said m e = cc

-- the lines of a plan in the making, with one more
pub head-adds : (plan : Plan) (stage : Head) (said : Said) (m : Making) → IsMade plan stage → head_line plan stage said ≡ Some m → Adds (head_lines plan stage) said m
head-adds plan head.Version (Version version) m kept e = if_then-claim (Adds [] (Version version)) (is_version version) (made (with_version plan version) head.Election) m (λ ok. (refl, refl)) e
head-adds plan head.Version said m kept e = cc
head-adds plan head.Election (Election name) m kept e =
    if_then-claim (Adds (head_lines plan head.Election) (Election name)) (is_name_word name) (made (with_name plan name) head.Instances) m (λ ok. (refl, refl)) e
head-adds plan head.Election said m kept e = cc
head-adds plan head.Instances (Instances instances) m kept e =
    if_then-claim (Adds (head_lines plan head.Instances) (Instances instances)) (is_within 1 most_instances instances) (made (with_instances plan instances) head.Races) m
    (λ ok.
    let none = kept.stands.2 in
    let front : List Said → List Said = λ l. Version plan.version ∷ Election plan.name ∷ Instances instances ∷ l in
    (ap (λ l. front (flat_map race_lines plan.races ++ l)) (no_later plan none.behind) ∙ ap (λ (l : List PlanRace). front (flat_map race_lines l ++ [])) none.races, refl)) e
head-adds plan head.Instances said m kept e = cc
head-adds plan head.Races (Race name candidates votes) m kept e =
    if_then-claim (Adds (plan_lines plan) (Race name candidates votes)) (nat_lt (length plan.races) most_races && race_head_keeps plan.races name candidates votes)
    (made (with_race plan name votes) (head.Candidates candidates)) m
    (λ ok. (
      races-add plan (flat_map race_lines plan.races) (races_but candidates (plan.races ++ record { name = name; candidates = []; votes = votes } ∷ [])) (Race name candidates votes)
          (no_later plan kept.stands.2) (but-race plan.races name candidates votes),
      refl,
    )) e
head-adds plan head.Races (Style name races) m kept e =
    style-adds plan name races m kept.stands.2.runs (cond_some-then (nat_lt 0 (length plan.races)) (take_style plan (Style name races)) m e)
head-adds plan head.Races said m kept e = cc
head-adds plan (head.Candidates left) (Cand name) m kept e =
    if_then-claim (Adds (lines_with plan (races_but left plan.races)) (Cand name)) (name_keeps (last_candidates plan.races) name) (made (with_cand plan name) (behind_candidate left)) m
    (λ ok.
    let some = candidates-race plan left kept in
    let one_more : (left - 1) + 1 ≡ left = omega (arith, kept.stands.1.some) in
    let is : races_but (left - 1) (with_candidate plan.races name) ≡ races_but left plan.races ++ Cand name ∷ []
    = but-candidate (left - 1) plan.races name some ∙ ap (λ n. races_but n plan.races ++ Cand name ∷ []) one_more in
    elim (cases_eq left 1) [
      | inl last ↦
          let no_more : left - 1 ≡ 0 = omega (arith, last) in
          let all : flat_map race_lines (with_candidate plan.races name) ≡ races_but left plan.races ++ Cand name ∷ []
          = sym (but-none (with_candidate plan.races name)) ∙ (ap (λ n. races_but n (with_candidate plan.races name)) (sym no_more) ∙ is) in
          rw (eq-eqb left 1 last) (races-add plan (races_but left plan.races) (flat_map race_lines (with_candidate plan.races name)) (Cand name) (no_later plan kept.stands.2) all, refl)
      | inr more ↦
          rw (ne_eqb left 1 more) (races-add plan (races_but left plan.races) (races_but (left - 1) (with_candidate plan.races name)) (Cand name) (no_later plan kept.stands.2) is, refl)
    ]) e
head-adds plan (head.Candidates left) said m kept e = cc
head-adds plan head.Styles (Style name races) m kept e = style-adds plan name races m kept.stands.3 e
head-adds plan head.Styles said m kept e = run-adds plan said m e
head-adds plan head.Runs said m kept e = run-adds plan said m e
head-adds plan head.Whole said m kept e = cc

-- THE WHOLE PLAN

-- lines behind those of a plan in the making make it whole, and then others follow
pub record PlanOf (plan : Plan) (stage : Head) (lines : List Said) (end : Next) : Type 0 where
  pub whole : Plan
  pub front : List Said
  pub back : List Said
  pub is : lines ≡ front ++ back
  pub all : head_lines plan stage ++ front ≡ plan_lines whole
  pub kept : IsMade whole head.Runs
  pub goes : Goes (behind whole (commits whole) (part.Ballots 0)) back end

not_whole : (stage : Head) → is_whole_at stage [] (part.Ballots 0) ≡ false
not_whole head.Whole = refl
not_whole stage = refl

-- the lines so far with one more, and those behind it
one_more : (lines front more whole : List Said) (said : Said) → more ≡ lines ++ said ∷ [] → more ++ front ≡ whole → lines ++ (said ∷ front) ≡ whole
one_more lines front more whole said is all = sym (append_assoc lines (said ∷ []) front) ∙ (ap (λ l. l ++ front) (sym is) ∙ all)

-- one more line in front
with_line : (plan : Plan) (stage : Head) (said : Said) (lines : List Said) (end : Next) (m : Making) → head_lines m.plan m.head ≡ head_lines plan stage ++ said ∷ []
    → PlanOf m.plan m.head lines end → PlanOf plan stage (said ∷ lines) end
with_line plan stage said lines end m adds rest = record {
  whole = rest.whole;
  front = said ∷ rest.front;
  back = rest.back;
  is = ap (λ l. said ∷ l) rest.is;
  all = one_more (head_lines plan stage) rest.front (head_lines m.plan m.head) (plan_lines rest.whole) said adds rest.all;
  kept = rest.kept;
  goes = rest.goes;
}

-- one more line, and what is known of those behind it
line-back : (plan : Plan) (stage : Head) (said : Said) (lines : List Said) (end : Next) (taken : Taken) → IsMade plan stage
    → ((more : Plan) (next : Head) → IsMade more next → is_head next ≡ true → Goes (head_state more next) lines end → PlanOf more next lines end)
    → in_head plan stage said ≡ Some taken → Goes taken.next lines end → PlanOf plan stage (said ∷ lines) end
line-back plan stage said lines end taken kept known e goes =
    let from = option_map-some (headed said) (head_line plan stage said) taken e in
    let adds = head-adds plan stage said from.0 kept from.1 in
    with_line plan stage said lines end from.0 adds.0
    (known from.0.plan from.0.head (made-line plan stage said from.0 kept from.1) adds.1 (subst (λ (t : Taken). Goes t.next lines end) (sym from.2) goes))

run-back : (plan : Plan) (said : Said) (lines : List Said) (end : Next) (taken : Taken) → IsMade plan head.Runs
    → ((more : Plan) (next : Head) → IsMade more next → is_head next ≡ true → Goes (head_state more next) lines end → PlanOf more next lines end)
    → after_run plan said ≡ Some taken → Goes taken.next lines end → PlanOf plan head.Runs (said ∷ lines) end
unfolding take_line
run-back plan (Ballots style count) lines end taken kept known e goes = line-back plan head.Runs (Ballots style count) lines end taken kept known e goes
run-back plan said lines end taken kept known e goes = record {
  whole = plan;
  front = [];
  back = said ∷ lines;
  is = refl;
  all = append-nil (plan_lines plan);
  kept = kept;
  goes = (taken, e, goes);
}

stage-back : (plan : Plan) (stage : Head) (said : Said) (lines : List Said) (end : Next) (taken : Taken) → IsMade plan stage → is_head stage ≡ true
    → ((more : Plan) (next : Head) → IsMade more next → is_head next ≡ true → Goes (head_state more next) lines end → PlanOf more next lines end)
    → take_at plan stage [] (part.Ballots 0) said ≡ Some taken → Goes taken.next lines end → PlanOf plan stage (said ∷ lines) end
stage-back plan head.Whole said lines end taken kept some known e goes = cc
stage-back plan head.Runs said lines end taken kept some known e goes = run-back plan said lines end taken kept known e goes
stage-back plan stage said lines end taken kept some known e goes = line-back plan stage said lines end taken kept known e goes

head-back : (end : Next) (lines : List Said) → is_whole end ≡ true → (plan : Plan) (stage : Head) → IsMade plan stage → is_head stage ≡ true → Goes (head_state plan stage) lines end
    → PlanOf plan stage lines end
unfolding take_line
head-back end [] whole plan stage kept some goes = let never = ap is_whole goes ∙ whole in let none = not_whole stage in cc
head-back end (said ∷ lines) whole plan stage kept some goes =
    stage-back plan stage said lines end goes.0 kept some (head-back end lines whole) goes.1 goes.2

-- from the start on
pub plan-back : (end : Next) (lines : List Said) → is_whole end ≡ true → Goes start lines end → PlanOf no_plan head.Version lines end
plan-back end lines whole goes = head-back end lines whole no_plan head.Version made-start refl goes
