-- Each line taken leaves fewer lines to come, and so a record has few lines.
use Rattle.std.proofs.Common.{◌≡◌, ℕ, ◌+◌, ◌<◌, ◌≤◌, ◌==◌, nat_lt, nat_le, true, ◌&&◌, not, inl, inr, List, [], ◌∷◌, length, Option, Some, None, refl, sym, subst, ap, arith}
use Rattle.std.proofs.lemmas.Bool.{and_parts, cases_eq, eq-eqb, leb-true, ltb-true, ne_eqb}
use Rattle.std.proofs.lemmas.List.{length-append}
use Rattle.std.proofs.lemmas.Option.{same_Some}
use Rattle.sg_lists.proofs.Options.{cond_some-then, option_map-some}
use Rattle.sg_plan.proofs.BallotLists.{count-push}
use Rattle.sg_plan.proofs.LimitTests.{run_keeps-true}
use Rattle.sg_plan.proofs.NameTests.{is_within-true}
use Rattle.sg_plan.specs.Ballots.{ballot_has, ballots_of, r_rows}
use Rattle.sg_plan.specs.Limits.{is_version, most_claims, most_instances, most_races, most_styles, race_head_keeps, races_have, run_keeps, style_keeps}
use Rattle.sg_plan.specs.Names.{is_name_word, is_within, name_keeps}
use Rattle.sg_plan.specs.declared.plan.Plan.{Plan}
use Rattle.sg_plan.specs.declared.plan.Race.{Race as PlanRace}
use Rattle.sg_forms.specs.Said.{Said}
use Rattle.sg_forms.specs.Said.Said.{Audited, Ballots, Cand, Cast, Dispute, Election, Instances, Race, Spoiled, Style, Version, Voided}
use Rattle.sg_grammar.proofs.Blocks.{due_audit-length, blocks-fall, blocks-length}
use Rattle.sg_grammar.proofs.CastLines.{cast-claim}
use Rattle.sg_grammar.proofs.Claims.{if_then-claim}
use Rattle.sg_grammar.proofs.FirstLines.{take_bytes-line, walk-first, walk-none}
use Rattle.sg_grammar.proofs.Making.{complete-sizes, length-with_candidate, made-line, made-start}
use Rattle.sg_grammar.proofs.Sections.{commits-length, race_codes-length, results-length}
use Rattle.sg_grammar.specs.Due.{due_audit, commits, race_codes, results}
use Rattle.sg_grammar.specs.Head.{Making, behind_candidate, head_line, last_candidates, made, take_run, take_style, with_cand, with_instances, with_name, with_race, with_run, with_style, with_version}
use Rattle.sg_grammar.specs.Left.{block_left, blocks_left, body_left, disputes_left, left_at, lines_left, most_lines, part_left, results_left}
use Rattle.sg_grammar.specs.Made.{HasSizes, IsComplete, IsMade}
use Rattle.sg_grammar.specs.Placed.{Placed}
use Rattle.sg_grammar.specs.Placed.Placed.{Begun, Disputed}
use Rattle.sg_grammar.specs.Walk.{Next, Taken, Walked, after_block, after_dispute, after_run, begins, behind, body_line, first_taken, headed, in_cast, in_head, is_later, place, start, take_at, take_line, taking, took, walk}
use Rattle.sg_grammar.specs.declared.state.Block.TheVariants as block
use Rattle.sg_grammar.specs.declared.state.Head.{Head}
use Rattle.sg_grammar.specs.declared.state.Head.TheVariants as head
use Rattle.sg_grammar.specs.declared.state.Part.{Part}
use Rattle.sg_grammar.specs.declared.state.Part.TheVariants as part
use Rattle.sg_grammar.specs.declared.state.Slot.{Slot}

-- BEHIND THE PLAN

-- the plan stays, and fewer lines than this may come
pub record Falls (plan : Plan) (most : ℕ) (taken : Taken) : Type 0 where
  pub plan_stays : taken.next.plan ≡ plan
  pub whole : taken.next.head ≡ head.Whole
  pub less : lines_left taken.next < most

-- a line behind which these lines are due
falls-took : (plan : Plan) (due : List Slot) (may_begin : Part) (most : ℕ) (placed : Placed) → body_left plan due may_begin < most → Falls plan most (took placed (behind plan due may_begin))
unfolding lines_left
falls-took plan due may_begin most placed less = record { plan_stays = refl; whole = refl; less = less }

falls-more : (plan : Plan) (few most : ℕ) (taken : Taken) → few ≤ most → Falls plan few taken → Falls plan most taken
falls-more plan few most taken le falls = record { plan_stays = falls.plan_stays; whole = falls.whole; less = omega (arith, falls.less) }

taking-falls : (plan : Plan) (due : List Slot) (may_begin : Part) (most : ℕ) (placed : Option Placed) (t : Taken)
    → body_left plan due may_begin < most → taking plan due may_begin placed ≡ Some t → Falls plan most t
taking-falls plan due may_begin most None t less e = cc
taking-falls plan due may_begin most (Some line) t less e =
    subst (λ (x : Taken). Falls plan most x) (same_Some (took line (behind plan due may_begin)) t e) (falls-took plan due may_begin most line less)

first_taken-falls : (plan : Plan) (slots : List Slot) (said : Said) (t : Taken) → first_taken plan slots said ≡ Some t → Falls plan (length slots + disputes_left 0) t
first_taken-falls plan [] said t e = cc
first_taken-falls plan (slot ∷ due) said t e = taking-falls plan due (part.Disputes 0) (length (slot ∷ due) + disputes_left 0) (place slot said) t (omega arith) e

-- a block of a later ballot, which has no more lines than one of a cast ballot may have
begun-falls : (plan : Plan) (last ballot : ℕ) (due : List Slot) (may_begin : Part) → is_later plan last ballot ≡ true
    → body_left plan due may_begin ≤ block_left plan ballot 0 0 + (blocks_left plan ballot + results_left plan)
    → Falls plan (blocks_left plan last + results_left plan) (took (Begun ballot) (behind plan due may_begin))
begun-falls plan last ballot due may_begin later few =
    let parts = and_parts (nat_lt last ballot) (nat_le ballot (ballots_of plan)) later in
    let fewer = blocks-fall plan last ballot (ltb-true last ballot parts.0) (leb-true ballot (ballots_of plan) parts.1) in
    falls-took plan due may_begin (blocks_left plan last + results_left plan) (Begun ballot) (omega (arith, fewer, few))

-- the block of an audited ballot
audited-falls : (plan : Plan) (last ballot : ℕ) → is_later plan last ballot ≡ true
    → Falls plan (blocks_left plan last + results_left plan) (took (Begun ballot) (behind plan (due_audit plan ballot) (part.Ballots ballot)))
audited-falls plan last ballot later =
    let parts = and_parts (nat_lt last ballot) (nat_le ballot (ballots_of plan)) later in
    let few = due_audit-length plan ballot (omega (arith, ltb-true last ballot parts.0)) (leb-true ballot (ballots_of plan) parts.1) in
    begun-falls plan last ballot (due_audit plan ballot) (part.Ballots ballot) later (omega (arith, few))

after_block-falls : (plan : Plan) (last : ℕ) (said : Said) (t : Taken) → after_block plan last said ≡ Some t → Falls plan (blocks_left plan last + results_left plan) t
after_block-falls plan last (Cast ballot) t e =
    if_then-claim (λ x. Falls plan (blocks_left plan last + results_left plan) x) (is_later plan last ballot) (took (Begun ballot) (behind plan [] (part.Cast ballot 0 0))) t
    (λ later. begun-falls plan last ballot [] (part.Cast ballot 0 0) later (omega arith)) e
after_block-falls plan last (Spoiled ballot) t e =
    if_then-claim (λ x. Falls plan (blocks_left plan last + results_left plan) x) (is_later plan last ballot) (took (Begun ballot) (behind plan [] (part.Ballots ballot))) t
    (λ later. begun-falls plan last ballot [] (part.Ballots ballot) later (omega arith)) e
after_block-falls plan last (Audited ballot) t e =
    if_then-claim (λ x. Falls plan (blocks_left plan last + results_left plan) x) (is_later plan last ballot)
    (took (Begun ballot) (behind plan (due_audit plan ballot) (part.Ballots ballot))) t (audited-falls plan last ballot) e
after_block-falls plan last (Voided ballot) t e =
    if_then-claim (λ x. Falls plan (blocks_left plan last + results_left plan) x) (plan.version == 2 && is_later plan last ballot)
    (took (Begun ballot) (behind plan [] (part.Ballots ballot))) t
    (λ ok. begun-falls plan last ballot [] (part.Ballots ballot) (and_parts (plan.version == 2) (is_later plan last ballot) ok).1 (omega arith)) e
after_block-falls plan last said t e =
    falls-more plan (results_left plan) (blocks_left plan last + results_left plan) t (omega arith) (first_taken-falls plan (results plan) said t e)

-- what is left in the block of a ballot, and behind it
abbrev cast_left : Plan → ℕ → ℕ → ℕ → ℕ
cast_left plan ballot race column = block_left plan ballot race column + (blocks_left plan ballot + results_left plan)

in_cast-falls : (plan : Plan) (ballot race column : ℕ) (said : Said) (t : Taken) → in_cast plan ballot race column said ≡ Some t → Falls plan (cast_left plan ballot race column) t
in_cast-falls plan ballot race column said t e =
    cast-claim plan ballot race column said t (λ x. Falls plan (cast_left plan ballot race column) x)
    (λ follows. falls-more plan (blocks_left plan ballot + results_left plan) (cast_left plan ballot race column) t (omega arith) (after_block-falls plan ballot said t follows))
    (λ line. falls-took plan [] (part.Cast ballot line.next_race line.next_column) (cast_left plan ballot race column) line.placed (omega (arith, line.fewer))) e

-- a further dispute
dispute-falls : (plan : Plan) (count ballot race : ℕ) (placed : Placed) → HasSizes plan
    → (nat_lt count most_claims && (nat_lt race (length plan.races) && ballot_has plan ballot race)) ≡ true
    → Falls plan (disputes_left count) (took placed (behind plan (race_codes plan block.Dispute ballot race) (part.Disputes (count + 1))))
dispute-falls plan count ballot race placed sizes test =
    let parts = and_parts (nat_lt count most_claims) (nat_lt race (length plan.races) && ballot_has plan ballot race) test in
    let few = race_codes-length plan block.Dispute ballot race in
    falls-took plan (race_codes plan block.Dispute ballot race) (part.Disputes (count + 1)) (disputes_left count) placed
    (omega (arith, few, sizes.most_candidates race, ltb-true count most_claims parts.0))

after_dispute-falls : (plan : Plan) (count : ℕ) (said : Said) (t : Taken) → HasSizes plan → after_dispute plan count said ≡ Some t → Falls plan (disputes_left count) t
after_dispute-falls plan count (Dispute ballot race code word) t sizes e =
    if_then-claim (λ x. Falls plan (disputes_left count) x) (nat_lt count most_claims && (nat_lt race (length plan.races) && ballot_has plan ballot race))
    (took (Disputed ballot race code word) (behind plan (race_codes plan block.Dispute ballot race) (part.Disputes (count + 1)))) t
    (dispute-falls plan count ballot race (Disputed ballot race code word) sizes) e
after_dispute-falls plan count said t sizes e = cc

begins-falls : (plan : Plan) (may_begin : Part) (said : Said) (t : Taken) → HasSizes plan → begins plan may_begin said ≡ Some t → Falls plan (part_left plan may_begin) t
begins-falls plan (part.Ballots last) said t sizes e = after_block-falls plan last said t e
begins-falls plan (part.Cast ballot race column) said t sizes e = in_cast-falls plan ballot race column said t e
begins-falls plan (part.Disputes count) said t sizes e = after_dispute-falls plan count said t sizes e

pub body_line-falls : (plan : Plan) (due : List Slot) (may_begin : Part) (said : Said) (t : Taken) → HasSizes plan → body_line plan due may_begin said ≡ Some t
    → Falls plan (body_left plan due may_begin) t
body_line-falls plan (slot ∷ due) may_begin said t sizes e =
    taking-falls plan due may_begin (body_left plan (slot ∷ due) may_begin) (place slot said) t (omega arith) e
body_line-falls plan [] may_begin said t sizes e =
    falls-more plan (part_left plan may_begin) (body_left plan [] may_begin) t (omega arith) (begins-falls plan may_begin said t sizes e)

-- THE PLAN

-- what is left behind a line of the plan
abbrev making_left : Making → ℕ
making_left making = left_at making.plan making.head [] (part.Ballots 0)

version_line-falls : (plan : Plan) (said : Said) (m : Making) → head_line plan head.Version said ≡ Some m → making_left m < left_at plan head.Version [] (part.Ballots 0)
version_line-falls plan (Version version) m e =
    if_then-claim (λ x. making_left x < left_at plan head.Version [] (part.Ballots 0)) (is_version version) (made (with_version plan version) head.Election) m (λ ok. omega arith) e
version_line-falls plan said m e = cc

election_line-falls : (plan : Plan) (said : Said) (m : Making) → head_line plan head.Election said ≡ Some m → making_left m < left_at plan head.Election [] (part.Ballots 0)
election_line-falls plan (Election name) m e =
    if_then-claim (λ x. making_left x < left_at plan head.Election [] (part.Ballots 0)) (is_name_word name) (made (with_name plan name) head.Instances) m (λ ok. omega arith) e
election_line-falls plan said m e = cc

instances_line-falls : (plan : Plan) (said : Said) (m : Making) → head_line plan head.Instances said ≡ Some m → making_left m < left_at plan head.Instances [] (part.Ballots 0)
instances_line-falls plan (Instances instances) m e =
    if_then-claim (λ x. making_left x < left_at plan head.Instances [] (part.Ballots 0)) (is_within 1 most_instances instances) (made (with_instances plan instances) head.Races) m (λ ok. omega arith) e
instances_line-falls plan said m e = cc

take_style-falls : (plan : Plan) (said : Said) (m : Making) → take_style plan said ≡ Some m → making_left m < left_at plan head.Styles [] (part.Ballots 0)
take_style-falls plan (Style name races) m e =
    if_then-claim (λ x. making_left x < left_at plan head.Styles [] (part.Ballots 0))
    (nat_lt (length plan.styles) most_styles && style_keeps (length plan.races) plan.styles (record { name = name; races = races })) (made (with_style plan name races) head.Styles) m
    (λ ok. let parts = and_parts (nat_lt (length plan.styles) most_styles) (style_keeps (length plan.races) plan.styles (record { name = name; races = races })) ok in
    omega (arith, ltb-true (length plan.styles) most_styles parts.0, length-append plan.styles (record { name = name; races = races } ∷ []))) e
take_style-falls plan said m e = cc

-- a race that keeps its limits has at most 16 candidates
few_candidates : (earlier : List PlanRace) (name : List ℕ) (candidates votes : ℕ) → race_head_keeps earlier name candidates votes ≡ true → candidates ≤ 16
few_candidates earlier name candidates votes ok =
    let parts = and_parts (is_name_word name && not (races_have earlier name)) (is_within 2 16 candidates && is_within 1 candidates votes) ok in
    (is_within-true 2 16 candidates (and_parts (is_within 2 16 candidates) (is_within 1 candidates votes) parts.1).0).1

race_line-falls : (plan : Plan) (said : Said) (m : Making) → head_line plan head.Races said ≡ Some m → making_left m < left_at plan head.Races [] (part.Ballots 0)
race_line-falls plan (Race name candidates votes) m e =
    if_then-claim (λ x. making_left x < left_at plan head.Races [] (part.Ballots 0))
    (nat_lt (length plan.races) most_races && race_head_keeps plan.races name candidates votes) (made (with_race plan name votes) (head.Candidates candidates)) m
    (λ ok. let parts = and_parts (nat_lt (length plan.races) most_races) (race_head_keeps plan.races name candidates votes) ok in
    omega (
      arith,
      ltb-true (length plan.races) most_races parts.0,
      few_candidates plan.races name candidates votes parts.1,
      length-append plan.races (record { name = name; candidates = []; votes = votes } ∷ []),
    )) e
race_line-falls plan (Style name races) m e =
    omega (arith, take_style-falls plan (Style name races) m (cond_some-then (nat_lt 0 (length plan.races)) (take_style plan (Style name races)) m e))
race_line-falls plan said m e = cc

candidate_line-falls : (left : ℕ) (plan : Plan) (said : Said) (m : Making) → 1 ≤ left → head_line plan (head.Candidates left) said ≡ Some m
    → making_left m < left_at plan (head.Candidates left) [] (part.Ballots 0)
candidate_line-falls left plan (Cand name) m some e =
    if_then-claim (λ x. making_left x < left_at plan (head.Candidates left) [] (part.Ballots 0)) (name_keeps (last_candidates plan.races) name) (made (with_cand plan name) (behind_candidate left)) m
    (λ ok. elim (cases_eq left 1) [
      | inl one ↦ rw (eq-eqb left 1 one) (omega (arith, length-with_candidate plan.races name))
      | inr more ↦ rw (ne_eqb left 1 more) (omega (arith, length-with_candidate plan.races name))
    ]) e
candidate_line-falls left plan said m some e = cc

take_run-falls : (plan : Plan) (said : Said) (m : Making) → take_run plan said ≡ Some m → making_left m < left_at plan head.Runs [] (part.Ballots 0)
take_run-falls plan (Ballots style count) m e =
    if_then-claim (λ x. making_left x < left_at plan head.Runs [] (part.Ballots 0))
    (run_keeps (length plan.styles) plan.runs (record { style = style; count = count }) && nat_le (r_rows (with_run plan style count)) 200000) (made (with_run plan style count) head.Runs) m
    (λ ok. let run = run_keeps-true (length plan.styles) plan.runs (record { style = style; count = count })
    (and_parts (run_keeps (length plan.styles) plan.runs (record { style = style; count = count })) (nat_le (r_rows (with_run plan style count)) 200000) ok).0 in
    omega (arith, run.some, run.most, count-push plan.runs (record { style = style; count = count }))) e
take_run-falls plan said m e = cc

later_style_line-falls : (plan : Plan) (said : Said) (m : Making) → head_line plan head.Styles said ≡ Some m → making_left m < left_at plan head.Styles [] (part.Ballots 0)
later_style_line-falls plan (Style name races) m e = take_style-falls plan (Style name races) m e
later_style_line-falls plan said m e = omega (arith, take_run-falls plan said m e)

pub head_line-falls : (plan : Plan) (stage : Head) (said : Said) (m : Making) (due : List Slot) (may_begin : Part) → IsMade plan stage → head_line plan stage said ≡ Some m
    → making_left m < left_at plan stage due may_begin
head_line-falls plan head.Version said m due may_begin kept e = version_line-falls plan said m e
head_line-falls plan head.Election said m due may_begin kept e = election_line-falls plan said m e
head_line-falls plan head.Instances said m due may_begin kept e = instances_line-falls plan said m e
head_line-falls plan head.Races said m due may_begin kept e = race_line-falls plan said m e
head_line-falls plan (head.Candidates left) said m due may_begin kept e = candidate_line-falls left plan said m kept.stands.1.some e
head_line-falls plan head.Styles said m due may_begin kept e = later_style_line-falls plan said m e
head_line-falls plan head.Runs said m due may_begin kept e = take_run-falls plan said m e
head_line-falls plan head.Whole said m due may_begin kept e = cc

-- THE WALK

in_head-falls : (plan : Plan) (stage : Head) (due : List Slot) (may_begin : Part) (said : Said) (t : Taken) → IsMade plan stage → in_head plan stage said ≡ Some t
    → lines_left t.next < left_at plan stage due may_begin
unfolding lines_left
in_head-falls plan stage due may_begin said t kept e =
    let from = option_map-some (headed said) (head_line plan stage said) t e in
    let less = stage_falls from.0 (head_line-falls plan stage said from.0 due may_begin kept from.1) in
    subst (λ (x : Taken). lines_left x.next < left_at plan stage due may_begin) from.2 less
  where
    stage_falls : (m : Making) → making_left m < left_at plan stage due may_begin → lines_left (headed said m).next < left_at plan stage due may_begin
    stage_falls m less = less

-- the commitments, the blocks and all behind them
body_few : (plan : Plan) → HasSizes plan → body_left plan (commits plan) (part.Ballots 0) ≤ most_lines
body_few plan sizes = omega (arith, commits-length plan sizes, results-length plan sizes, blocks-length plan sizes)

after_run-falls : (plan : Plan) (due : List Slot) (may_begin : Part) (said : Said) (t : Taken) → IsMade plan head.Runs → after_run plan said ≡ Some t
    → lines_left t.next < left_at plan head.Runs due may_begin
after_run-falls plan due may_begin (Ballots style count) t kept e = in_head-falls plan head.Runs due may_begin (Ballots style count) t kept e
after_run-falls plan due may_begin said t kept e =
    let sizes = complete-sizes plan kept.stands in
    omega (arith, (body_line-falls plan (commits plan) (part.Ballots 0) said t sizes e).less, body_few plan sizes)

take_at-falls : (plan : Plan) (stage : Head) (due : List Slot) (may_begin : Part) (said : Said) (t : Taken) → IsMade plan stage → take_at plan stage due may_begin said ≡ Some t
    → lines_left t.next < left_at plan stage due may_begin
take_at-falls plan head.Whole due may_begin said t kept e = (body_line-falls plan due may_begin said t (complete-sizes plan kept.stands) e).less
take_at-falls plan head.Runs due may_begin said t kept e = after_run-falls plan due may_begin said t kept e
take_at-falls plan stage due may_begin said t kept e = in_head-falls plan stage due may_begin said t kept e

-- each line taken leaves fewer lines to come
pub take_line-falls : (next : Next) (said : Said) (t : Taken) → IsMade next.plan next.head → take_line next said ≡ Some t → lines_left t.next < lines_left next
unfolding lines_left take_line
take_line-falls next said t kept e = take_at-falls next.plan next.head next.due next.part said t kept e

-- WHAT HOLDS OF THE PLAN GOES ON

behind-made : (plan : Plan) (most : ℕ) (t : Taken) → IsComplete plan → Falls plan most t → IsMade t.next.plan t.next.head
behind-made plan most t whole falls = rw (falls.plan_stays, falls.whole) (record { stands = whole })

in_head-made : (plan : Plan) (stage : Head) (said : Said) (t : Taken) → IsMade plan stage → in_head plan stage said ≡ Some t → IsMade t.next.plan t.next.head
in_head-made plan stage said t kept e =
    let from = option_map-some (headed said) (head_line plan stage said) t e in
    subst (λ (x : Taken). IsMade x.next.plan x.next.head) from.2 (made-line plan stage said from.0 kept from.1)

after_run-made : (plan : Plan) (said : Said) (t : Taken) → IsMade plan head.Runs → after_run plan said ≡ Some t → IsMade t.next.plan t.next.head
after_run-made plan (Ballots style count) t kept e = in_head-made plan head.Runs (Ballots style count) t kept e
after_run-made plan said t kept e =
    behind-made plan (body_left plan (commits plan) (part.Ballots 0)) t kept.stands (body_line-falls plan (commits plan) (part.Ballots 0) said t (complete-sizes plan kept.stands) e)

take_at-made : (plan : Plan) (stage : Head) (due : List Slot) (may_begin : Part) (said : Said) (t : Taken) → IsMade plan stage → take_at plan stage due may_begin said ≡ Some t
    → IsMade t.next.plan t.next.head
take_at-made plan head.Whole due may_begin said t kept e =
    behind-made plan (body_left plan due may_begin) t kept.stands (body_line-falls plan due may_begin said t (complete-sizes plan kept.stands) e)
take_at-made plan head.Runs due may_begin said t kept e = after_run-made plan said t kept e
take_at-made plan stage due may_begin said t kept e = in_head-made plan stage said t kept e

-- what holds of the plan in the making holds of it behind each line taken
pub take_line-made : (next : Next) (said : Said) (t : Taken) → IsMade next.plan next.head → take_line next said ≡ Some t → IsMade t.next.plan t.next.head
unfolding take_line
take_line-made next said t kept e = take_at-made next.plan next.head next.due next.part said t kept e

-- THE WALK

-- what holds of the plan in the making holds of it behind a walk
pub walk-made : (next : Next) (lines : List (List ℕ)) (w : Walked) → IsMade next.plan next.head → walk next lines ≡ Some w → IsMade w.next.plan w.next.head
walk-made next [] w kept e = rw (walk-none next w e) kept
walk-made next (bytes ∷ lines) w kept e =
    let on = walk-first next bytes lines w e in
    let line = take_bytes-line next bytes on.taken on.first in
    let rest = walk-made on.taken.next lines on.rest (take_line-made next line.0 on.taken kept line.2) on.others in
    subst (λ (x : Walked). IsMade x.next.plan x.next.head) on.is rest

-- all lines of a walk, and those that may still come, were to come at its start
pub walk-length : (next : Next) (lines : List (List ℕ)) (w : Walked) → IsMade next.plan next.head → walk next lines ≡ Some w → length lines + lines_left w.next ≤ lines_left next
walk-length next [] w kept e = rw (walk-none next w e) (omega arith)
walk-length next (bytes ∷ lines) w kept e =
    let on = walk-first next bytes lines w e in
    let line = take_bytes-line next bytes on.taken on.first in
    let rest = walk-length on.taken.next lines on.rest (take_line-made next line.0 on.taken kept line.2) on.others in
    let same : lines_left w.next ≡ lines_left on.rest.next = ap (λ (x : Walked). lines_left x.next) (sym on.is) in
    omega (arith, rest, same, take_line-falls next line.0 on.taken kept line.2)

-- from the first line on there are few
pub lines_left-most : lines_left start ≤ 1200000
unfolding lines_left
lines_left-most = omega arith

-- the same of a walk from the first line on
pub start-length : (lines : List (List ℕ)) (w : Walked) → walk start lines ≡ Some w → length lines + lines_left w.next ≤ lines_left start
start-length lines w e = walk-length start lines w made-start e

-- what holds of the plan in the making holds behind each walk
pub start-made : (lines : List (List ℕ)) (w : Walked) → walk start lines ≡ Some w → IsMade w.next.plan w.next.head
start-made lines w e = walk-made start lines w made-start e

-- a record has at most 1,200,000 lines
pub most_lines_stand : (lines : List (List ℕ)) (w : Walked) → walk start lines ≡ Some w → length lines ≤ 1200000
most_lines_stand lines w e = omega (arith, start-length lines w e, lines_left-most)
