-- Behind each line of a front the plan is one in the making, and each slot that is due can be filled.
use Rattle.std.proofs.Common.{◌≡◌, ℕ, ◌+◌, ◌==◌, nat_lt, ◌&&◌, List, [], ◌∷◌, length, Some, sym, subst}
use Rattle.std.proofs.lemmas.Bool.{and_parts, ltb-true}
use Rattle.sg_lists.proofs.Options.{option_map-some}
use Rattle.sg_plan.specs.Ballots.{ballot_has}
use Rattle.sg_plan.specs.Limits.{most_claims}
use Rattle.sg_plan.specs.declared.plan.Plan.{Plan}
use Rattle.sg_forms.specs.Said.{Said}
use Rattle.sg_forms.specs.Said.Said.{Audited, Ballots, Cast, Dispute, Spoiled, Voided}
use Rattle.sg_grammar.proofs.CastLines.{cast-claim}
use Rattle.sg_grammar.proofs.Claims.{if_then-claim}
use Rattle.sg_grammar.proofs.FirstLines.{take_bytes-line, walk-first, walk-none}
use Rattle.sg_grammar.proofs.Making.{complete-sizes, made-line, made-start}
use Rattle.sg_grammar.specs.Due.{commits, due_audit, race_codes, results}
use Rattle.sg_grammar.specs.Head.{head_line}
use Rattle.sg_grammar.specs.Made.{IsComplete, IsMade}
use Rattle.sg_grammar.specs.Placed.{Placed}
use Rattle.sg_grammar.specs.Placed.Placed.{Begun, Disputed}
use Rattle.sg_grammar.specs.Walk.{Next, Taken, Walked, after_block, after_dispute, after_run, begins, behind, body_line, first_taken, headed, in_cast, in_head, is_later, place, start, take_at, take_line, took, walk}
use Rattle.sg_grammar.specs.declared.state.Block.TheVariants as block
use Rattle.sg_grammar.specs.declared.state.Head.{Head}
use Rattle.sg_grammar.specs.declared.state.Head.TheVariants as head
use Rattle.sg_grammar.specs.declared.state.Part.{Part}
use Rattle.sg_grammar.specs.declared.state.Part.TheVariants as part
use Rattle.sg_grammar.specs.declared.state.Slot.{Slot}
use Rattle.sg_fronts.proofs.Filled.{CanFillAll, audit-fill, codes-fill, commits-fill, results-fill}

-- what holds of a state that a front leads to
pub record CanStand (next : Next) : Type 0 where
  pub made : IsMade next.plan next.head
  pub fill : CanFillAll next.due

-- the same of the state behind a line
abbrev Leads : Taken → Type 0
Leads t = CanStand t.next

-- before the first line
stand-start : CanStand start
stand-start = record { made = made-start; fill = tt }

-- behind the plan
stand-behind : (plan : Plan) (due : List Slot) (may_begin : Part) → IsComplete plan → CanFillAll due → CanStand (behind plan due may_begin)
stand-behind plan due may_begin whole fill = record { made = record { stands = whole }; fill = fill }

-- ONE LINE

-- the first line of the results
first-stands : (plan : Plan) (slots : List Slot) (said : Said) (t : Taken) → IsComplete plan → CanFillAll slots → first_taken plan slots said ≡ Some t → Leads t
first-stands plan [] said t whole fill e = cc
first-stands plan (s ∷ due) said t whole fill e =
    let from = option_map-some (λ (x : Placed). took x (behind plan due (part.Disputes 0))) (place s said) t e in
    subst Leads from.2 (stand-behind plan due (part.Disputes 0) whole fill.1)

-- a line that begins a block, or the results
block-stands : (plan : Plan) (last : ℕ) (said : Said) (t : Taken) → IsComplete plan → after_block plan last said ≡ Some t → Leads t
block-stands plan last (Cast ballot) t whole e =
    if_then-claim Leads (is_later plan last ballot) (took (Begun ballot) (behind plan [] (part.Cast ballot 0 0))) t (λ _. stand-behind plan [] (part.Cast ballot 0 0) whole tt) e
block-stands plan last (Spoiled ballot) t whole e =
    if_then-claim Leads (is_later plan last ballot) (took (Begun ballot) (behind plan [] (part.Ballots ballot))) t (λ _. stand-behind plan [] (part.Ballots ballot) whole tt) e
block-stands plan last (Audited ballot) t whole e =
    if_then-claim Leads (is_later plan last ballot) (took (Begun ballot) (behind plan (due_audit plan ballot) (part.Ballots ballot))) t
    (λ _. stand-behind plan (due_audit plan ballot) (part.Ballots ballot) whole (audit-fill plan ballot (complete-sizes plan whole))) e
block-stands plan last (Voided ballot) t whole e =
    if_then-claim Leads (plan.version == 2 && is_later plan last ballot) (took (Begun ballot) (behind plan [] (part.Ballots ballot))) t
    (λ _. stand-behind plan [] (part.Ballots ballot) whole tt) e
block-stands plan last said t whole e = first-stands plan (results plan) said t whole (results-fill plan (complete-sizes plan whole)) e

-- a line in the block of a cast ballot
cast-stands : (plan : Plan) (ballot race column : ℕ) (said : Said) (t : Taken) → IsComplete plan → in_cast plan ballot race column said ≡ Some t → Leads t
cast-stands plan ballot race column said t whole e =
    cast-claim plan ballot race column said t Leads (block-stands plan ballot said t whole)
    (λ line. stand-behind plan [] (part.Cast ballot line.next_race line.next_column) whole tt) e

-- a dispute
dispute-stands : (plan : Plan) (count : ℕ) (said : Said) (t : Taken) → IsComplete plan → after_dispute plan count said ≡ Some t → Leads t
dispute-stands plan count (Dispute ballot race code word) t whole e =
    if_then-claim Leads (nat_lt count most_claims && (nat_lt race (length plan.races) && ballot_has plan ballot race))
    (took (Disputed ballot race code word) (behind plan (race_codes plan block.Dispute ballot race) (part.Disputes (count + 1)))) t
    (λ ok.
    let parts = and_parts (nat_lt race (length plan.races)) (ballot_has plan ballot race) (and_parts (nat_lt count most_claims) (nat_lt race (length plan.races) && ballot_has plan ballot race) ok).1 in
    let within = ltb-true race (length plan.races) parts.0 in
    stand-behind plan (race_codes plan block.Dispute ballot race) (part.Disputes (count + 1)) whole (codes-fill plan block.Dispute ballot race (complete-sizes plan whole) within)) e
dispute-stands plan count said t whole e = cc

-- a line where none is due
begin-stands : (plan : Plan) (may_begin : Part) (said : Said) (t : Taken) → IsComplete plan → begins plan may_begin said ≡ Some t → Leads t
begin-stands plan (part.Ballots last) said t whole e = block-stands plan last said t whole e
begin-stands plan (part.Cast ballot race column) said t whole e = cast-stands plan ballot race column said t whole e
begin-stands plan (part.Disputes count) said t whole e = dispute-stands plan count said t whole e

-- a line behind the plan
body-stands : (plan : Plan) (due : List Slot) (may_begin : Part) (said : Said) (t : Taken) → IsComplete plan → CanFillAll due → body_line plan due may_begin said ≡ Some t → Leads t
body-stands plan [] may_begin said t whole fill e = begin-stands plan may_begin said t whole e
body-stands plan (s ∷ due) may_begin said t whole fill e =
    let from = option_map-some (λ (x : Placed). took x (behind plan due may_begin)) (place s said) t e in
    subst Leads from.2 (stand-behind plan due may_begin whole fill.1)

-- a line of the plan
head-stands : (plan : Plan) (stage : Head) (said : Said) (t : Taken) → IsMade plan stage → in_head plan stage said ≡ Some t → Leads t
head-stands plan stage said t kept e =
    let from = option_map-some (headed said) (head_line plan stage said) t e in
    subst Leads from.2 (record { made = made-line plan stage said from.0 kept from.1; fill = tt })

-- a line behind a run
run-stands : (plan : Plan) (said : Said) (t : Taken) → IsMade plan head.Runs → after_run plan said ≡ Some t → Leads t
run-stands plan (Ballots style count) t kept e = head-stands plan head.Runs (Ballots style count) t kept e
run-stands plan said t kept e = body-stands plan (commits plan) (part.Ballots 0) said t kept.stands (commits-fill plan (complete-sizes plan kept.stands)) e

-- any line
at-stands : (plan : Plan) (stage : Head) (due : List Slot) (may_begin : Part) (said : Said) (t : Taken) → IsMade plan stage → CanFillAll due → take_at plan stage due may_begin said ≡ Some t → Leads t
at-stands plan head.Whole due may_begin said t kept fill e = body-stands plan due may_begin said t kept.stands fill e
at-stands plan head.Runs due may_begin said t kept fill e = run-stands plan said t kept e
at-stands plan stage due may_begin said t kept fill e = head-stands plan stage said t kept e

-- any line that may stand next
line-stands : (next : Next) (said : Said) (t : Taken) → CanStand next → take_line next said ≡ Some t → Leads t
unfolding take_line
line-stands next said t can e = at-stands next.plan next.head next.due next.part said t can.made can.fill e

-- THE WALK

-- some lines
walk-stands : (next : Next) (lines : List (List ℕ)) (w : Walked) → CanStand next → walk next lines ≡ Some w → CanStand w.next
walk-stands next [] w can e = subst CanStand (sym (walk-none next w e)) can
walk-stands next (bytes ∷ lines) w can e =
    let on = walk-first next bytes lines w e in
    let line = take_bytes-line next bytes on.taken on.first in
    subst (λ (x : Walked). CanStand x.next) on.is (walk-stands on.taken.next lines on.rest (line-stands next line.0 on.taken can line.2) on.others)

-- the lines of a front
pub front-stands : (lines : List (List ℕ)) (w : Walked) → walk start lines ≡ Some w → CanStand w.next
front-stands lines w e = walk-stands start lines w stand-start e
