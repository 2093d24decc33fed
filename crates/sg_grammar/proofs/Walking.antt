-- A walk, one line at a time.
use Rattle.std.proofs.Common.{◌≡◌, ℕ, ◌+◌, ◌==◌, ◌&&◌, nat_lt, cond, true, false, List, [], ◌∷◌, ◌++◌, length, Option, Some, None, IfSome, refl, sym, subst, ap, ◌∙◌}
use Rattle.std.specs.Option.{is_some, option_map}
use Rattle.std.specs.Prelude.{IsSome, option_and_then}
use Rattle.std.proofs.lemmas.Option.{cond_some, none-some, same_Some}
use Rattle.sg_lists.proofs.Options.{is_some-true, option_and_then-some}
use Rattle.sg_plan.specs.Ballots.{ballot_has}
use Rattle.sg_plan.specs.Limits.{fault_of, most_claims}
use Rattle.sg_plan.specs.declared.plan.Plan.{Plan}
use Rattle.sg_forms.specs.Reading.{line_of}
use Rattle.sg_forms.specs.Said.{Said}
use Rattle.sg_forms.specs.Said.Said.{Audited, Ballots, Cast, Dispute, Spoiled, Voided}
use Rattle.sg_grammar.proofs.CastLines.{cast-claim}
use Rattle.sg_grammar.proofs.FirstLines.{walk-first}
use Rattle.sg_grammar.proofs.Making.{complete-sizes, runs-fault, whole-fault}
use Rattle.sg_grammar.proofs.PlanCounts.{some_value}
use Rattle.sg_grammar.proofs.DueLines.{if_then_claim}
use Rattle.sg_grammar.specs.Due.{due_audit, commits, race_codes, results}
use Rattle.sg_grammar.specs.Head.{Making, has_runs, head_line, take_run}
use Rattle.sg_grammar.specs.Made.{HasSizes, IsMade}
use Rattle.sg_grammar.specs.Placed.{Placed}
use Rattle.sg_grammar.specs.Placed.Placed.{Begun, Disputed}
use Rattle.sg_grammar.specs.Walk.{Next, Taken, Walked, after_block, after_dispute, after_run, begins, behind, body_line, first_taken, headed, in_cast, in_head, is_later, place, read_next, take_at, take_bytes, take_line, taking, took, walk, walked_on}
use Rattle.sg_grammar.specs.declared.state.Block.TheVariants as block
use Rattle.sg_grammar.specs.declared.state.Head.{Head}
use Rattle.sg_grammar.specs.declared.state.Head.TheVariants as head
use Rattle.sg_grammar.specs.declared.state.Part.{Part}
use Rattle.sg_grammar.specs.declared.state.Part.TheVariants as part
use Rattle.sg_grammar.specs.declared.state.Slot.{Slot}

-- THE SIZES OF A PLAN

pub sizes_runs : (plan : Plan) → IsMade plan head.Runs → HasSizes plan
sizes_runs plan kept = complete-sizes plan kept.stands

pub sizes_whole : (plan : Plan) → IsMade plan head.Whole → HasSizes plan
sizes_whole plan kept = complete-sizes plan kept.stands

-- A LINE OF THE PLAN

run_taken : (plan : Plan) (said : Said) (making : Making) → take_run plan said ≡ Some making → after_run plan said ≡ Some (headed said making)
run_taken plan (Ballots style count) making e = ap (option_map (headed (Ballots style count))) e
run_taken plan said making e = cc

-- a line of the plan that may stand is taken into it
pub take_at-head : (plan : Plan) (stage : Head) (due : List Slot) (may_begin : Part) (said : Said) (making : Making) → head_line plan stage said ≡ Some making → take_at plan stage due may_begin said ≡ Some (headed said making)
take_at-head plan head.Whole due may_begin said making e = cc
take_at-head plan head.Runs due may_begin said making e = run_taken plan said making e
take_at-head plan stage due may_begin said making e = ap (option_map (headed said)) e

-- before the last of the plan's lines no other line may stand
pub take_at-none : (plan : Plan) (stage : Head) (due : List Slot) (may_begin : Part) (said : Said) → head_line plan stage said ≡ None → in_head plan stage said ≡ None
take_at-none plan stage due may_begin said e = ap (option_map (headed said)) e

pub run_none : (plan : Plan) (style count : ℕ) → head_line plan head.Runs (Ballots style count) ≡ None → after_run plan (Ballots style count) ≡ None
run_none plan style count e = ap (option_map (headed (Ballots style count))) e

pub ruleset behind_runs = (run_none)

pub ruleset sizes = (sizes_runs, sizes_whole, take_at-none)

-- THE STEPS OF THE PROGRAM

-- a line of the plan may stand among those of the plan
pub taken_in_head : (next : Next) (said : Said) → is_some (head_line next.plan next.head said) ≡ true → is_some (take_line next said) ≡ true
unfolding take_line
taken_in_head next said e =
    let there = is_some-true (head_line next.plan next.head said) e in
    ap is_some (take_at-head next.plan next.head next.due next.part said there.0 there.1)

-- another line may stand where it is taken
pub taken_behind : (next : Next) (said : Said) (found : Option Taken) → found ≡ take_at next.plan next.head next.due next.part said → is_some (take_line next said) ≡ is_some found
unfolding take_line
taken_behind next said found e = ap is_some (sym e)

-- the step of a line of the plan
pub stepped_in_head : (next : Next) (said : Said) (making : Making) → head_line next.plan next.head said ≡ Some making → option_map (λ (t : Taken). t.next) (take_line next said) ≡ Some (record { plan = making.plan; head = making.head; due = []; part = part.Ballots 0 })
unfolding take_line
stepped_in_head next said making e = ap (option_map (λ (t : Taken). t.next)) (take_at-head next.plan next.head next.due next.part said making e)

-- a line that may stand is taken
pub not_taken : (next : Next) (said : Said) → IsSome (take_line next said) → None ≡ take_at next.plan next.head next.due next.part said → ⊥
unfolding take_line
not_taken next said some e = let there = some_value (take_at next.plan next.head next.due next.part said) some in none-some there.0 (e ∙ there.1)

-- a plan with a run keeps its limits
pub plan_keeps : (plan : Plan) (stage : Head) → IsMade plan stage → has_runs stage ≡ true → fault_of plan ≡ None
plan_keeps plan head.Runs kept e = runs-fault plan kept
plan_keeps plan head.Whole kept e = whole-fault plan kept
plan_keeps plan stage kept e = cc

-- THE PLAN STAYS BEHIND ITS LINES

-- the plan is this one, and a line behind it stands
abbrev IsBehind : Plan → Taken → Type 0
IsBehind plan t = (t.next.plan ≡ plan) × (t.next.head ≡ head.Whole)

taking_behind : (plan : Plan) (due : List Slot) (may_begin : Part) (placed : Option Placed) → IfSome (taking plan due may_begin placed) (IsBehind plan)
taking_behind plan due may_begin None = tt
taking_behind plan due may_begin (Some placed) = (refl, refl)

first_behind : (plan : Plan) (due : List Slot) (said : Said) → IfSome (first_taken plan due said) (IsBehind plan)
first_behind plan [] said = tt
first_behind plan (slot ∷ due) said = taking_behind plan due (part.Disputes 0) (place slot said)

block_behind : (plan : Plan) (last : ℕ) (said : Said) → IfSome (after_block plan last said) (IsBehind plan)
block_behind plan last (Cast ballot) = if_then_claim (IsBehind plan) (is_later plan last ballot) (took (Begun ballot) (behind plan [] (part.Cast ballot 0 0))) (λ _. (refl, refl))
block_behind plan last (Spoiled ballot) = if_then_claim (IsBehind plan) (is_later plan last ballot) (took (Begun ballot) (behind plan [] (part.Ballots ballot))) (λ _. (refl, refl))
block_behind plan last (Audited ballot) = if_then_claim (IsBehind plan) (is_later plan last ballot) (took (Begun ballot) (behind plan (due_audit plan ballot) (part.Ballots ballot))) (λ _. (refl, refl))
block_behind plan last (Voided ballot) = if_then_claim (IsBehind plan) (plan.version == 2 && is_later plan last ballot) (took (Begun ballot) (behind plan [] (part.Ballots ballot))) (λ _. (refl, refl))
block_behind plan last said = first_behind plan (results plan) said

-- what holds of each line that is taken holds of the one that may be
each_taken : (o : Option Taken) (C : Taken → Type 0) → ((t : Taken) → o ≡ Some t → C t) → IfSome o C
each_taken None C each = tt
each_taken (Some t) C each = each t refl

of_taken : (o : Option Taken) (C : Taken → Type 0) (t : Taken) → IfSome o C → o ≡ Some t → C t
of_taken None C t holds e = cc
of_taken (Some x) C t holds e = subst C (same_Some x t e) holds

cast_behind : (plan : Plan) (ballot race column : ℕ) (said : Said) → IfSome (in_cast plan ballot race column said) (IsBehind plan)
cast_behind plan ballot race column said =
    each_taken (in_cast plan ballot race column said) (IsBehind plan) (λ t e.
    cast-claim plan ballot race column said t (IsBehind plan) (λ follows. of_taken (after_block plan ballot said) (IsBehind plan) t (block_behind plan ballot said) follows) (λ line. (refl, refl)) e)

dispute_behind : (plan : Plan) (count : ℕ) (said : Said) → IfSome (after_dispute plan count said) (IsBehind plan)
dispute_behind plan count (Dispute ballot race code word) = if_then_claim (IsBehind plan) (nat_lt count most_claims && (nat_lt race (length plan.races) && ballot_has plan ballot race)) (took (Disputed ballot race code word) (behind plan (race_codes plan block.Dispute ballot race) (part.Disputes (count + 1)))) (λ _. (refl, refl))
dispute_behind plan count said = tt

begins_behind : (plan : Plan) (may_begin : Part) (said : Said) → IfSome (begins plan may_begin said) (IsBehind plan)
begins_behind plan (part.Ballots last) said = block_behind plan last said
begins_behind plan (part.Cast ballot race column) said = cast_behind plan ballot race column said
begins_behind plan (part.Disputes count) said = dispute_behind plan count said

body_behind : (plan : Plan) (due : List Slot) (may_begin : Part) (said : Said) → IfSome (body_line plan due may_begin said) (IsBehind plan)
body_behind plan [] may_begin said = begins_behind plan may_begin said
body_behind plan (slot ∷ due) may_begin said = taking_behind plan due may_begin (place slot said)

in_head_behind : (plan : Plan) (stage : Head) (said : Said) → head_line plan stage said ≡ None → IfSome (in_head plan stage said) (IsBehind plan)
in_head_behind plan stage said none = subst (λ (o : Option Making). IfSome (option_map (headed said) o) (IsBehind plan)) (sym none) tt

run_behind : (plan : Plan) (said : Said) → head_line plan head.Runs said ≡ None → IfSome (after_run plan said) (IsBehind plan)
run_behind plan (Ballots style count) none = in_head_behind plan head.Runs (Ballots style count) none
run_behind plan said none = body_behind plan (commits plan) (part.Ballots 0) said

at_behind : (plan : Plan) (stage : Head) (due : List Slot) (may_begin : Part) (said : Said) → head_line plan stage said ≡ None → IfSome (take_at plan stage due may_begin said) (IsBehind plan)
at_behind plan head.Whole due may_begin said none = body_behind plan due may_begin said
at_behind plan head.Runs due may_begin said none = run_behind plan said none
at_behind plan stage due may_begin said none = in_head_behind plan stage said none

-- a line that is none of the plan leaves it as it is
pub take_line-behind : (next : Next) (said : Said) (t : Taken) → head_line next.plan next.head said ≡ None → take_line next said ≡ Some t → (t.next.plan ≡ next.plan) × (t.next.head ≡ head.Whole)
unfolding take_line
take_line-behind next said t none e = subst (λ (o : Option Taken). IfSome o (IsBehind next.plan)) e (at_behind next.plan next.head next.due next.part said none)

-- behind the plan's last line the plan stays
pub take_line-plan : (next : Next) (said : Said) (t : Taken) → next.head ≡ head.Whole → take_line next said ≡ Some t → (t.next.plan ≡ next.plan) × (t.next.head ≡ head.Whole)
take_line-plan next said t whole e = take_line-behind next said t (ap (λ stage. head_line next.plan stage said) whole) e

-- a line of the plan that may stand is taken into the plan
pub take_line-head : (next : Next) (said : Said) (making : Making) → head_line next.plan next.head said ≡ Some making → take_line next said ≡ Some (headed said making)
unfolding take_line
take_line-head next said making e = take_at-head next.plan next.head next.due next.part said making e

-- LINES AND THEIR BYTES

-- the line that is read is the one spelled, and may stand next
pub read_next-some : (next : Next) (bytes : List ℕ) (said : Said) → read_next next bytes ≡ Some said → (line_of next.plan.version bytes ≡ Some said) × IsSome (take_line next said)
unfolding read_next
read_next-some next bytes said e =
    let there = option_and_then-some (λ (s : Said). cond (is_some (take_line next s)) (Some s) None) (line_of next.plan.version bytes) said e in
    let parts = cond_some (is_some (take_line next there.0)) there.0 said there.2 in
    (there.1 ∙ ap (λ s. Some s) parts.1, subst (λ (s : Said). IsSome (take_line next s)) parts.1 parts.0)

-- a line of these bytes that may stand next is read
pub read_next-line : (next : Next) (bytes : List ℕ) (said : Said) → line_of next.plan.version bytes ≡ Some said → IsSome (take_line next said) → read_next next bytes ≡ Some said
unfolding read_next
read_next-line next bytes said e some =
    ap (option_and_then (λ (s : Said). cond (is_some (take_line next s)) (Some s) None)) e ∙ ap (λ b. cond b (Some said) None) some

-- bytes of no line are not read
pub read_next-no_line : (next : Next) (bytes : List ℕ) → line_of next.plan.version bytes ≡ None → read_next next bytes ≡ None
unfolding read_next
read_next-no_line next bytes e = ap (option_and_then (λ (s : Said). cond (is_some (take_line next s)) (Some s) None)) e

-- nor are those of a line that may not stand next
pub read_next-not_taken : (next : Next) (bytes : List ℕ) (said : Said) → line_of next.plan.version bytes ≡ Some said → is_some (take_line next said) ≡ false → read_next next bytes ≡ None
unfolding read_next
read_next-not_taken next bytes said e none =
    ap (option_and_then (λ (s : Said). cond (is_some (take_line next s)) (Some s) None)) e ∙ ap (λ b. cond b (Some said) None) none

-- bytes that are read as a line are taken as that line is
pub take_bytes-read : (next : Next) (bytes : List ℕ) (said : Said) → read_next next bytes ≡ Some said → take_bytes next bytes ≡ take_line next said
unfolding take_bytes
take_bytes-read next bytes said e = ap (option_and_then (take_line next)) (read_next-some next bytes said e).0

-- and bytes that aren't are not taken
pub take_bytes-not_read : (next : Next) (bytes : List ℕ) → read_next next bytes ≡ None → take_bytes next bytes ≡ None
unfolding take_bytes read_next
take_bytes-not_read next bytes e = none_taken (line_of next.plan.version bytes) e
  where
    when_none : (s : Said) (o : Option Taken) → cond (is_some o) (Some s) None ≡ None → o ≡ None
    when_none s None d = refl
    when_none s (Some t) d = cc

    none_taken : (o : Option Said) → option_and_then (λ (s : Said). cond (is_some (take_line next s)) (Some s) None) o ≡ None → option_and_then (take_line next) o ≡ None
    none_taken None d = refl
    none_taken (Some s) d = when_none s (take_line next s) d

-- ONE LINE AFTER ANOTHER

-- the walk of no lines
pub walk-empty : (next : Next) → walk next [] ≡ Some (record { posted = []; next = next })
unfolding walk
walk-empty next = refl

-- a first line, and a walk of the others
pub walk-one : (next : Next) (bytes : List ℕ) (lines : List (List ℕ)) (t : Taken) (rest : Walked) → take_bytes next bytes ≡ Some t → walk t.next lines ≡ Some rest → walk next (bytes ∷ lines) ≡ Some (walked_on bytes t rest)
unfolding walk
walk-one next bytes lines t rest e d =
    ap (option_and_then (λ (taken : Taken). option_map (walked_on bytes taken) (walk taken.next lines))) e ∙ ap (option_map (walked_on bytes t)) d

-- a first line that is not taken
pub walk-stops : (next : Next) (bytes : List ℕ) (lines : List (List ℕ)) → take_bytes next bytes ≡ None → walk next (bytes ∷ lines) ≡ None
unfolding walk
walk-stops next bytes lines e = ap (option_and_then (λ (taken : Taken). option_map (walked_on bytes taken) (walk taken.next lines))) e

-- a first line, and others of which one is not taken
pub walk-stops_later : (next : Next) (bytes : List ℕ) (lines : List (List ℕ)) (t : Taken) → take_bytes next bytes ≡ Some t → walk t.next lines ≡ None → walk next (bytes ∷ lines) ≡ None
unfolding walk
walk-stops_later next bytes lines t e d =
    ap (option_and_then (λ (taken : Taken). option_map (walked_on bytes taken) (walk taken.next lines))) e ∙ ap (option_map (walked_on bytes t)) d

-- one more line behind a walk
pub walk-push : (next : Next) (lines : List (List ℕ)) (w : Walked) (bytes : List ℕ) (t : Taken) → walk next lines ≡ Some w → take_bytes w.next bytes ≡ Some t → walk next (lines ++ bytes ∷ []) ≡ Some (record { posted = w.posted ++ record { bytes = bytes; line = t.placed } ∷ []; next = t.next })
walk-push next [] w bytes t e d =
    let same : record { posted = []; next = next } ≡ w = same_Some (record { posted = []; next = next }) w (sym (walk-empty next) ∙ e) in
    let first : take_bytes next bytes ≡ Some t = subst (λ (x : Walked). take_bytes x.next bytes ≡ Some t) (sym same) d in
    subst (λ (x : Walked). walk next (bytes ∷ []) ≡ Some (record { posted = x.posted ++ record { bytes = bytes; line = t.placed } ∷ []; next = t.next })) same (walk-one next bytes [] t (record { posted = []; next = t.next }) first (walk-empty t.next))
walk-push next (line ∷ lines) w bytes t e d =
    let on = walk-first next line lines w e in
    let last : take_bytes on.rest.next bytes ≡ Some t = subst (λ (x : Walked). take_bytes x.next bytes ≡ Some t) (sym on.is) d in
    let more : Walked = record { posted = on.rest.posted ++ record { bytes = bytes; line = t.placed } ∷ []; next = t.next } in
    subst (λ (x : Walked). walk next (line ∷ (lines ++ bytes ∷ [])) ≡ Some (record { posted = x.posted ++ record { bytes = bytes; line = t.placed } ∷ []; next = t.next })) on.is
    (walk-one next line (lines ++ bytes ∷ []) on.taken more on.first (walk-push on.taken.next lines on.rest bytes t on.others last))

-- a line behind a walk that is not taken
pub walk-push_none : (next : Next) (lines : List (List ℕ)) (w : Walked) (bytes : List ℕ) → walk next lines ≡ Some w → take_bytes w.next bytes ≡ None → walk next (lines ++ bytes ∷ []) ≡ None
walk-push_none next [] w bytes e d =
    let same : record { posted = []; next = next } ≡ w = same_Some (record { posted = []; next = next }) w (sym (walk-empty next) ∙ e) in
    walk-stops next bytes [] (subst (λ (x : Walked). take_bytes x.next bytes ≡ None) (sym same) d)
walk-push_none next (line ∷ lines) w bytes e d =
    let on = walk-first next line lines w e in
    walk-stops_later next line (lines ++ bytes ∷ []) on.taken on.first (walk-push_none on.taken.next lines on.rest bytes on.others (subst (λ (x : Walked). take_bytes x.next bytes ≡ None) (sym on.is) d))

-- a walk over lines is one over a front of them
pub walk-front : (next : Next) (lines more : List (List ℕ)) (w : Walked) → walk next (lines ++ more) ≡ Some w → IsSome (walk next lines)
walk-front next [] more w e = subst (λ (o : Option Walked). IsSome o) (sym (walk-empty next)) refl
walk-front next (line ∷ lines) more w e =
    let on = walk-first next line (lines ++ more) w e in
    let front = some_value (walk on.taken.next lines) (walk-front on.taken.next lines more on.rest on.others) in
    subst (λ (o : Option Walked). IsSome o) (sym (walk-one next line lines on.taken front.0 on.first front.1)) refl

-- a line that is read, where what is read next is none of the plan's, is none of the plan's
pub none_of_plan : (next : Next) (bytes : List ℕ) (said : Said) → line_of next.plan.version bytes ≡ Some said
    → ((s : Said) → read_next next bytes ≡ Some s → head_line next.plan next.head s ≡ None) → head_line next.plan next.head said ≡ None
none_of_plan next bytes said spelled no_plan = go (head_line next.plan next.head said) refl
  where
    go : (o : Option Making) → head_line next.plan next.head said ≡ o → head_line next.plan next.head said ≡ None
    go None e = e
    go (Some making) e = no_plan said (read_next-line next bytes said spelled (ap is_some (take_line-head next said making e)))
