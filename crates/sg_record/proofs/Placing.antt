-- Lines that may stand one after another, each in its place.
use Rattle.std.proofs.Common.{◌≡◌, ℕ, ◌<◌, ◌⊎◌, inl, inr, List, [], ◌∷◌, ◌++◌, length, map, Option, Some, None, refl, sym, subst, ap, ◌∙◌, arith}
use Rattle.std.specs.Option.{is_some}
use Rattle.sg_lists.proofs.Options.{option_map-some}
use Rattle.sg_plan.specs.Limits.{fault_of}
use Rattle.sg_plan.specs.declared.plan.Plan.{Plan}
use Rattle.sg_forms.proofs.LineLaws.{lines_are_read}
use Rattle.sg_forms.specs.Reading.{line_of}
use Rattle.sg_forms.specs.Said.{Said}
use Rattle.sg_forms.specs.Said.Said.{Ballots, Version}
use Rattle.sg_forms.specs.Spelling.{spelling}
use Rattle.sg_grammar.specs.Due.{commits, results}
use Rattle.sg_grammar.specs.Head.{head_line}
use Rattle.sg_grammar.specs.Placed.{Placed}
use Rattle.sg_grammar.specs.Placed.Placed.{OfPlan}
use Rattle.sg_grammar.specs.Walk.{Next, Taken, Walked, after_run, behind, body_line, first_taken, headed, in_head, start, take_at, take_bytes, take_line, taking, took, walk, walked_on}
use Rattle.sg_grammar.specs.declared.state.Head.{Head}
use Rattle.sg_grammar.specs.declared.state.Head.TheVariants as head
use Rattle.sg_grammar.specs.declared.state.Part.{Part}
use Rattle.sg_grammar.specs.declared.state.Part.TheVariants as part
use Rattle.sg_grammar.specs.declared.state.Slot.{Slot}
use Rattle.sg_record.proofs.BytesWalk.{IsBehind, Stays, body-behind, first_line, take_line-stays}
use Rattle.sg_record.proofs.Filling.{AreIn, FillsAs}
use Rattle.sg_record.proofs.HeadOut.{plan-out}
use Rattle.sg_record.proofs.SaidWalk.{Goes, block-other, commits-some, fitting, results-some, run-other, run_state}
use Rattle.sg_record.specs.Lines.{plan_lines}
use Rattle.sg_record.specs.Places.{posts}

-- THE WALK

-- the lines, taken one after another in these places, lead from one state to another
abbrev pub GoesAs : Next → List Said → List Placed → Next → Type 0
GoesAs next [] [] end = next ≡ end
GoesAs next [] (placed ∷ places) end = ⊥
GoesAs next (said ∷ lines) [] end = ⊥
GoesAs next (said ∷ lines) (placed ∷ places) end = (after : Next) × (take_line next said ≡ Some (took placed after)) × GoesAs after lines places end

-- without the places
pub as-goes : (next end : Next) (lines : List Said) (places : List Placed) → GoesAs next lines places end → Goes next lines end
as-goes next end [] [] goes = goes
as-goes next end [] (p ∷ ps) goes = absurd goes
as-goes next end (s ∷ ls) [] goes = absurd goes
as-goes next end (s ∷ ls) (p ∷ ps) goes = (took p goes.0, goes.1, as-goes goes.0 end ls ps goes.2)

-- as many places as lines
pub goes_as-length : (next end : Next) (lines : List Said) (places : List Placed) → GoesAs next lines places end → length lines ≡ length places
goes_as-length next end [] [] goes = refl
goes_as-length next end [] (p ∷ ps) goes = absurd goes
goes_as-length next end (s ∷ ls) [] goes = absurd goes
goes_as-length next end (s ∷ ls) (p ∷ ps) goes = omega (arith, goes_as-length goes.0 end ls ps goes.2)

pub goes_as-append : (next mid end : Next) (lines more : List Said) (places others : List Placed) → GoesAs next lines places mid → GoesAs mid more others end
    → GoesAs next (lines ++ more) (places ++ others) end
goes_as-append next mid end [] more [] others here there = subst (λ (n : Next). GoesAs n more others end) (sym here) there
goes_as-append next mid end [] more (p ∷ ps) others here there = absurd here
goes_as-append next mid end (s ∷ ls) more [] others here there = absurd here
goes_as-append next mid end (s ∷ ls) more (p ∷ ps) others here there = (here.0, here.1, goes_as-append here.0 mid end ls more ps others here.2 there)

-- lines that fill what is due
pub goes_as-due : (plan : Plan) (due : List Slot) (may_begin : Part) (lines rest : List Said) (places others : List Placed) (end : Next)
    → FillsAs due lines places → GoesAs (behind plan [] may_begin) rest others end → GoesAs (behind plan due may_begin) (lines ++ rest) (places ++ others) end
unfolding take_line
goes_as-due plan [] may_begin [] rest [] others end fills goes = goes
goes_as-due plan [] may_begin [] rest (p ∷ ps) others end fills goes = absurd fills
goes_as-due plan [] may_begin (s ∷ ls) rest ps others end fills goes = absurd fills
goes_as-due plan (d ∷ due) may_begin [] rest ps others end fills goes = absurd fills
goes_as-due plan (d ∷ due) may_begin (s ∷ ls) rest [] others end fills goes = absurd fills
goes_as-due plan (d ∷ due) may_begin (s ∷ ls) rest (p ∷ ps) others end fills goes =
    (behind plan due may_begin, ap (λ (o : Option Placed). taking plan due may_begin o) fills.0, goes_as-due plan due may_begin ls rest ps others end fills.1 goes)

-- THE COMMITMENTS, behind the plan's lines

pub goes_as-commits : (plan : Plan) (lines rest : List Said) (places others : List Placed) (end : Next)
    → FillsAs (commits plan) lines places → GoesAs (behind plan (commits plan) (part.Ballots 0)) (lines ++ rest) (places ++ others) end → GoesAs (run_state plan) (lines ++ rest) (places ++ others) end
unfolding take_line
goes_as-commits plan lines rest places others end fills goes = from (commits plan) lines places refl (commits-some plan) fills goes
  where
    from : (slots : List Slot) (front : List Said) (ps : List Placed) → commits plan ≡ slots → 0 < length slots → FillsAs slots front ps
        → GoesAs (behind plan slots (part.Ballots 0)) (front ++ rest) (ps ++ others) end → GoesAs (run_state plan) (front ++ rest) (ps ++ others) end
    from [] front ps are some filled on = absurd (omega arith)
    from (d ∷ due) [] ps are some filled on = absurd filled
    from (d ∷ due) (s ∷ front) [] are some filled on = absurd filled
    from (d ∷ due) (s ∷ front) (p ∷ ps) are some filled on =
        (on.0, run-other plan s (fitting d s (ap is_some filled.0)).no_run ∙ (ap (λ l. body_line plan l (part.Ballots 0) s) are ∙ on.1), on.2)

-- THE RESULTS, behind the last ballot

pub goes_as-results : (plan : Plan) (last : ℕ) (lines rest : List Said) (places others : List Placed) (end : Next)
    → FillsAs (results plan) lines places → GoesAs (behind plan [] (part.Disputes 0)) rest others end → GoesAs (behind plan [] (part.Ballots last)) (lines ++ rest) (places ++ others) end
unfolding take_line
goes_as-results plan last lines rest places others end fills goes =
    from (results plan) lines places refl (results-some plan) fills (goes_as-due plan (results plan) (part.Disputes 0) lines rest places others end fills goes)
  where
    from : (slots : List Slot) (front : List Said) (ps : List Placed) → results plan ≡ slots → 0 < length slots → FillsAs slots front ps
        → GoesAs (behind plan slots (part.Disputes 0)) (front ++ rest) (ps ++ others) end → GoesAs (behind plan [] (part.Ballots last)) (front ++ rest) (ps ++ others) end
    from [] front ps are some filled on = absurd (omega arith)
    from (d ∷ due) [] ps are some filled on = absurd filled
    from (d ∷ due) (s ∷ front) [] are some filled on = absurd filled
    from (d ∷ due) (s ∷ front) (p ∷ ps) are some filled on =
        (on.0, block-other plan last s (fitting d s (ap is_some filled.0)).no_block ∙ (ap (λ l. first_taken plan l s) are ∙ on.1), on.2)

-- THE PLAN'S LINES

-- a line is one of the plan, or the plan is whole behind it
abbrev pub EndsPlan : Said → Taken → Type 0
EndsPlan said taken = (taken.next.head ≡ head.Whole) ⊎ (taken.placed ≡ OfPlan said)

in_head-ends : (plan : Plan) (stage : Head) (said : Said) (t : Taken) → in_head plan stage said ≡ Some t → EndsPlan said t
in_head-ends plan stage said t e =
    let from = option_map-some (headed said) (head_line plan stage said) t e in
    inr (sym (ap (λ (x : Taken). x.placed) from.2))

after_run-ends : (plan : Plan) (said : Said) (t : Taken) → after_run plan said ≡ Some t → EndsPlan said t
after_run-ends plan (Ballots style count) t e = in_head-ends plan head.Runs (Ballots style count) t e
after_run-ends plan said t e = inl (body-behind plan (commits plan) (part.Ballots 0) said t e).1

take_at-ends : (plan : Plan) (stage : Head) (due : List Slot) (may_begin : Part) (said : Said) (t : Taken) → take_at plan stage due may_begin said ≡ Some t → EndsPlan said t
take_at-ends plan head.Whole due may_begin said t e = inl (body-behind plan due may_begin said t e).1
take_at-ends plan head.Runs due may_begin said t e = after_run-ends plan said t e
take_at-ends plan stage due may_begin said t e = in_head-ends plan stage said t e

pub take_line-ends : (next : Next) (said : Said) (t : Taken) → take_line next said ≡ Some t → EndsPlan said t
unfolding take_line
take_line-ends next said t e = take_at-ends next.plan next.head next.due next.part said t e

pub whole-step : (next : Next) (said : Said) (t : Taken) → next.head ≡ head.Whole → take_line next said ≡ Some t → IsBehind next.plan t
unfolding take_line
whole-step next said t whole e =
    body-behind next.plan next.due next.part said t (sym (ap (λ (h : Head). take_at next.plan h next.due next.part said) whole) ∙ e)

-- a whole plan stays whole
whole-stays : (next end : Next) (lines : List Said) → next.head ≡ head.Whole → Goes next lines end → end.head ≡ head.Whole
whole-stays next end [] whole goes = ap (λ (n : Next). n.head) (sym goes) ∙ whole
whole-stays next end (said ∷ lines) whole goes = whole-stays goes.0.next end lines (whole-step next said goes.0 whole goes.1).1 goes.2

-- so lines behind which it is not are lines of the plan
goes_as-head : (next end : Next) (lines : List Said) → (end.head ≡ head.Whole → ⊥) → Goes next lines end → GoesAs next lines (map OfPlan lines) end
goes_as-head next end [] other goes = goes
goes_as-head next end (said ∷ lines) other goes =
    elim (take_line-ends next said goes.0 goes.1) [
      | inl whole ↦ absurd (other (whole-stays goes.0.next end lines whole goes.2))
      | inr of_plan ↦ (
        goes.0.next,
        goes.1 ∙ ap (λ (p : Placed). Some (took p goes.0.next)) of_plan,
        goes_as-head goes.0.next end lines other goes.2,
      )
    ]

pub goes_as-plan : (plan : Plan) → fault_of plan ≡ None → GoesAs start (plan_lines plan) (map OfPlan (plan_lines plan)) (run_state plan)
goes_as-plan plan fine =
    let goes : Goes start (plan_lines plan) (run_state plan) = subst (λ (l : List Said). Goes start l (run_state plan)) (append-none (plan_lines plan)) (plan-out plan [] (run_state plan) fine refl) in
    goes_as-head start (run_state plan) (plan_lines plan) (λ e. cc) goes
  where
    append-none : (l : List Said) → l ++ [] ≡ l
    append-none [] = refl
    append-none (x ∷ xs) = ap (λ l. x ∷ l) (append-none xs)

-- THE BYTES

pub walk-step : (next : Next) (bytes : List ℕ) (said : Said) (t : Taken) (lines : List (List ℕ)) (w : Walked)
    → line_of next.plan.version bytes ≡ Some said → take_line next said ≡ Some t → walk t.next lines ≡ Some w → walk next (bytes ∷ lines) ≡ Some (walked_on bytes t w)
unfolding walk take_bytes
walk-step next bytes said t lines w read taken on = rw (read, taken, on) refl

goes_as-walks : (version : ℕ) (next end : Next) (lines : List Said) (places : List Placed) → Stays version next → AreIn version lines → GoesAs next lines places end
    → walk next (map (spelling version) lines) ≡ Some (record { posted = posts version lines places; next = end })
unfolding walk
goes_as-walks version next end [] [] stays all goes = ap (λ (n : Next). Some (let w : Walked = record { posted = []; next = n } in w)) goes
goes_as-walks version next end [] (p ∷ ps) stays all goes = absurd goes
goes_as-walks version next end (s ∷ ls) [] stays all goes = absurd goes
goes_as-walks version next end (s ∷ ls) (p ∷ ps) stays all goes =
    let read : line_of next.plan.version (spelling version s) ≡ Some s = ap (λ v. line_of v (spelling version s)) stays.0 ∙ lines_are_read version s all.0 in
    let on = take_line-stays next s (took p goes.0) stays.1 goes.1 in
    walk-step next (spelling version s) s (took p goes.0) (map (spelling version) ls) (record { posted = posts version ls ps; next = end }) read goes.1
    (goes_as-walks version goes.0 end ls ps (on.0 ∙ stays.0, on.1) all.1 goes.2)

-- lines that may stand from the start on, in their places, are the walk over their bytes
pub start_as-walks : (version : ℕ) (end : Next) (lines : List Said) (places : List Placed) → AreIn version (Version version ∷ lines) → GoesAs start (Version version ∷ lines) places end
    → walk start (map (spelling version) (Version version ∷ lines)) ≡ Some (record { posted = posts version (Version version ∷ lines) places; next = end })
start_as-walks version end lines [] all goes = absurd goes
start_as-walks version end lines (p ∷ ps) all goes =
    let first = first_line (Version version) (took p goes.0) goes.1 in
    let same : first.version ≡ version = let both : Version version ≡ Version first.version = first.is in cc in
    walk-step start (spelling version (Version version)) (Version version) (took p goes.0) (map (spelling version) lines) (record { posted = posts version lines ps; next = end })
    (lines_are_read 0 (Version version) all.0) goes.1
    (goes_as-walks version goes.0 end lines ps (first.stays.0 ∙ same, first.stays.1) all.1 goes.2)
