-- Fine lines, none of which stands behind the plan, are lines of a record's plan.
use Rattle.std.proofs.Common.{◌≡◌, ℕ, inl, inr, true, false, List, [], ◌∷◌, length, take, Some, sym, subst, ap, ◌∙◌}
use Rattle.std.proofs.lemmas.Option.{same_Some}
use Rattle.sg_grammar.proofs.FirstLines.{take_bytes-line, walk-first, walk-none}
use Rattle.sg_grammar.proofs.Walking.{take_line-plan}
use Rattle.sg_grammar.specs.Head.{is_behind}
use Rattle.sg_grammar.specs.Lines.{placed_of}
use Rattle.sg_grammar.specs.Placed.{Placed}
use Rattle.sg_grammar.specs.Walk.{Next, Posted, Walked, start, walk}
use Rattle.sg_grammar.specs.declared.state.Head.{Head}
use Rattle.sg_grammar.specs.declared.state.Head.TheVariants as head
use Rattle.sg_check.proofs.Fine.{take_line-ends}
use Rattle.sg_check.proofs.OneMore.{fine-all}
use Rattle.sg_check.specs.Judging.{AreOfPlan, IsOfPlan}
use Rattle.sg_check.specs.Verdict.{AreFine}
use Rattle.sg_fronts.proofs.ByRecords.{begun, least-good}
use Rattle.sg_fronts.specs.ByRecords.{IsPlanFront, posted_of}

-- behind the plan a walk stays behind it
stays_behind : (next : Next) (lines : List (List ℕ)) (w : Walked) → next.head ≡ head.Whole → walk next lines ≡ Some w → w.next.head ≡ head.Whole
stays_behind next [] w whole e = ap (λ (n : Next). n.head) (walk-none next w e) ∙ whole
stays_behind next (bytes ∷ lines) w whole e =
    let on = walk-first next bytes lines w e in
    let line = take_bytes-line next bytes on.taken on.first in
    let later = stays_behind on.taken.next lines on.rest (take_line-plan next line.0 on.taken whole line.2).1 on.others in
    ap (λ (x : Walked). x.next.head) (sym on.is) ∙ later

not_whole : (stage : Head) → stage ≡ head.Whole → is_behind stage ≡ false → ⊥
not_whole stage whole before = let both : true ≡ false = sym (ap is_behind whole) ∙ before in cc

-- lines behind which the plan is not yet left are its lines
of_plan : (next : Next) (lines : List (List ℕ)) (w : Walked) → walk next lines ≡ Some w → is_behind w.next.head ≡ false → AreOfPlan (placed_of w.posted)
unfolding walk
of_plan next [] w e before =
    let same : record { posted = []; next = next } ≡ w = cc in
    subst (λ (x : Walked). AreOfPlan (placed_of x.posted)) same tt
of_plan next (bytes ∷ lines) w e before =
    let on = walk-first next bytes lines w e in
    let line = take_bytes-line next bytes on.taken on.first in
    let rest_before : is_behind on.rest.next.head ≡ false = ap (λ (x : Walked). is_behind x.next.head) on.is ∙ before in
    elim (take_line-ends next line.0 on.taken line.2) [
      | inl whole ↦ absurd (not_whole on.rest.next.head (stays_behind on.taken.next lines on.rest whole on.others) rest_before)
      | inr here ↦
          subst (λ (x : Walked). AreOfPlan (placed_of x.posted)) on.is
          (subst (λ (p : Placed). IsOfPlan p) (sym here) tt, of_plan on.taken.next lines on.rest on.others rest_before)
    ]

pub plan_front : (lines : List (List ℕ)) (w : Walked) → walk start lines ≡ Some w → is_behind w.next.head ≡ false → AreFine lines → IsPlanFront lines
plan_front lines w walks before fine =
    let good = least-good lines (fine-all lines fine) in
    let all = begun lines good.posted good.begins in
    let same : all.0.front ≡ w = same_Some all.0.front w (sym (ap (walk start) (sym all.1) ∙ all.0.goes) ∙ walks) in
    let here : take (length lines) (posted_of good.posted) ≡ w.posted = sym all.0.posted ∙ ap (λ (x : Walked). x.posted) same in
    (good, subst (λ (l : List Posted). AreOfPlan (placed_of l)) (sym here) (of_plan start lines w walks before))
