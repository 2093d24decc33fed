-- Lines none of which is bad are fine: so is each list of first lines.
use Rattle.std.proofs.Common.{◌≡◌, ℕ, zero, suc, ◌⊎◌, inl, inr, Bool, true, false, ◌||◌, cond, List, [], ◌∷◌, ◌++◌, take, drop, Option, Some, None, refl, sym, subst, ap, ◌∙◌}
use Rattle.std.specs.Prelude.{find}
use Rattle.std.proofs.lemmas.List.{take-append-drop}
use Rattle.std.proofs.lemmas.Option.{same_Some}
use Rattle.sg_plan.specs.declared.plan.Plan.{Plan}
use Rattle.sg_forms.specs.Said.{Said}
use Rattle.sg_grammar.proofs.FirstLines.{take_bytes-line, walk-first}
use Rattle.sg_grammar.proofs.Ranges.{walk_plan}
use Rattle.sg_grammar.proofs.Walking.{take_line-behind, take_line-head}
use Rattle.sg_grammar.specs.Head.{Making, head_line}
use Rattle.sg_grammar.specs.Lines.{placed_of}
use Rattle.sg_grammar.specs.Placed.{Placed}
use Rattle.sg_grammar.specs.Placed.Placed.{OfPlan}
use Rattle.sg_grammar.specs.Walk.{Next, Posted, Taken, Walked, headed, start, take_bytes, take_line, walk, walked_on}
use Rattle.sg_grammar.specs.declared.state.Head.TheVariants as head
use Rattle.sg_check.proofs.Judging.{unwalked-least, walked-least}
use Rattle.sg_check.proofs.OfPlan.{plan_lines-none}
use Rattle.sg_check.specs.Judging.{AreOfPlan, IsOfPlan, first_late, later_kinds}
use Rattle.sg_check.specs.Kinds.{is_bad}
use Rattle.sg_check.specs.Laws.{NoneBadAreFine}
use Rattle.sg_check.specs.Verdict.{AreFine, late}
use Rattle.sg_check.specs.declared.judged.Kind.TheVariants as kind

-- FRONTS OF A WALK

-- the walk over first lines: it has the plan of all, or its lines are lines of the plan
pub record FrontWalk (next : Next) (lines : List (List ℕ)) (w : Walked) (count : ℕ) : Type 0 where
  pub front : Walked
  pub goes : walk next (take count lines) ≡ Some front
  pub posted : front.posted ≡ take count w.posted
  pub plan : (front.next.plan ≡ w.next.plan) ⊎ AreOfPlan (placed_of front.posted)

-- a line behind which the plan may still change is one of the plan
pub take_line-ends : (next : Next) (said : Said) (t : Taken) → take_line next said ≡ Some t → (t.next.head ≡ head.Whole) ⊎ (t.placed ≡ OfPlan said)
take_line-ends next said t e = by_head (head_line next.plan next.head said) refl
  where
    by_head : (o : Option Making) → head_line next.plan next.head said ≡ o → (t.next.head ≡ head.Whole) ⊎ (t.placed ≡ OfPlan said)
    by_head None none = inl (take_line-behind next said t none e).1
    by_head (Some making) some = inr (ap (λ (x : Taken). x.placed) (sym (same_Some (headed said making) t (sym (take_line-head next said making some) ∙ e))))

walk-one : (next : Next) (bytes : List ℕ) (t : Taken) (lines : List (List ℕ)) (w : Walked) → take_bytes next bytes ≡ Some t → walk t.next lines ≡ Some w → walk next (bytes ∷ lines) ≡ Some (walked_on bytes t w)
unfolding walk
walk-one next bytes t lines w taken on = rw (taken, on) refl

-- and it is there for each number of first lines
pub front-walk : (next : Next) (lines : List (List ℕ)) (w : Walked) (count : ℕ) → walk next lines ≡ Some w → FrontWalk next lines w count
unfolding walk
front-walk next lines w zero e = record { front = record { posted = []; next = next }; goes = refl; posted = refl; plan = inr tt }
front-walk next [] w (suc count) e =
    let same : record { posted = []; next = next } ≡ w = cc in
    record { front = record { posted = []; next = next }; goes = refl; posted = ap (λ (x : Walked). take (suc count) x.posted) same; plan = inr tt }
front-walk next (bytes ∷ lines) w (suc count) e =
    let on = walk-first next bytes lines w e in
    let line = take_bytes-line next bytes on.taken on.first in
    let rest = front-walk on.taken.next lines on.rest count on.others in
    record {
      front = walked_on bytes on.taken rest.front;
      goes = walk-one next bytes on.taken (take count lines) rest.front on.first rest.goes;
      posted = ap (λ (l : List Posted). record { bytes = bytes; line = on.taken.placed } ∷ l) rest.posted ∙ ap (λ (x : Walked). take (suc count) x.posted) on.is;
      plan = elim (take_line-ends next line.0 on.taken line.2) [
        | inl whole ↦
            let here = walk_plan on.taken.next lines on.rest whole on.others in
            let front = walk_plan on.taken.next (take count lines) rest.front whole rest.goes in
            inl (front ∙ (sym here ∙ ap (λ (x : Walked). x.next.plan) on.is))
        | inr of_plan ↦ elim rest.plan [
          | inl same ↦ inl (same ∙ ap (λ (x : Walked). x.next.plan) on.is)
          | inr all ↦ inr (subst (λ (p : Placed). IsOfPlan p) (sym of_plan) tt, all)
        ]
      ];
    }

-- NONE IS BAD

late-front : {A : Type 0} (bad : List A → A → Bool) (before xs ys : List A) → late bad before xs ≡ true → late bad before (xs ++ ys) ≡ true
late-front bad before [] ys e = cc
late-front bad before (x ∷ xs) ys e = at_first (bad before x) (late bad (before ++ x ∷ []) xs) (late bad (before ++ x ∷ []) (xs ++ ys)) e (late-front bad (before ++ x ∷ []) xs ys)
  where
    at_first : (a b c : Bool) → (a || b) ≡ true → (b ≡ true → c ≡ true) → (a || c) ≡ true
    at_first true b c p q = refl
    at_first false b c p q = q p

find-less : {A : Type 0} (p q : A → Bool) (xs : List A) → ((x : A) → q x ≡ true → p x ≡ true) → find p xs ≡ None → find q xs ≡ None
find-less p q [] less e = refl
find-less {A} p q (x ∷ xs) less e = at_first (p x) (q x) (find p xs) (find q xs) (less x) e (find-less p q xs less)
  where
    at_first : (a b : Bool) (f g : Option A) → (b ≡ true → a ≡ true) → cond a (Some x) f ≡ None → (f ≡ None → g ≡ None) → cond b (Some x) g ≡ None
    at_first true b f g l n h = cc
    at_first false true f g l n h = let wrong : false ≡ true = l refl in cc
    at_first false false f g l n h = h n

-- first lines of lines none of which is bad
late-none : (plan : Plan) (lines : List Posted) (count : ℕ) → first_late plan lines ≡ None → first_late plan (take count lines) ≡ None
late-none plan lines count e =
    find-less (λ k. late (is_bad k plan) [] lines) (λ k. late (is_bad k plan) [] (take count lines)) later_kinds
    (λ k bad. subst (λ (l : List Posted). late (is_bad k plan) [] l ≡ true) (take-append-drop count lines) (late-front (is_bad k plan) [] (take count lines) (drop count lines) bad)) e

-- lines that may stand, and none of which is bad, are fine
pub all_good-fine : (lines : List (List ℕ)) (w : Walked) → walk start lines ≡ Some w → first_late w.next.plan w.posted ≡ None → AreFine lines
all_good-fine lines w walks good count =
    let front = front-walk start lines w count walks in
    walked-least (take count lines) front.front front.goes
    ∙ elim front.plan [
      | inl same ↦ ap (λ (p : Plan). first_late p front.front.posted) same ∙ (ap (first_late w.next.plan) front.posted ∙ late-none w.next.plan w.posted count good)
      | inr of_plan ↦ plan_lines-none front.front.next.plan front.front.posted of_plan
    ]

pub none_bad_are_fine : NoneBadAreFine
none_bad_are_fine lines none = at_walk (walk start lines) refl
  where
    at_walk : (o : Option Walked) → walk start lines ≡ o → AreFine lines
    at_walk (Some w) e = all_good-fine lines w e (sym (walked-least lines w e) ∙ none)
    at_walk None e = let both : Some kind.Form ≡ None = sym (unwalked-least lines e) ∙ none in cc
