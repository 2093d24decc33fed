-- Records with the same first two sections have the same plan.
use Rattle.std.proofs.Common.{◌≡◌, ℕ, ◌<◌, true, List, [], ◌∷◌, ◌++◌, map, None, sym, subst, ap, ◌∙◌, append-nil, refl, arith}
use Rattle.sg_plan.specs.Limits.{fault_of}
use Rattle.sg_plan.specs.declared.plan.Plan.{Plan}
use Rattle.sg_forms.specs.Said.{Said}
use Rattle.sg_grammar.specs.Placed.{Placed}
use Rattle.sg_grammar.specs.Placed.Placed.{OfPlan}
use Rattle.sg_grammar.specs.Walk.{Next, start}
use Rattle.sg_record.proofs.FormedLaw.{has_form}
use Rattle.sg_record.proofs.Placing.{as-goes, goes_as-plan}
use Rattle.sg_record.proofs.SaidWalk.{Goes, goes-one, run_state}
use Rattle.sg_record.specs.Formed.{is_formed}
use Rattle.sg_record.specs.Laws.{HasWords}
use Rattle.sg_record.specs.Lines.{plan_lines}
use Rattle.sg_record.specs.Places.{places_in}
use Rattle.sg_record.specs.Tree.{as_place, commit_tree, result_tree}
use Rattle.sg_record.specs.declared.record.Record.{Record}
use Rattle.sg_lists.proofs.Each.{EachOf}
use Rattle.sg_facts.proofs.Rising.{IsPart, blocks, blocks_are, commits_are, results_are}
use Rattle.sg_odds.specs.Coins.{before_draw}
use Rattle.sg_odds.proofs.Sections.{behind_head, sections_are}

-- a plan is told by its lines
plan_told : (a b : Plan) → fault_of a ≡ None → fault_of b ≡ None → plan_lines a ≡ plan_lines b → a ≡ b
plan_told a b fine good same =
    ap (λ (n : Next). n.plan) (goes-one start (run_state a) (run_state b) (plan_lines a) (goes a fine) (subst (λ (l : List Said). Goes start l (run_state b)) (sym same) (goes b good)))
  where
    goes : (plan : Plan) → fault_of plan ≡ None → Goes start (plan_lines plan) (run_state plan)
    goes plan is = as-goes start (run_state plan) (plan_lines plan) (map OfPlan (plan_lines plan)) (goes_as-plan plan is)

-- LINES THAT DON'T BEGIN WITH A LINE OF THE PLAN

abbrev IsBehind : List Placed → Type 0
IsBehind [] = Unit {0}
IsBehind (OfPlan said ∷ lines) = ⊥
IsBehind (line ∷ lines) = Unit {0}

part_behind : (part : ℕ) (xs ys : List Placed) → 0 < part → EachOf (IsPart part) xs → IsBehind ys → IsBehind (xs ++ ys)
part_behind part [] ys later all is = is
part_behind part (OfPlan said ∷ xs) ys later all is = absurd (omega (arith, later, all.0))
part_behind part (line ∷ xs) ys later all is = tt

head_behind : (posted : Record) → IsBehind (behind_head posted)
head_behind posted =
    part_behind 2 (commit_tree as_place posted) (blocks posted ++ result_tree as_place posted) (omega arith) (commits_are posted)
    (part_behind 3 (blocks posted) (result_tree as_place posted) (omega arith) (blocks_are posted)
    (subst IsBehind (append-nil (result_tree as_place posted)) (part_behind 4 (result_tree as_place posted) [] (omega arith) (results_are posted) tt)))

said_is : (s d : Said) (xs ys : List Placed) → OfPlan s ∷ xs ≡ OfPlan d ∷ ys → s ≡ d
said_is s d xs ys e = cc

rest_is : (s d : Said) (xs ys : List Placed) → OfPlan s ∷ xs ≡ OfPlan d ∷ ys → xs ≡ ys
rest_is s d xs ys e = cc

heads_same : (xs ys : List Said) (r s : List Placed) → IsBehind r → IsBehind s → map OfPlan xs ++ r ≡ map OfPlan ys ++ s → xs ≡ ys
heads_same [] [] r s a b e = refl
heads_same [] (y ∷ ys) [] s a b e = cc
heads_same [] (y ∷ ys) (OfPlan said ∷ r) s a b e = absurd a
heads_same [] (y ∷ ys) (line ∷ r) s a b e = cc
heads_same (x ∷ xs) [] r [] a b e = cc
heads_same (x ∷ xs) [] r (OfPlan said ∷ s) a b e = absurd b
heads_same (x ∷ xs) [] r (line ∷ s) a b e = cc
heads_same (x ∷ xs) (y ∷ ys) r s a b e =
    ap (λ (z : Said). z ∷ xs) (said_is x y (map OfPlan xs ++ r) (map OfPlan ys ++ s) e)
    ∙ ap (λ (l : List Said). y ∷ l) (heads_same xs ys r s a b (rest_is x y (map OfPlan xs ++ r) (map OfPlan ys ++ s) e))

pub same_plan : (a b : Record) → HasWords a → HasWords b → is_formed a ≡ true → is_formed b ≡ true → before_draw (places_in a) ≡ before_draw (places_in b) → a.plan ≡ b.plan
same_plan a b words others formed also same =
    plan_told a.plan b.plan (has_form a words formed).is.fine (has_form b others also).is.fine
    (heads_same (plan_lines a.plan) (plan_lines b.plan) (behind_head a) (behind_head b) (head_behind a) (head_behind b) (sym (sections_are a) ∙ (same ∙ sections_are b)))
