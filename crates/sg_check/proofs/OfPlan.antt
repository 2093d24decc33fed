-- The lines of the plan are bad in no kind, by whatever plan they are judged.
use Rattle.std.proofs.Common.{◌≡◌, ℕ, Bool, false, ◌||◌, List, [], ◌∷◌, ◌++◌, None, refl, ap, ◌∙◌}
use Rattle.sg_lists.proofs.Finding.{find-none}
use Rattle.sg_grammar.specs.Lines.{placed_of}
use Rattle.sg_forms.specs.Said.{Said}
use Rattle.sg_plan.specs.declared.plan.Plan.{Plan}
use Rattle.sg_grammar.specs.Placed.{Placed}
use Rattle.sg_grammar.specs.Placed.Placed.{OfPlan}
use Rattle.sg_grammar.specs.Walk.{Posted}
use Rattle.sg_check.specs.Kinds.{is_bad}
use Rattle.sg_check.specs.Verdict.{late, total_on, totals_in}
use Rattle.sg_check.specs.Judging.{AreOfPlan, IsOfPlan, first_late, later_kinds}
use Rattle.sg_check.specs.declared.judged.Kind.{Kind}
use Rattle.sg_check.specs.declared.judged.Kind.TheVariants as kind
use Rattle.sg_check.specs.declared.judged.Total.{Total}

said-good : (k : Kind) (plan : Plan) (before : List Posted) (bytes : List ℕ) (said : Said) → is_bad k plan before (record { bytes = bytes; line = OfPlan said }) ≡ false
said-good kind.Seal plan before bytes said = refl
said-good k plan before bytes said = refl

placed-good : (k : Kind) (plan : Plan) (before : List Posted) (bytes : List ℕ) (line : Placed) → IsOfPlan line → is_bad k plan before (record { bytes = bytes; line = line }) ≡ false
placed-good k plan before bytes (OfPlan said) of_plan = said-good k plan before bytes said
placed-good k plan before bytes line of_plan = absurd of_plan

-- a line of the plan is bad in no kind
pub plan_line-good : (k : Kind) (plan : Plan) (before : List Posted) (line : Posted) → IsOfPlan line.line → is_bad k plan before line ≡ false
plan_line-good k plan before line of_plan = placed-good k plan before line.bytes line.line of_plan

late-good : (k : Kind) (plan : Plan) (before lines : List Posted) → AreOfPlan (placed_of lines) → late (is_bad k plan) before lines ≡ false
late-good k plan before [] of_plan = refl
late-good k plan before (line ∷ lines) of_plan =
    ap (λ (b : Bool). b || late (is_bad k plan) (before ++ line ∷ []) lines) (plan_line-good k plan before line of_plan.0)
    ∙ late-good k plan (before ++ line ∷ []) lines of_plan.1

-- none of the lines of the plan is
pub plan_lines-none : (plan : Plan) (lines : List Posted) → AreOfPlan (placed_of lines) → first_late plan lines ≡ None
plan_lines-none plan lines of_plan = find-none (λ k. late (is_bad k plan) [] lines) later_kinds (λ k. late-good k plan [] lines of_plan)

total_on-plan : (line : Placed) → IsOfPlan line → total_on line ≡ []
total_on-plan (OfPlan said) of_plan = refl
total_on-plan line of_plan = absurd of_plan

-- they say no totals
pub plan_lines-totals : (lines : List Posted) → AreOfPlan (placed_of lines) → totals_in lines ≡ []
plan_lines-totals [] of_plan = refl
plan_lines-totals (line ∷ lines) of_plan =
    ap (λ (said : List Total). said ++ totals_in lines) (total_on-plan line.line of_plan.0) ∙ plan_lines-totals lines of_plan.1

-- with one more line of the plan, all are lines of the plan
pub plan_lines-push : (lines : List Placed) (line : Placed) → AreOfPlan lines → IsOfPlan line → AreOfPlan (lines ++ line ∷ [])
plan_lines-push [] line all one = (one, tt)
plan_lines-push (x ∷ lines) line all one = (all.0, plan_lines-push lines line all.1 one)
