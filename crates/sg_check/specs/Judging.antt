-- What one more line is judged in, behind lines that are fine.
use Rattle.std.specs.Prelude.{List, [], ◌∷◌, drop, find, Option}
use Rattle.sg_plan.specs.declared.plan.Plan.{Plan}
use Rattle.sg_grammar.specs.Placed.{Placed}
use Rattle.sg_grammar.specs.Placed.Placed.{OfPlan}
use Rattle.sg_grammar.specs.Walk.{Posted}
use Rattle.sg_check.specs.Kinds.{is_bad, kinds}
use Rattle.sg_check.specs.Verdict.{late}
use Rattle.sg_check.specs.declared.judged.Kind.{Kind}

-- the line is one of the plan
abbrev pub IsOfPlan : Placed → Type 0
IsOfPlan (OfPlan said) = Unit {0}
IsOfPlan line = ⊥

-- each of the lines is
abbrev pub AreOfPlan : List Placed → Type 0
AreOfPlan [] = Unit {0}
AreOfPlan (line ∷ lines) = IsOfPlan line × AreOfPlan lines

-- the kinds that lines are bad in which may stand where they do, in their order: all but form
abbrev pub later_kinds : List Kind
later_kinds = drop 1 kinds

-- the first kind in which one of the lines is bad against those before it
abbrev pub first_late : Plan → List Posted → Option Kind
first_late plan lines = find (λ k. late (is_bad k plan) [] lines) later_kinds

-- the first kind in which the line is bad against those before it
abbrev pub bad_in : Plan → List Posted → Posted → Option Kind
bad_in plan before line = find (λ k. is_bad k plan before line) kinds
