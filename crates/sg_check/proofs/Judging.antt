-- What lines break, told by their walk.
use Rattle.std.proofs.Common.{◌≡◌, ℕ, Bool, true, false, ◌||◌, cond, List, [], ◌∷◌, ◌++◌, Option, Some, None, refl, ap, ◌∙◌}
use Rattle.std.specs.Prelude.{find, is_none}
use Rattle.std.specs.Option.{option_map_or}
use Rattle.sg_lists.proofs.Finding.{find-or, find-same}
use Rattle.sg_plan.specs.declared.plan.Plan.{Plan}
use Rattle.sg_grammar.specs.Lines.{placed_of}
use Rattle.sg_grammar.specs.Walk.{Posted, Walked, start, walk}
use Rattle.sg_check.proofs.Late.{late-push}
use Rattle.sg_check.specs.Judging.{bad_in, first_late, later_kinds}
use Rattle.sg_check.specs.Kinds.{bad_seal, posted_bytes, first_bad, is_bad, kinds}
use Rattle.sg_check.specs.Verdict.{breaks_walked, late, least_broken}
use Rattle.sg_check.specs.declared.judged.Kind.{Kind}
use Rattle.sg_check.specs.declared.judged.Kind.TheVariants as kind

abbrev broken_by : Option Walked → Kind → Bool
broken_by walked kind.Form = is_none walked
broken_by walked k = option_map_or (breaks_walked k) walked false

abbrev least_by : Option Walked → Option Kind
least_by walked = find (broken_by walked) kinds

least_by-walk : (lines : List (List ℕ)) → least_broken lines ≡ least_by (walk start lines)
least_by-walk lines = refl

least_by-some : (w : Walked) → least_by (Some w) ≡ first_late w.next.plan w.posted
least_by-some w = refl

-- lines that may not stand break form
pub unwalked-least : (lines : List (List ℕ)) → walk start lines ≡ None → least_broken lines ≡ Some kind.Form
unwalked-least lines e = least_by-walk lines ∙ ap least_by e

-- lines that may stand break the first kind in which one of them is bad
pub walked-least : (lines : List (List ℕ)) (w : Walked) → walk start lines ≡ Some w → least_broken lines ≡ first_late w.next.plan w.posted
walked-least lines w e = least_by-walk lines ∙ (ap least_by e ∙ least_by-some w)

-- behind lines none of which is bad, it is the first kind in which the new line is bad
pub first_late-push : (plan : Plan) (lines : List Posted) (line : Posted) → first_late plan lines ≡ None → first_late plan (lines ++ line ∷ []) ≡ bad_in plan lines line
first_late-push plan lines line e =
    find-same (λ k. late (is_bad k plan) [] (lines ++ line ∷ [])) (λ k. late (is_bad k plan) [] lines || is_bad k plan lines line) later_kinds (λ k. late-push (is_bad k plan) [] lines line)
    ∙ find-or (λ k. late (is_bad k plan) [] lines) (λ k. is_bad k plan lines line) later_kinds e

-- a bad seal breaks kind seal
pub bad_in-seal : (plan : Plan) (before : List Posted) (line : Posted) → bad_seal (posted_bytes before) line.line ≡ true → bad_in plan before line ≡ Some kind.Seal
bad_in-seal plan before line e = ap (λ (b : Bool). cond b (Some kind.Seal) (first_bad plan (placed_of before) line.line)) e

-- a good seal, and a line that is none, break the first kind in which the line in its place is bad
pub bad_in-placed : (plan : Plan) (before : List Posted) (line : Posted) → bad_seal (posted_bytes before) line.line ≡ false → bad_in plan before line ≡ first_bad plan (placed_of before) line.line
bad_in-placed plan before line e = ap (λ (b : Bool). cond b (Some kind.Seal) (first_bad plan (placed_of before) line.line)) e
