-- From the kinds to the verdict.
use Rattle.std.proofs.Common.{◌≡◌, ℕ, true, false, List, [], length, Option, Some, refl, ap, ◌∙◌}
use Rattle.sg_plan.specs.declared.plan.Plan.{Plan}
use Rattle.sg_forms.specs.Said.{Said}
use Rattle.sg_grammar.specs.Placed.{Placed}
use Rattle.sg_grammar.specs.Walk.{Walked, is_whole, start, walk}
use Rattle.sg_lists.proofs.Finding.{find-none}
use Rattle.sg_check.proofs.Fine.{all_good-fine}
use Rattle.sg_check.proofs.Late.{IsOfPlaces, late_placed}
use Rattle.sg_check.proofs.Verdicts.{good_end}
use Rattle.std.specs.Option.{option_map_or}
use Rattle.sg_check.specs.Judging.{later_kinds}
use Rattle.sg_check.specs.Kinds.{bad_placed, is_bad}
use Rattle.sg_check.specs.Verdict.{IsVerdict, late, totals_of}
use Rattle.sg_check.specs.declared.judged.Judged.TheVariants as judged
use Rattle.sg_check.specs.declared.judged.Kind.{Kind}
use Rattle.sg_accepted.proofs.Late.{Good}
use Rattle.sg_record.proofs.PlacesLaw.{posts-places}
use Rattle.sg_record.specs.Places.{posts}

-- lines that may stand, none of which is bad in any kind, and which are a whole record, are good
pub accepted : (lines : List (List ℕ)) (w : Walked) → walk start lines ≡ Some w → ((k : Kind) → Good (is_bad k w.next.plan) [] w.posted) → is_whole w.next ≡ true
    → IsVerdict lines (judged.Yes (totals_of lines))
accepted lines w walks good whole =
    good_end lines (totals_of lines) (all_good-fine lines w walks (find-none (λ k. late (is_bad k w.next.plan) [] w.posted) later_kinds good))
    (ap (λ (o : Option Walked). option_map_or (λ (x : Walked). is_whole x.next) o false) walks ∙ whole) refl

-- the kinds but for seals are judged over the lines in their places
pub good-placed : (k : Kind) (plan : Plan) (version : ℕ) (lines : List Said) (places : List Placed) → IsOfPlaces k plan → length lines ≡ length places → Good (bad_placed k plan) [] places
    → Good (is_bad k plan) [] (posts version lines places)
good-placed k plan version lines places same long good =
    late_placed k plan same [] (posts version lines places) ∙ (ap (late (bad_placed k plan) []) (posts-places version lines places long) ∙ good)
