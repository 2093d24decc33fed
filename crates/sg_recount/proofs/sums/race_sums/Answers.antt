-- One more candidate is listed.
use Rattle.std.proofs.Common.{[], ◌∷◌, sym, ◌∙◌, arith}
use Rattle.sg_plan.proofs.PlanLaws.{bounds}
use Rattle.sg_recount.specs.Findings.{sum_of}
use Rattle.sg_recount.proofs.Bounding.{same_sum}
use Rattle.sg_recount.proofs.Each.{each_none, each_one}
use Rattle.sg_recount.proofs.Facing.{total_is}
use Rattle.sg_recount.specs.inside.Basis.{lines_in, plan_in, printing_in}
use Rattle.sg_recount.proofs.sums.race_sums.Goals as goal

pub overflow_cast-candidate-end : goal.overflow_cast-candidate-end
overflow_cast-candidate-end c = omega (arith, (bounds (plan_in c.args.basis.now) c.requires.basis.good).few_candidates c.args.race, c.candidates-candidate-end.ensures)

pub loop-candidate-init : goal.loop-candidate-init
loop-candidate-init c = c.new-sums.ensures ∙ sym (each_none (λ n. sum_of (plan_in c.args.basis.now) (lines_in c.args.basis.now) (printing_in c.args.basis.now) c.args.race n ∷ []))

pub loop-candidate-preserved : goal.loop-candidate-preserved
loop-candidate-preserved c =
    each_one (sum_of (plan_in c.args.basis.now) (lines_in c.args.basis.now) (printing_in c.args.basis.now) c.args.race) c.loop-candidate.candidate c.loop-candidate.sums c.push.new.self (record { total = c.total_at.result; count = c.posted_codes.result })
    c.loop-candidate.invariant
    (same_sum _ _ _ _
    (c.total_at.ensures ∙ sym (total_is c.args.basis.now.posted.now c.requires.basis.accepted c.args.race c.loop-candidate.candidate c.requires.race (omega (arith, c.loop-candidate-test.true, c.candidates-candidate-end.ensures))))
    c.posted_codes.ensures)
    c.in_ok-push.ensures.ok
