use Rattle.std.proofs.Common.{sym, subst}
use Rattle.sg_plan.specs.declared.plan.Plan.{Plan}
use Rattle.sg_forms.specs.Said.{said}
use Rattle.sg_grammar.proofs.PlanCounts.{other_added, run_fits}
use Rattle.sg_grammar.specs.Made.{IsMade}
use Rattle.sg_grammar.proofs.counted.CountedPlan.add.Goals as goal

pub add_run-requires : goal.add_run-requires
add_run-requires c = run_fits c.args.self.now c.args.head (said c.args.line.now) c.in-Some.run'.style c.in-Some.run'.count c.in-Some.ensures.some c.requires.made c.requires.may

pub invariant_of-self : goal.invariant_of-self
invariant_of-self c =
    let kept = subst (λ (p : Plan). IsMade p c.args.head) (sym c.self.view_is) c.requires.made in
    other_added c.self.inside.plan c.add_to_plan.new.plan c.args.head (said c.args.line.now) c.self.inside.entries c.self.inside.numbers c.add_to_plan.result
    c.in-None.ensures.none kept c.self.invariant c.add_to_plan.ensures.ok c.add_to_plan.ensures.err
