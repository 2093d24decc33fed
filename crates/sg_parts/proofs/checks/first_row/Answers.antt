-- One more row passes, and at the end all.
use Rattle.std.proofs.Common.{ap, sym, ◌∙◌, arith}
use Rattle.sg_plan.specs.Ballots.{entries_of}
use Rattle.sg_plan.specs.declared.plan.Plan.{Plan}
use Rattle.sg_parts.specs.inside.Checks.{passes}
use Rattle.sg_parts.proofs.FirstRows.{below_more}
use Rattle.sg_parts.proofs.checks.first_row.Goals as goal

pub loop-row-preserved : goal.loop-row-preserved
loop-row-preserved c =
    below_more (passes c.args.index.now c.args.posted.now c.args.test.now c.args.race c.args.instance) c.loop-row.row c.loop-row.invariant (sym c.passes.ensures ∙ c.if-not-passes.false)

pub returns : goal.returns
returns c = λ x less. c.loop-row.invariant x (omega (arith, less, c.loop-row-test.false, c.loop-row.auto.row-end, c.entries-row-end.ensures, ap (λ (p : Plan). entries_of p c.args.race) c.plan.ensures.plan))
