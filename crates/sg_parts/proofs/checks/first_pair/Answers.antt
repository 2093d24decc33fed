-- The rows of one more instance pass.
use Rattle.sg_plan.specs.Ballots.{entries_of}
use Rattle.sg_parts.specs.inside.Checks.{passes}
use Rattle.sg_parts.proofs.FirstRows.{pair_more}
use Rattle.sg_parts.proofs.checks.first_pair.Goals as goal

pub loop-instance-preserved : goal.loop-instance-preserved
loop-instance-preserved c = pair_more (entries_of c.args.index.now c.args.race) (passes c.args.index.now c.args.posted.now c.args.test.now c.args.race) c.loop-instance.instance c.loop-instance.invariant c.in_default.ensures
