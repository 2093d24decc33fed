-- The instances follow one another.
use Rattle.std.proofs.Common.{arith}
use Rattle.sg_record.proofs.Putting.{each_end, each_fault, each_next}
use Rattle.sg_openings.specs.inside.Lines.{instance_lines}
use Rattle.sg_openings.proofs.writing.put_race.Goals as goal

pub returns-in_err-put_instance : goal.returns-in_err-put_instance
returns-in_err-put_instance g c =
    each_fault _ _ _ _ _ (instance_lines c.args.tables.now.plan c.args.tables.now.seed c.args.race) c.loop-instance.instance (c.args.tables.now.plan.instances) (omega arith) c.loop-instance.invariant c.from_residual.ensures.0 c.in_err-put_instance.ensures

pub loop-instance-preserved : goal.loop-instance-preserved
loop-instance-preserved g c =
    each_next _ _ _ _ (instance_lines c.args.tables.now.plan c.args.tables.now.seed c.args.race) c.loop-instance.instance (c.args.tables.now.plan.instances) (omega arith) c.loop-instance.invariant c.in_ok-put_instance.ensures

pub returns : goal.returns
returns g c = each_end _ _ _ (instance_lines c.args.tables.now.plan c.args.tables.now.seed c.args.race) c.loop-instance.instance (c.args.tables.now.plan.instances) c.loop-instance.invariant (omega arith)
