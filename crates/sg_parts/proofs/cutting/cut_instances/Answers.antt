-- One more instance is cut.
use Rattle.std.proofs.Common.{refl, arith}
use Rattle.sg_parts.proofs.Cuts.{instances_all, instances_fit, instances_more, instances_start}
use Rattle.sg_parts.proofs.cutting.cut_instances.Goals as goal

pub loop-at-init : goal.loop-at-init
loop-at-init c = instances_start c.args.count c.args.rows.now c.in_ok-cut.cut c.in_ok-cut.ensures

pub loop-at-preserved : goal.loop-at-preserved
loop-at-preserved c =
    instances_more c.loop-at._at c.args.count c.loop-at.done _ c.args.rows.now c.in_ok-here.here c.loop-at.cut c.push.new.self c.loop-at.invariant refl
    (omega (arith, instances_fit c.loop-at._at c.args.count c.loop-at.done c.args.instances c.args.rows.now c.loop-at.cut c.loop-at.invariant c.loop-at-test.true c.requires))
    c.in_ok-here.ensures c.in_ok-push.ensures.ok

pub returns : goal.returns
returns c = instances_all c.loop-at._at c.args.count c.loop-at.done c.args.instances c.args.rows.now c.loop-at.cut c.loop-at.invariant (omega (arith, c.loop-at-test.false, c.loop-at.auto._at-end)) c.requires
