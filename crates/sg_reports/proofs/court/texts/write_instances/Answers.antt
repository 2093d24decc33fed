-- The lines of one more instance were written, or a front of them.
use Rattle.std.proofs.Common.{ℕ, List, ◌+◌, arith, drop, subst}
use Rattle.sg_report.proofs.Pieces.{HasPut, put_front, put_more}
use Rattle.sg_reports.specs.court.Texts.{instance_text, instances_text}
use Rattle.sg_reports.proofs.court.texts.write_instances.Goals as goal

pub returns-in-Err-clause-bytes : goal.returns-in-Err-clause-bytes
returns-in-Err-clause-bytes g c =
    let P : List (List ℕ) → Type 0 = λ left. HasPut (g.O.Sink.written c.args.out.now) (g.O.Sink.written c.loop-instance.out) (instances_text c.args.race c.loop-instance.instance (left)) (instances_text c.args.race 0 c.args.lists.now) in
    put_front (g.O.Sink.written c.args.out.now) (g.O.Sink.written c.loop-instance.out) (g.O.Sink.written c.write_instance.new.out) (instance_text c.args.race c.loop-instance.instance c.get.result.now) (instances_text c.args.race (c.loop-instance.instance + 1) (drop (c.loop-instance.instance + 1) c.args.lists.now)) (instances_text c.args.race 0 c.args.lists.now)
    (subst P c.get.ensures.rest c.loop-instance.invariant.put) c.in-Err.ensures.bytes

pub loop-instance-preserved : goal.loop-instance-preserved
loop-instance-preserved g c =
    let P : List (List ℕ) → Type 0 = λ left. HasPut (g.O.Sink.written c.args.out.now) (g.O.Sink.written c.loop-instance.out) (instances_text c.args.race c.loop-instance.instance (left)) (instances_text c.args.race 0 c.args.lists.now) in
    record {
      put = put_more (g.O.Sink.written c.args.out.now) (g.O.Sink.written c.loop-instance.out) (g.O.Sink.written c.write_instance.new.out) (instance_text c.args.race c.loop-instance.instance c.get.result.now) (instances_text c.args.race (c.loop-instance.instance + 1) (drop (c.loop-instance.instance + 1) c.args.lists.now)) (instances_text c.args.race 0 c.args.lists.now)
          (subst P c.get.ensures.rest c.loop-instance.invariant.put) c.in-Ok.ensures.bytes;
      later = omega (arith, c.loop-instance.invariant.later, c.in-Ok.ensures.cause.later);
    }
