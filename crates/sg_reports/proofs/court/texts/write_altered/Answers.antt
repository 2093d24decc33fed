-- The lines of one more race were written, or a front of them.
use Rattle.std.proofs.Common.{ℕ, List, ◌+◌, arith, drop, subst}
use Rattle.sg_report.proofs.Pieces.{HasPut, put_front, put_more}
use Rattle.sg_reports.specs.court.Texts.{altered_text, instances_text}
use Rattle.sg_reports.proofs.court.texts.write_altered.Goals as goal

pub returns-in-Err-clause-bytes : goal.returns-in-Err-clause-bytes
returns-in-Err-clause-bytes g c =
    let P : List (List (List ℕ)) → Type 0 = λ left. HasPut (g.O.Sink.written c.args.out.now) (g.O.Sink.written c.loop-race.out) (altered_text c.loop-race.race (left)) (altered_text 0 c.args.all.now) in
    put_front (g.O.Sink.written c.args.out.now) (g.O.Sink.written c.loop-race.out) (g.O.Sink.written c.write_instances.new.out) (instances_text c.loop-race.race 0 c.get.result.now) (altered_text (c.loop-race.race + 1) (drop (c.loop-race.race + 1) c.args.all.now)) (altered_text 0 c.args.all.now)
    (subst P c.get.ensures.rest c.loop-race.invariant.put) c.in-Err.ensures.bytes

pub loop-race-preserved : goal.loop-race-preserved
loop-race-preserved g c =
    let P : List (List (List ℕ)) → Type 0 = λ left. HasPut (g.O.Sink.written c.args.out.now) (g.O.Sink.written c.loop-race.out) (altered_text c.loop-race.race (left)) (altered_text 0 c.args.all.now) in
    record {
      put = put_more (g.O.Sink.written c.args.out.now) (g.O.Sink.written c.loop-race.out) (g.O.Sink.written c.write_instances.new.out) (instances_text c.loop-race.race 0 c.get.result.now) (altered_text (c.loop-race.race + 1) (drop (c.loop-race.race + 1) c.args.all.now)) (altered_text 0 c.args.all.now)
          (subst P c.get.ensures.rest c.loop-race.invariant.put) c.in-Ok.ensures.bytes;
      later = omega (arith, c.loop-race.invariant.later, c.in-Ok.ensures.cause.later);
    }
