-- One more line of the totals was put, or a front of it.
use Rattle.std.proofs.Common.{arith, ◌+◌, subst, drop, List}
use Rattle.sg_report.proofs.Pieces.{HasPut, put_front, put_more}
use Rattle.sg_check.specs.declared.judged.Total.{Total}
use Rattle.sg_report.specs.Report.{total_text, totals_text}
use Rattle.sg_report.proofs.report.write_totals.Goals as goal

pub returns-in-Err-clause-bytes : goal.returns-in-Err-clause-bytes
returns-in-Err-clause-bytes g c =
    let P : List Total → Type 0 = λ left. HasPut (g.O.Sink.written c.args.out.now) (g.O.Sink.written c.loop-at.out) (totals_text left) (totals_text c.args.totals.now) in
    put_front (g.O.Sink.written c.args.out.now) (g.O.Sink.written c.loop-at.out) (g.O.Sink.written c.write_total.new.out) (total_text c.get.result.now) (totals_text (drop (c.loop-at.at + 1) c.args.totals.now)) (totals_text c.args.totals.now)
    (subst P c.get.ensures.rest c.loop-at.invariant.put) c.in-Err.ensures.bytes

pub loop-at-preserved : goal.loop-at-preserved
loop-at-preserved g c =
    let P : List Total → Type 0 = λ left. HasPut (g.O.Sink.written c.args.out.now) (g.O.Sink.written c.loop-at.out) (totals_text left) (totals_text c.args.totals.now) in
    record {
      put = put_more (g.O.Sink.written c.args.out.now) (g.O.Sink.written c.loop-at.out) (g.O.Sink.written c.write_total.new.out) (total_text c.get.result.now) (totals_text (drop (c.loop-at.at + 1) c.args.totals.now)) (totals_text c.args.totals.now)
          (subst P c.get.ensures.rest c.loop-at.invariant.put) c.in-Ok.ensures.bytes;
      later = omega (arith, c.loop-at.invariant.later, c.in-Ok.ensures.cause.later);
    }
