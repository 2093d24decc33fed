-- The lines of one more race were written, or a front of them.
use Rattle.std.proofs.Common.{List, ◌+◌, arith, drop, subst}
use Rattle.sg_recount.specs.declared.findings.Sum.{Sum}
use Rattle.sg_report.proofs.Pieces.{HasPut, put_front, put_more}
use Rattle.sg_reports.specs.court.Recounts.{race_sums_text, sums_text}
use Rattle.sg_reports.proofs.court.findings.write_sums.Goals as goal

pub returns-in-Err-clause-bytes : goal.returns-in-Err-clause-bytes
returns-in-Err-clause-bytes g c =
    let P : List (List Sum) → Type 0 = λ left. HasPut (g.O.Sink.written c.args.out.now) (g.O.Sink.written c.loop-race.out) (sums_text c.loop-race.race (left)) (sums_text 0 c.args.lists.now) in
    put_front (g.O.Sink.written c.args.out.now) (g.O.Sink.written c.loop-race.out) (g.O.Sink.written c.write_race_sums.new.out) (race_sums_text c.loop-race.race 0 c.get.result.now) (sums_text (c.loop-race.race + 1) (drop (c.loop-race.race + 1) c.args.lists.now)) (sums_text 0 c.args.lists.now)
    (subst P c.get.ensures.rest c.loop-race.invariant.put) c.in-Err.ensures.bytes

pub loop-race-preserved : goal.loop-race-preserved
loop-race-preserved g c =
    let P : List (List Sum) → Type 0 = λ left. HasPut (g.O.Sink.written c.args.out.now) (g.O.Sink.written c.loop-race.out) (sums_text c.loop-race.race (left)) (sums_text 0 c.args.lists.now) in
    record {
      put = put_more (g.O.Sink.written c.args.out.now) (g.O.Sink.written c.loop-race.out) (g.O.Sink.written c.write_race_sums.new.out) (race_sums_text c.loop-race.race 0 c.get.result.now) (sums_text (c.loop-race.race + 1) (drop (c.loop-race.race + 1) c.args.lists.now)) (sums_text 0 c.args.lists.now)
          (subst P c.get.ensures.rest c.loop-race.invariant.put) c.in-Ok.ensures.bytes;
      later = omega (arith, c.loop-race.invariant.later, c.in-Ok.ensures.cause.later);
    }
