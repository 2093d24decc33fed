-- One more line was written, or a front of it.
use Rattle.std.proofs.Common.{ℕ, List, [], ◌∷◌, ◌+◌, arith, codes, drop, subst}
use Rattle.std.specs.Io.KnownBytes.{Appends}
use Rattle.sg_outside.specs.Streams.{AppendsFront}
use Rattle.sg_recount.specs.declared.findings.Sum.{Sum}
use Rattle.sg_report.proofs.Pieces.{HasPut, put_front, put_more}
use Rattle.sg_reports.specs.court.Recounts.{race_sums_text}
use Rattle.sg_reports.specs.court.Texts.{numbers_line}
use Rattle.sg_reports.proofs.court.findings.write_race_sums.Goals as goal

pub returns-in-Err-clause-bytes : goal.returns-in-Err-clause-bytes
returns-in-Err-clause-bytes g c =
    let P : List Sum → Type 0 = λ left. HasPut (g.O.Sink.written c.args.out.now) (g.O.Sink.written c.loop-candidate.out) (race_sums_text c.args.race c.loop-candidate.candidate (left)) (race_sums_text c.args.race 0 c.args.sums.now) in
    let Q : List ℕ → Type 0 = λ numbers. AppendsFront (g.O.Sink.written c.loop-candidate.out) (g.O.Sink.written c.write_line.new.out) (numbers_line (codes "candidate") numbers) in
    put_front (g.O.Sink.written c.args.out.now) (g.O.Sink.written c.loop-candidate.out) (g.O.Sink.written c.write_line.new.out) (numbers_line (codes "candidate") (c.args.race ∷ c.loop-candidate.candidate ∷ c.get-sum.result.now.total ∷ c.get-sum.result.now.count ∷ [])) (race_sums_text c.args.race (c.loop-candidate.candidate + 1) (drop (c.loop-candidate.candidate + 1) c.args.sums.now)) (race_sums_text c.args.race 0 c.args.sums.now)
    (subst P c.get-sum.ensures.rest c.loop-candidate.invariant.put) (subst Q c.as_slice.ensures c.in-Err.ensures.bytes)

pub loop-candidate-preserved : goal.loop-candidate-preserved
loop-candidate-preserved g c =
    let P : List Sum → Type 0 = λ left. HasPut (g.O.Sink.written c.args.out.now) (g.O.Sink.written c.loop-candidate.out) (race_sums_text c.args.race c.loop-candidate.candidate (left)) (race_sums_text c.args.race 0 c.args.sums.now) in
    let Q : List ℕ → Type 0 = λ numbers. Appends (g.O.Sink.written c.loop-candidate.out) (g.O.Sink.written c.write_line.new.out) (numbers_line (codes "candidate") numbers) in
    record {
      put = put_more (g.O.Sink.written c.args.out.now) (g.O.Sink.written c.loop-candidate.out) (g.O.Sink.written c.write_line.new.out) (numbers_line (codes "candidate") (c.args.race ∷ c.loop-candidate.candidate ∷ c.get-sum.result.now.total ∷ c.get-sum.result.now.count ∷ [])) (race_sums_text c.args.race (c.loop-candidate.candidate + 1) (drop (c.loop-candidate.candidate + 1) c.args.sums.now)) (race_sums_text c.args.race 0 c.args.sums.now)
          (subst P c.get-sum.ensures.rest c.loop-candidate.invariant.put) (subst Q c.as_slice.ensures c.in-Ok.ensures.bytes);
      later = omega (arith, c.loop-candidate.invariant.later, c.in-Ok.ensures.cause.later);
    }
