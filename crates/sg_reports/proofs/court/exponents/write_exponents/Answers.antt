-- One more line was written, or a front of it.
use Rattle.std.proofs.Common.{ℕ, List, [], ◌∷◌, ◌+◌, arith, codes, drop, subst}
use Rattle.std.specs.Io.KnownBytes.{Appends}
use Rattle.sg_outside.specs.Streams.{AppendsFront}
use Rattle.sg_report.proofs.Pieces.{HasPut, put_front, put_more}
use Rattle.sg_reports.specs.court.Texts.{numbers_line}
use Rattle.sg_reports.specs.court.inside.Finding.{values_text}
use Rattle.sg_reports.proofs.court.exponents.write_exponents.Goals as goal

pub returns-in-Err-clause-bytes : goal.returns-in-Err-clause-bytes
returns-in-Err-clause-bytes g c =
    let P : List ℕ → Type 0 = λ left. HasPut (g.O.Sink.written c.args.out.now) (g.O.Sink.written c.loop-race.out) (values_text c.loop-race.race (left)) (values_text 0 c.args.values.now) in
    let Q : List ℕ → Type 0 = λ numbers. AppendsFront (g.O.Sink.written c.loop-race.out) (g.O.Sink.written c.write_line.new.out) (numbers_line (codes "exponent") numbers) in
    put_front (g.O.Sink.written c.args.out.now) (g.O.Sink.written c.loop-race.out) (g.O.Sink.written c.write_line.new.out) (numbers_line (codes "exponent") (c.loop-race.race ∷ c.get.result.now ∷ [])) (values_text (c.loop-race.race + 1) (drop (c.loop-race.race + 1) c.args.values.now)) (values_text 0 c.args.values.now)
    (subst P c.get.ensures.rest c.loop-race.invariant.put) (subst Q c.as_slice.ensures c.in-Err.ensures.bytes)

pub loop-race-preserved : goal.loop-race-preserved
loop-race-preserved g c =
    let P : List ℕ → Type 0 = λ left. HasPut (g.O.Sink.written c.args.out.now) (g.O.Sink.written c.loop-race.out) (values_text c.loop-race.race (left)) (values_text 0 c.args.values.now) in
    let Q : List ℕ → Type 0 = λ numbers. Appends (g.O.Sink.written c.loop-race.out) (g.O.Sink.written c.write_line.new.out) (numbers_line (codes "exponent") numbers) in
    record {
      put = put_more (g.O.Sink.written c.args.out.now) (g.O.Sink.written c.loop-race.out) (g.O.Sink.written c.write_line.new.out) (numbers_line (codes "exponent") (c.loop-race.race ∷ c.get.result.now ∷ [])) (values_text (c.loop-race.race + 1) (drop (c.loop-race.race + 1) c.args.values.now)) (values_text 0 c.args.values.now)
          (subst P c.get.ensures.rest c.loop-race.invariant.put) (subst Q c.as_slice.ensures c.in-Ok.ensures.bytes);
      later = omega (arith, c.loop-race.invariant.later, c.in-Ok.ensures.cause.later);
    }
