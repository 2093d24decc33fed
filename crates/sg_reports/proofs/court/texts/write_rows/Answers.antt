-- One more line was written, or a front of it.
use Rattle.std.proofs.Common.{ℕ, List, [], ◌∷◌, ◌+◌, arith, codes, drop, subst}
use Rattle.std.specs.Io.KnownBytes.{Appends}
use Rattle.sg_outside.specs.Streams.{AppendsFront}
use Rattle.sg_report.proofs.Pieces.{HasPut, put_front, put_more}
use Rattle.sg_reports.specs.court.Texts.{numbers_line, rows_text}
use Rattle.sg_reports.proofs.court.texts.write_rows.Goals as goal

pub returns-in-Err-clause-bytes : goal.returns-in-Err-clause-bytes
returns-in-Err-clause-bytes g c =
    let P : List ℕ → Type 0 = λ left. HasPut (g.O.Sink.written c.args.out.now) (g.O.Sink.written c.loop-at.out) (rows_text c.args.race c.args.instance (left)) (rows_text c.args.race c.args.instance c.args.rows.now) in
    let Q : List ℕ → Type 0 = λ numbers. AppendsFront (g.O.Sink.written c.loop-at.out) (g.O.Sink.written c.write_line.new.out) (numbers_line (codes "row") numbers) in
    put_front (g.O.Sink.written c.args.out.now) (g.O.Sink.written c.loop-at.out) (g.O.Sink.written c.write_line.new.out) (numbers_line (codes "row") (c.args.race ∷ c.args.instance ∷ c.get.result.now ∷ [])) (rows_text c.args.race c.args.instance (drop (c.loop-at.at + 1) c.args.rows.now)) (rows_text c.args.race c.args.instance c.args.rows.now)
    (subst P c.get.ensures.rest c.loop-at.invariant.put) (subst Q c.as_slice.ensures c.in-Err.ensures.bytes)

pub loop-at-preserved : goal.loop-at-preserved
loop-at-preserved g c =
    let P : List ℕ → Type 0 = λ left. HasPut (g.O.Sink.written c.args.out.now) (g.O.Sink.written c.loop-at.out) (rows_text c.args.race c.args.instance (left)) (rows_text c.args.race c.args.instance c.args.rows.now) in
    let Q : List ℕ → Type 0 = λ numbers. Appends (g.O.Sink.written c.loop-at.out) (g.O.Sink.written c.write_line.new.out) (numbers_line (codes "row") numbers) in
    record {
      put = put_more (g.O.Sink.written c.args.out.now) (g.O.Sink.written c.loop-at.out) (g.O.Sink.written c.write_line.new.out) (numbers_line (codes "row") (c.args.race ∷ c.args.instance ∷ c.get.result.now ∷ [])) (rows_text c.args.race c.args.instance (drop (c.loop-at.at + 1) c.args.rows.now)) (rows_text c.args.race c.args.instance c.args.rows.now)
          (subst P c.get.ensures.rest c.loop-at.invariant.put) (subst Q c.as_slice.ensures c.in-Ok.ensures.bytes);
      later = omega (arith, c.loop-at.invariant.later, c.in-Ok.ensures.cause.later);
    }
