-- One more line was appended, or a front of it.
use Rattle.std.proofs.Common.{subst, drop, arith, List, ℕ}
use Rattle.std.specs.Prelude.{slice_range}
use Rattle.std.proofs.lemmas.List.Folds.{drop_split}
use Rattle.sg_sample.proofs.Puts.{HasPut, front_put, one_put}
use Rattle.sg_sample.proofs.putting.put_lines.Goals as goal

pub returns-in-Err-clause-bytes : goal.returns-in-Err-clause-bytes
returns-in-Err-clause-bytes g c =
    let P : List ℕ → Type 0 = λ left. HasPut (g.O.Sink.written c.args.out.now) (g.O.Sink.written c.loop-at.out) left c.args.text.now in
    let split = drop_split c.args.text.now c.loop-at.at c.line_end-end.result (omega (arith, c.line_end-end.ensures.more)) in
    front_put _ _ _ (slice_range c.args.text.now c.loop-at.at c.line_end-end.result) (drop c.line_end-end.result c.args.text.now) c.args.text.now
    (subst P split c.loop-at.invariant.0) c.in-Err.ensures.bytes

pub loop-at-preserved : goal.loop-at-preserved
loop-at-preserved g c =
    let P : List ℕ → Type 0 = λ left. HasPut (g.O.Sink.written c.args.out.now) (g.O.Sink.written c.loop-at.out) left c.args.text.now in
    let split = drop_split c.args.text.now c.loop-at.at c.line_end-end.result (omega (arith, c.line_end-end.ensures.more)) in (
      one_put _ _ _ (slice_range c.args.text.now c.loop-at.at c.line_end-end.result) (drop c.line_end-end.result c.args.text.now) c.args.text.now
          (subst P split c.loop-at.invariant.0) c.in-Ok.ensures.bytes,
      c.line_end-end.ensures.within,
      omega (arith, c.loop-at.invariant.2, c.in-Ok.ensures.cause.later),
    )
