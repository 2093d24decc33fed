-- Each read brings the next bytes behind those held.
use Rattle.std.proofs.Common.{◌∙◌, arith}
use Rattle.sg_clerk.proofs.Hearing.{take_read}
use Rattle.sg_clerk.proofs.filling.fill.Goals as goal

pub loop-end-preserved : goal.loop-end-preserved
loop-end-preserved g c = record {
  high = c.in-Ok.ensures.ok.bounds;
  same = c.in-Ok.ensures.same ∙ c.loop-end.invariant.same;
  came = take_read _ _ _ c.loop-end.buf c.read_behind.new.buf c.loop-end.end c.in-Ok.count c.loop-end.invariant.came c.in-Ok.ensures.ok;
  later = omega (arith, c.loop-end.invariant.later, c.in-Ok.ensures.cause.later);
}
