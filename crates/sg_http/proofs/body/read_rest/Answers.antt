-- Each read brings the next bytes behind those read before.
use Rattle.std.proofs.Common.{rules, arith}
use Rattle.sg_links.proofs.TakenLemmas.{Taken-last, Taken-on, Taken-same, front_kept}
use Rattle.sg_http.proofs.body.read_rest.Goals as goal

pub returns-in_default-clause-taken : goal.returns-in_default-clause-taken
returns-in_default-clause-taken g c = λ first old.
    Taken-same first _ _ c.loop-at.buf c.read_more.new.buf c.loop-at.at c.in_default.ensures.kept c.in_default.ensures.front (c.loop-at.invariant.taken first old)

pub returns-in_default-clause-front : goal.returns-in_default-clause-front
returns-in_default-clause-front g c =
    front_kept _ c.loop-at.buf c.read_more.new.buf _ c.loop-at.at c.loop-at.invariant.low c.in_default.ensures.front c.loop-at.invariant.front

pub returns-then-count-eq0-clause-taken : goal.returns-then-count-eq0-clause-taken
returns-then-count-eq0-clause-taken g c = λ first old.
    Taken-last first _ _ c.loop-at.buf c.read_more.new.buf c.loop-at.at c.in-Ok.count c.if-count-eq0.true c.in-Ok.ensures.ok.front (c.loop-at.invariant.taken first old) c.in-Ok.ensures.taken

pub returns-then-count-eq0-clause-front : goal.returns-then-count-eq0-clause-front
returns-then-count-eq0-clause-front g c =
    front_kept _ c.loop-at.buf c.read_more.new.buf _ c.loop-at.at c.loop-at.invariant.low c.in-Ok.ensures.ok.front c.loop-at.invariant.front

pub loop-at-preserved : goal.loop-at-preserved
loop-at-preserved g c =
    record {
      low = omega arith;
      high = search rules;
      most = omega (arith, c.in-Ok.ensures.ok.bounds);
      same = search rules;
      front = front_kept _ c.loop-at.buf c.read_more.new.buf _ c.loop-at.at c.loop-at.invariant.low c.in-Ok.ensures.ok.front c.loop-at.invariant.front;
      opened = search rules;
      taken = λ first old.
          Taken-on first _ _ c.loop-at.buf c.read_more.new.buf c.loop-at.at c.in-Ok.count (omega (arith, c.if-count-eq0.false)) c.in-Ok.ensures.ok.front (c.loop-at.invariant.taken first old) c.in-Ok.ensures.taken;
      later = search rules;
    }
