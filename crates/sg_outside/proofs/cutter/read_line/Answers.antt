-- Each read brings the next bytes behind those held, and the first line feed among them ends the line.
use Rattle.std.proofs.Common.{rules, arith, ◌≤◌, ◌+◌, ◌-◌, length-take, length-drop, drop}
use Rattle.sg_outside.proofs.CuttingLemmas.{HasNoFeed-read, IsLine-read, cut_read, take_read}
use Rattle.sg_outside.proofs.cutter.read_line.Goals as goal

pub returns-in-Some-clause-cut : goal.returns-in-Some-clause-cut
returns-in-Some-clause-cut g c = λ text.
    let end = c.loop-end.end in
    let count = c.in-Ok.count in
    let within : end + c.in-Some.len ≤ end + count =
    omega (arith, c.in-Some.ensures.0, length-take ((end + count) - end) (drop end c.read_more.new.buf), length-drop end c.read_more.new.buf) in
    cut_read _ _ c.read_more.new.buf _ _ within (take_read _ _ _ c.loop-end.buf c.read_more.new.buf end count c.loop-end.invariant.came c.in-Ok.ensures.ok)

pub returns-in-Some-clause-found : goal.returns-in-Some-clause-found
returns-in-Some-clause-found g c = λ text.
    let end = c.loop-end.end in
    let count = c.in-Ok.count in
    let within : c.in-Some.len ≤ count =
    omega (arith, c.in-Some.ensures.0, length-take ((end + count) - end) (drop end c.read_more.new.buf), length-drop end c.read_more.new.buf) in
    IsLine-read c.loop-end.buf c.read_more.new.buf end count c.in-Some.len _ _ c.in-Ok.ensures.ok within c.loop-end.invariant.none c.in-Some.ensures.1

pub loop-end-preserved : goal.loop-end-preserved
loop-end-preserved g c =
    let end = c.loop-end.end in
    let count = c.in-Ok.count in
    record {
      low = omega arith;
      high = c.in-Ok.ensures.ok.bounds;
      same = search rules;
      none = HasNoFeed-read c.loop-end.buf c.read_more.new.buf end count _ _ c.in-Ok.ensures.ok c.loop-end.invariant.none c.in_default-line_len.ensures;
      came = take_read _ _ _ c.loop-end.buf c.read_more.new.buf end count c.loop-end.invariant.came c.in-Ok.ensures.ok;
      full = λ all. absurd (omega arith);
      later = search rules;
    }
