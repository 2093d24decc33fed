-- What is written so far, and what is left.
use Rattle.std.proofs.Common.{length}
use Rattle.sg_record.proofs.Putting.{LeftEach}
use Rattle.sg_grammar.specs.Due.{lines_for}
use Rattle.sg_record.specs.Tree.{as_line, flag_leaf}
use Rattle.sg_record.specs.Pens.{moment}
use Rattle.sg_record.proofs.results.put_flag_lines.Given as goal

abbrev pub invariant-loop-line : goal.invariant-loop-line
invariant-loop-line g l = LeftEach (moment g.O.Sink.written g.O.Sink.faults l.fn.pen l.fn.out) (moment g.O.Sink.written g.O.Sink.faults l.pen l.out) (flag_leaf as_line l.race l.instance l.bits) l.line (lines_for (length l.bits))
