-- The lines follow one another.
use Rattle.std.proofs.Common.{length, arith}
use Rattle.sg_record.proofs.Putting.{each_end, each_fault, each_next}
use Rattle.sg_grammar.specs.Due.{lines_for}
use Rattle.sg_record.specs.Tree.{as_line, place_leaf}
use Rattle.sg_record.proofs.results.put_place_lines.Goals as goal

pub returns-in_err-put_place_line : goal.returns-in_err-put_place_line
returns-in_err-put_place_line g c =
    each_fault _ _ _ _ _ (place_leaf as_line c.args.race c.args.bits.now) c.loop-line.line (lines_for (length c.args.bits.now)) (omega arith) c.loop-line.invariant c.from_residual.ensures.0 c.in_err-put_place_line.ensures

pub loop-line-preserved : goal.loop-line-preserved
loop-line-preserved g c =
    each_next _ _ _ _ (place_leaf as_line c.args.race c.args.bits.now) c.loop-line.line (lines_for (length c.args.bits.now)) (omega arith) c.loop-line.invariant c.in_ok-put_place_line.ensures

pub returns : goal.returns
returns g c = each_end _ _ _ (place_leaf as_line c.args.race c.args.bits.now) c.loop-line.line (lines_for (length c.args.bits.now)) c.loop-line.invariant (omega arith)
