-- The lines follow one another.
use Rattle.std.proofs.Common.{length, arith}
use Rattle.sg_record.proofs.Putting.{each_end, each_fault, each_next}
use Rattle.sg_grammar.specs.Due.{lines_for}
use Rattle.sg_record.specs.Tree.{as_line, flag_leaf}
use Rattle.sg_record.proofs.results.put_flag_lines.Goals as goal

pub returns-in_err-put_flag_line : goal.returns-in_err-put_flag_line
returns-in_err-put_flag_line g c =
    each_fault _ _ _ _ _ (flag_leaf as_line c.args.race c.args.instance c.args.bits.now) c.loop-line.line (lines_for (length c.args.bits.now)) (omega arith) c.loop-line.invariant c.from_residual.ensures.0 c.in_err-put_flag_line.ensures

pub loop-line-preserved : goal.loop-line-preserved
loop-line-preserved g c =
    each_next _ _ _ _ (flag_leaf as_line c.args.race c.args.instance c.args.bits.now) c.loop-line.line (lines_for (length c.args.bits.now)) (omega arith) c.loop-line.invariant c.in_ok-put_flag_line.ensures

pub returns : goal.returns
returns g c = each_end _ _ _ (flag_leaf as_line c.args.race c.args.instance c.args.bits.now) c.loop-line.line (lines_for (length c.args.bits.now)) c.loop-line.invariant (omega arith)
