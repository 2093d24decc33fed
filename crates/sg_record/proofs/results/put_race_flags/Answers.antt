-- The instances follow one another.
use Rattle.std.proofs.Common.{arith}
use Rattle.sg_record.proofs.Putting.{list_end, list_fault, list_next}
use Rattle.sg_record.specs.Tree.{as_line, flag_tree}
use Rattle.sg_record.proofs.results.put_race_flags.Goals as goal

pub returns-in_err-put_flag_lines : goal.returns-in_err-put_flag_lines
returns-in_err-put_flag_lines g c =
    list_fault _ _ _ _ _ (flag_tree as_line c.args.race) c.args.instances.now c.loop-instance.instance c.get-bits.result.now c.loop-instance.invariant c.get-bits.ensures.rest c.from_residual.ensures.0 c.in_err-put_flag_lines.ensures

pub loop-instance-preserved : goal.loop-instance-preserved
loop-instance-preserved g c =
    list_next _ _ _ _ (flag_tree as_line c.args.race) c.args.instances.now c.loop-instance.instance c.get-bits.result.now c.loop-instance.invariant c.get-bits.ensures.rest c.in_ok-put_flag_lines.ensures

pub returns : goal.returns
returns g c = list_end _ _ _ (flag_tree as_line c.args.race) c.args.instances.now c.loop-instance.instance c.loop-instance.invariant (omega arith)
