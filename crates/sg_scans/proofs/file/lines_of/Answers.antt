use Rattle.std.proofs.Common.{rules, arith}
use Rattle.std.proofs.lemmas.Grind.{common_steps}
use Rattle.sg_scans.proofs.ByFields.{each_push}
use Rattle.sg_scans.proofs.file.lines_of.Goals as goal

pub loop-at-preserved : goal.loop-at-preserved
loop-at-preserved c = (
  first_of (search rules, grind (arith, common_steps)),
  each_push c.loop-at.lines c.push.new.self c.in_ok-line_of.field-0 c.in_ok-push.ensures.ok c.loop-at.invariant.1 c.in_ok-line_of.ensures.comes,
)
