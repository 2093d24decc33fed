-- A verdict is sound.
use Rattle.sg_outside.specs.TextLines.{lines_of}
use Rattle.sg_check.proofs.Accepted.{result_is_sound}
use Rattle.sg_judge.proofs.judging.judge.Goals as goal

pub returns-clause-sound : goal.returns-clause-sound
returns-clause-sound c = result_is_sound (lines_of c.args.text.now) c.judge_lines.result c.judge_lines.ensures
