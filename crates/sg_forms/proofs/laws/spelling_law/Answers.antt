-- Lines and their spellings.
use Rattle.sg_forms.proofs.LineLaws.{lines_are_spelled, lines_are_read, lines_differ, lines_are_short}
use Rattle.sg_forms.proofs.laws.spelling_law.Goals as goal

pub returns : goal.returns
returns c = record { spelled = lines_are_spelled; read = lines_are_read; differ = lines_differ; short = lines_are_short }
