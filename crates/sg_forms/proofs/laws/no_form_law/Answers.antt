-- What has no form.
use Rattle.sg_forms.proofs.LineLaws.{long_lines, open_lines, split_lines, cut_lines}
use Rattle.sg_forms.proofs.laws.no_form_law.Goals as goal

pub returns : goal.returns
returns c = record { long = long_lines; open_end = open_lines; split = split_lines; cut = cut_lines }
