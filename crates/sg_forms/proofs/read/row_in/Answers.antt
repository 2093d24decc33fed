-- Where the first word is none of the three, no opening is said.
use Rattle.std.proofs.Common.{◌≡◌, true, false}
use Rattle.sg_forms.proofs.FormLaws.{row_first}
use Rattle.sg_forms.proofs.read.row_in.Goals as goal

pub returns-clause-only : goal.returns-clause-only
returns-clause-only c version opening says =
    let never : false ≡ true =
    row_first version c.args.text.now opening says c.in_default.ensures.only c.in_default-behind_right.ensures.only c.in_default-behind_both.ensures.only in
    cc
