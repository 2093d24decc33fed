use Rattle.std.proofs.Common.{w64, ap, ◌∙◌}
use Rattle.std.proofs.lemmas.Int.{to_z-of_z}
use Rattle.std.specs.Option.{option_copied}
use Rattle.sg_office.specs.inside.Runs.{text_in}
use Rattle.sg_office.proofs.done_list.text_in.Goals as goal

pub returns-in_err-get : goal.returns-in_err-get
returns-in_err-get c =
    ap option_copied c.from_residual.ensures ∙ ap (text_in c.args.number) (rw (to_z-of_z w64 c.args.station c.ranges.station) at c.in_err-get.ensures.value)
