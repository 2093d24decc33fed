-- The next bytes are no line of the last part.
use Rattle.sg_county.proofs.LastEnd.{few_seals, no_line_ends}
use Rattle.std.proofs.Common.{◌∷◌, ◌++◌}
use Rattle.sg_county.proofs.last.end_last_at_no_line.Goals as goal

pub number-requires : goal.number-requires
number-requires c = few_seals c.args.pass c.args.kept c.requires.last

pub returns-clause-all : goal.returns-clause-all
returns-clause-all c = λ before rest last more text is form.
    no_line_ends c.args.kept c.bad_part.result c.end_at_no_line.result c.number.result c.number.ensures c.bad_part.ensures.settles before rest (last ++ text ∷ more) is.keeps is.few
    (c.end_at_no_line.ensures.all last more text is.stands form)
