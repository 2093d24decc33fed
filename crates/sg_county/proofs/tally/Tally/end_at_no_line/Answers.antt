-- The next bytes are no line of the last part.
use Rattle.sg_county.proofs.TallyEnd.{no_line_answers, open_last, open_pass}
use Rattle.sg_county.proofs.tally.Tally.end_at_no_line.Goals as goal

pub end_last_at_no_line-requires : goal.end_last_at_no_line-requires
end_last_at_no_line-requires c = record { last = open_last c.args.self c.requires.open c.requires.stands; «open» = open_pass c.args.self c.requires.open c.requires.stands }

pub returns-clause-all : goal.returns-clause-all
returns-clause-all c = λ lines more text stands form inner.
    no_line_answers c.args.self c.end_last_at_no_line.result c.requires.open lines more text stands inner
    (λ before rest last later is. c.end_last_at_no_line.ensures.all before rest last later text is form)

pub returns-clause-refuses : goal.returns-clause-refuses
returns-clause-refuses c = c.end_last_at_no_line.ensures.refuses
