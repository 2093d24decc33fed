-- The answer that was settled, or that of the last part.
use Rattle.std.proofs.Common.{sym, ◌∙◌}
use Rattle.sg_county.proofs.TallyEnd.{broken_pass, last_answers, last_stays, settled_ends, settled_refuses, settled_stays, some_last}
use Rattle.sg_county.proofs.tally.Tally.end.Goals as goal

pub end_open-requires : goal.end_open-requires
end_open-requires c = some_last c.args.self (sym c.take.ensures.value ∙ c.in-None.is) c.requires.stands

pub returns-in-Some-clause-all : goal.returns-in-Some-clause-all
returns-in-Some-clause-all c = λ lines stands. settled_ends c.args.self lines c.in-Some.verdict (sym c.take.ensures.value ∙ c.in-Some.is) stands

pub returns-in-Some-clause-over : goal.returns-in-Some-clause-over
returns-in-Some-clause-over c = λ over lines more stands. settled_stays c.args.self lines more c.in-Some.verdict (sym c.take.ensures.value ∙ c.in-Some.is) stands

pub returns-in-Some-clause-refuses : goal.returns-in-Some-clause-refuses
returns-in-Some-clause-refuses c = λ over. settled_refuses c.args.self c.requires.stands.0 c.in-Some.verdict (sym c.take.ensures.value ∙ c.in-Some.is) c.requires.stands.1

pub returns-in-None-clause-all : goal.returns-in-None-clause-all
returns-in-None-clause-all c = λ lines stands. last_answers c.args.self lines c.end_open.result (sym c.take.ensures.value ∙ c.in-None.is) stands c.end_open.ensures.all

pub returns-in-None-clause-over : goal.returns-in-None-clause-over
returns-in-None-clause-over c = λ over lines more stands. last_stays c.args.self lines more c.end_open.result (sym c.take.ensures.value ∙ c.in-None.is) stands over c.end_open.ensures.over

pub returns-in-None-clause-refuses : goal.returns-in-None-clause-refuses
returns-in-None-clause-refuses c = λ over. c.end_open.ensures.refuses (broken_pass c.args.self (sym c.take.ensures.value ∙ c.in-None.is) c.requires.stands over)
