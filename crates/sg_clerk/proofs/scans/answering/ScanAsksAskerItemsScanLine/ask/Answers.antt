-- A record was answered.
use Rattle.sg_clerk.proofs.ScanFiles.ScanAsks.{can-come, record-replied}
use Rattle.sg_clerk.proofs.scans.answering.ScanAsksAskerItemsScanLine.ask.Goals as goal

pub answer_record-answer-requires : goal.answer_record-answer-requires
answer_record-answer-requires g c = can-come _ c.args.self.now.at _ c.get.ensures.rest c.requires.0

pub returns-clause-asks : goal.returns-clause-asks
returns-clause-asks g c = λ history start first exchanges stands came.
    let answered = c.answer_record-answer.ensures in
    record-replied _ _ c.args.self.now.at _ c.answer_record-answer.result _ _ _ _ _ _ _ history exchanges c.get.ensures.rest (answered.answers history stands) answered.stores came
