-- The line of the sheet is off; or the printing doesn't stand with the record; or the line of the completion is off.
use Rattle.std.proofs.Common.{subst, arith}
use Rattle.sg_parts.specs.inside.Reading.{Judges}
use Rattle.sg_parts.proofs.Finding.{asked_few, before_few, completion_fault, sheet_fault, stand_fault, taken_asked}
use Rattle.sg_parts.proofs.reading.PartsReading.next_fault.Goals as goal

pub overflow_add-number : goal.overflow_add-number
overflow_add-number c =
    omega (arith, taken_asked c.args.self.now c.requires.0 c.requires.1, asked_few c.args.self.now c.requires.0 c.requires.1, before_few c.args.self.now c.requires.0 c.requires.1)

pub overflow_add-number-2 : goal.overflow_add-number-2
overflow_add-number-2 c =
    omega (arith, taken_asked c.args.self.now c.requires.0 c.requires.1, asked_few c.args.self.now c.requires.0 c.requires.1, before_few c.args.self.now c.requires.0 c.requires.1)

pub returns-then-self-len-clause-has : goal.returns-then-self-len-clause-has
returns-then-self-len-clause-has c = λ lines rest has off. sheet_fault c.args.self.now lines has rest off (omega (arith, c.if-self-len.true, c.len.ensures))

pub check_standing-requires-clause-accepted : goal.check_standing-requires-clause-accepted
check_standing-requires-clause-accepted c = c.requires.1.of_record.accepted

pub check_standing-requires-clause-index : goal.check_standing-requires-clause-index
check_standing-requires-clause-index c = c.requires.1.index

pub returns-in-Some-clause-has : goal.returns-in-Some-clause-has
returns-in-Some-clause-has c = λ lines rest has off.
    stand_fault c.args.self.now lines has rest off (omega (arith, c.if-self-len.false, c.len.ensures)) c.in-Some.off
    (subst (Judges c.args.self.now.posted c.args.self.now.codes) c.in-Some.is c.in_ok-off.ensures)

pub returns-in-None-clause-has : goal.returns-in-None-clause-has
returns-in-None-clause-has c = λ lines rest has off.
    completion_fault c.args.self.now lines has rest off (omega (arith, c.if-self-len.false, c.len.ensures))
    (subst (Judges c.args.self.now.posted c.args.self.now.codes) c.in-None.is c.in_ok-off.ensures)
