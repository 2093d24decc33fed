-- No line is missing, and the printing stands with the record; or this is the fault.
use Rattle.std.proofs.Common.{List, ℕ, [], append-nil, subst, arith}
use Rattle.sg_parts.specs.Faults.{HasFault}
use Rattle.sg_parts.specs.inside.Reading.{Judges}
use Rattle.sg_parts.proofs.Finding.{all_taken, asked_few}
use Rattle.sg_parts.proofs.Wholes.{stand_off}
use Rattle.sg_parts.proofs.reading.PartsReading.check.Goals as goal

pub overflow_add-len : goal.overflow_add-len
overflow_add-len c = omega (arith, asked_few c.args.self.now c.requires.0 c.requires.1, c.len.ensures)

pub overflow_add-len-2 : goal.overflow_add-len-2
overflow_add-len-2 c = omega (arith, asked_few c.args.self.now c.requires.0 c.requires.1, c.len.ensures)

pub returns-then-self-len-clause-fault : goal.returns-then-self-len-clause-fault
returns-then-self-len-clause-fault c = λ lines has.
    subst (λ (l : List (List ℕ)). HasFault l c.in_ok-off.off) (append-nil lines) (c.in_ok-off.ensures.has lines [] has (omega (arith, c.if-self-len.true, c.len.ensures)))

pub check_standing-requires-clause-accepted : goal.check_standing-requires-clause-accepted
check_standing-requires-clause-accepted c = c.requires.1.of_record.accepted

pub check_standing-requires-clause-index : goal.check_standing-requires-clause-index
check_standing-requires-clause-index c = c.requires.1.index

pub returns-in-Some-clause-fault : goal.returns-in-Some-clause-fault
returns-in-Some-clause-fault c = λ lines has.
    let all = all_taken c.args.self.now lines has (omega (arith, c.if-self-len.false, c.len.ensures)) in
    stand_off lines c.args.self.now.posted c.args.self.now.codes all.rest all.sheet c.in-Some.off (subst (Judges c.args.self.now.posted c.args.self.now.codes) c.in-Some.is c.in_ok-off-2.ensures)
