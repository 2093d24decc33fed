use Rattle.std.proofs.Common.{refl}
use Rattle.sg_talk.proofs.Writable.{turn_can}
use Rattle.sg_talk.proofs.turns.reply_to.Goals as goal

pub returns-clause-replies : goal.returns-clause-replies
returns-clause-replies g c = λ history stands.
    let turned = c.answer.ensures.turn history stands in
    record { next = turned.next; said = c.answer.result; is = refl; turn = (c.requires, turned.turn); stands = turned.stands; kept = turned.kept }

pub returns-clause-writable : goal.returns-clause-writable
returns-clause-writable g c =
    let law = c.office_law.ensures in
    let turned = c.answer.ensures.turn law.history law.stands in
    turn_can c.args.office.now.setup law.history turned.next c.args.ask.now c.answer.result law.limits law.stands.lawful turned.turn
