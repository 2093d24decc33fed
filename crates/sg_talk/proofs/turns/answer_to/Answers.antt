use Rattle.std.proofs.Common.{◌≡◌, ℕ, sym, subst}
use Rattle.std.specs.Prelude.{Ok}
use Rattle.sg_asks.specs.Asks.{asked}
use Rattle.sg_talk.proofs.Turning.{answered_by}
use Rattle.sg_talk.proofs.Writable.{turn_can}
use Rattle.sg_talk.proofs.turns.answer_to.Goals as goal

pub answer-requires : goal.answer-requires
answer-requires g c = record { ask = c.in-Ok.ensures.comes c.args.office.now.setup (sym c.version_of-version.ensures) }

pub returns-in-Ok-clause-answers : goal.returns-in-Ok-clause-answers
returns-in-Ok-clause-answers g c = λ history stands.
    answered_by c.args.office.now c.answer.new.self _ _ _ c.args.bytes.now c.in-Ok.ask c.answer.result history
    (subst (λ (v : ℕ). asked v c.args.bytes.now ≡ Ok c.in-Ok.ask) c.version_of-version.ensures (sym c.in-Ok.ensures.said)) (c.in-Ok.ensures.comes c.args.office.now.setup (sym c.version_of-version.ensures)) (c.answer.ensures.turn history stands)

pub returns-in-Ok-clause-writable : goal.returns-in-Ok-clause-writable
returns-in-Ok-clause-writable g c =
    let law = c.office_law.ensures in
    let turned = c.answer.ensures.turn law.history law.stands in
    turn_can c.args.office.now.setup law.history turned.next c.in-Ok.ask c.answer.result law.limits law.stands.lawful turned.turn
