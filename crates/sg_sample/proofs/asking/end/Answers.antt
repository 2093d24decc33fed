-- The close and the draw are accepted, and the office stands for the whole history.
use Rattle.std.proofs.Common.{◌+◌, arith, sym, subst}
use Rattle.sg_plan.specs.declared.plan.Draw.{Draw}
use Rattle.sg_acts.specs.declared.asks.Act.TheVariants as act
use Rattle.sg_sample.specs.inside.Voting.{GoesOn, IsTaken}
use Rattle.sg_sample.proofs.Votes.{close_taken, draw_taken, ended_stands, few_acts}
use Rattle.sg_sample.proofs.asking.end.Goals as goal

pub ask-requires-clause-taken : goal.ask-requires-clause-taken
ask-requires-clause-taken c = close_taken c.args.office.now c.args.number c.args.sample.ballots c.requires.few c.requires.voted

pub overflow_add-number : goal.overflow_add-number
overflow_add-number c =
    let few = few_acts c.args.office.now c.args.number c.args.sample.ballots c.args.sample.ballots (omega arith) c.requires.few c.requires.voted in
    omega (arith, few)

pub ask-requires-2-clause-taken : goal.ask-requires-2-clause-taken
ask-requires-2-clause-taken c =
    subst (λ (draw : Draw). IsTaken c.ask.new.office (c.args.number + 1) (act.Draw draw)) (sym c.in_ok-draw.ensures)
    (draw_taken c.args.office.now c.ask.new.office c.args.number c.args.sample.seed c.args.sample.ballots c.requires.few c.requires.voted c.in_ok-ask.ensures)

pub returns-clause-stands : goal.returns-clause-stands
returns-clause-stands c =
    ended_stands c.args.office.now c.ask.new.office c.ask-2.new.office c.args.number c.args.sample.seed c.args.sample.ballots c.requires.setup c.requires.voted c.in_ok-ask.ensures
    (subst (λ (draw : Draw). GoesOn c.ask.new.office c.ask-2.new.office (c.args.number + 1) (act.Draw draw)) c.in_ok-draw.ensures c.in_ok-ask-2.ensures)
