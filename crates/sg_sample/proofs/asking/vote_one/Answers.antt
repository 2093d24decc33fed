-- The act for the next ballot can be asked for and is accepted, and the office goes on.
use Rattle.std.proofs.Common.{◌+◌, ◌≤◌, sym, subst, ap, ◌∙◌, arith}
use Rattle.sg_plan.specs.Ballots.{ballots_of}
use Rattle.sg_tables.specs.Tables.{MadeFrom}
use Rattle.sg_sample.specs.SampleRun.{ballot_act}
use Rattle.sg_sample.proofs.Votes.{act_askable, act_taken, ballot_within, few_acts, voted_none, voted_some}
use Rattle.sg_sample.proofs.asking.vote_one.Goals as goal

pub ballot_act-requires-clause-last : goal.ballot_act-requires-clause-last
ballot_act-requires-clause-last c =
    subst (λ (made : MadeFrom). c.args.before + 1 ≤ ballots_of made.plan) (sym c.tables.ensures)
    (ballot_within c.args.office.now c.args.number c.args.before c.args.ballots c.requires.before c.requires.voted)

pub ask-requires-clause-act : goal.ask-requires-clause-act
ask-requires-clause-act c =
    act_askable c.args.office.now c.args.number c.args.before c.args.ballots c.in-Some.act c.requires.before c.requires.few c.requires.voted
    (sym c.in-Some.is ∙ (c.in_ok-ballot_act.ensures ∙ ap (λ (made : MadeFrom). ballot_act made.plan made.seed (c.args.before + 1)) c.tables.ensures))

pub ask-requires-clause-taken : goal.ask-requires-clause-taken
ask-requires-clause-taken c =
    act_taken c.args.office.now c.args.number c.args.before c.args.ballots c.in-Some.act c.requires.before c.requires.few c.requires.voted
    (sym c.in-Some.is ∙ (c.in_ok-ballot_act.ensures ∙ ap (λ (made : MadeFrom). ballot_act made.plan made.seed (c.args.before + 1)) c.tables.ensures))

pub overflow_add-result : goal.overflow_add-result
overflow_add-result c =
    let within = c.requires.before in
    let few = few_acts c.args.office.now c.args.number c.args.before c.args.ballots (omega (arith, within)) c.requires.few c.requires.voted in
    omega (arith, few)

pub returns-in-None-clause-voted : goal.returns-in-None-clause-voted
returns-in-None-clause-voted c =
    voted_none c.args.office.now c.args.number c.args.before c.args.ballots c.requires.voted
    (sym c.in-None.is ∙ (c.in_ok-ballot_act.ensures ∙ ap (λ (made : MadeFrom). ballot_act made.plan made.seed (c.args.before + 1)) c.tables.ensures))

pub returns-in_ok-ask-in-Some-clause-setup : goal.returns-in_ok-ask-in-Some-clause-setup
returns-in_ok-ask-in-Some-clause-setup c = c.in_ok-ask-in-Some.ensures.setup_is

pub returns-in_ok-ask-in-Some-clause-voted : goal.returns-in_ok-ask-in-Some-clause-voted
returns-in_ok-ask-in-Some-clause-voted c =
    voted_some c.args.office.now c.ask.new.office c.args.number c.args.before c.args.ballots c.in-Some.act c.requires.voted
    (sym c.in-Some.is ∙ (c.in_ok-ballot_act.ensures ∙ ap (λ (made : MadeFrom). ballot_act made.plan made.seed (c.args.before + 1)) c.tables.ensures))
    c.in_ok-ask-in-Some.ensures
