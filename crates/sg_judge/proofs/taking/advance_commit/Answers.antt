use Rattle.std.proofs.Common.{Some, refl, sym, ◌∙◌}
use Rattle.sg_forms.specs.Said.Said.{CodeCommit}
use Rattle.sg_judge.proofs.Advancing.{form_stops}
use Rattle.sg_judge.proofs.Placing.{stands_there, take_bytes-spelled}
use Rattle.sg_judge.proofs.Reading.{commit_stands}
use Rattle.sg_judge.proofs.taking.advance_commit.Goals as goal

pub returns-in_default-clause-goes_on : goal.returns-in_default-clause-goes_on
returns-in_default-clause-goes_on c = λ lines stands.
    form_stops c.args.expect.now c.args.sealer.now (Some c.args.ledger.now) lines c.args.bytes.now stands
    (take_bytes-spelled c.args.expect.now c.args.bytes.now (CodeCommit c.args.race c.args.digest) c.requires.read ∙ sym c.in_default.ensures.taken)

pub advance_there-requires-clause-there : goal.advance_there-requires-clause-there
advance_there-requires-clause-there c =
    commit_stands c.args.expect.now c.args.bytes.now c.in-Some.standing c.in-CodeCommit.race c.in-CodeCommit.entry c.args.race c.args.digest c.in-CodeCommit.digest c.requires.read
    (stands_there c.args.expect.now c.args.bytes.now (CodeCommit c.args.race c.args.digest) c.in-Some.standing _ c.requires.read c.in-Some.ensures.taken c.in-Some.ensures.within (c.in-Some.ensures.made refl) c.in-CodeCommit.is)
