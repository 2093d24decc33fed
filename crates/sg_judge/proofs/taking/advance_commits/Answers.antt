use Rattle.std.proofs.Common.{Some, refl, sym, ◌∙◌}
use Rattle.sg_forms.specs.Said.{said_commits}
use Rattle.sg_judge.proofs.Advancing.{form_stops}
use Rattle.sg_judge.proofs.Placing.{stands_there, take_bytes-spelled}
use Rattle.sg_judge.proofs.Reading.{commits_stand}
use Rattle.sg_judge.proofs.taking.advance_commits.Goals as goal

pub returns-in_default-clause-goes_on : goal.returns-in_default-clause-goes_on
returns-in_default-clause-goes_on c = λ lines stands.
    form_stops c.args.expect.now c.args.sealer.now (Some c.args.ledger.now) lines c.args.bytes.now stands
    (take_bytes-spelled c.args.expect.now c.args.bytes.now (said_commits c.args.commits) c.requires.read ∙ sym c.in_default.ensures.taken)

pub advance_there-requires-clause-there : goal.advance_there-requires-clause-there
advance_there-requires-clause-there c =
    commits_stand c.args.expect.now c.args.bytes.now c.in-Some.standing c.in-RowCommit.race c.in-RowCommit.instance c.in-RowCommit.row c.args.commits.race c.args.commits.instance c.args.commits.left c.args.commits.right c.in-RowCommit.left c.in-RowCommit.right c.requires.read
    (stands_there c.args.expect.now c.args.bytes.now (said_commits c.args.commits) c.in-Some.standing _ c.requires.read c.in-Some.ensures.taken c.in-Some.ensures.within (c.in-Some.ensures.made refl) c.in-RowCommit.is)
