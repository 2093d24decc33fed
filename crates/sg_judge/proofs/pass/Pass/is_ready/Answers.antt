use Rattle.std.proofs.Common.{◌∙◌}
use Rattle.sg_lists.proofs.Options.{is_none-true}
use Rattle.sg_judge.proofs.Going.{ready-behind}
use Rattle.sg_judge.proofs.pass.Pass.is_ready.Goals as goal

pub returns-clause-says : goal.returns-clause-says
returns-clause-says c = λ still lines stands.
    c.is_some.ensures
    ∙ ready-behind c.args.self.now.broken c.args.self.now.expect c.args.self.now.sealer c.args.self.now.ledger c.args.self.now.number lines stands.judges
    (is_none-true c.args.self.now.broken still)
