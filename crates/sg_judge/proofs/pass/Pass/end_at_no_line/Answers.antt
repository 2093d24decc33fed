use Rattle.sg_lists.proofs.Options.{is_none-true}
use Rattle.sg_judge.proofs.Ending.{no_line_end, open_judges}
use Rattle.sg_judge.proofs.pass.Pass.end_at_no_line.Goals as goal

pub returns-clause-all : goal.returns-clause-all
returns-clause-all c = λ lines more text stands none.
    no_line_end c.args.self.expect c.args.self.sealer c.args.self.ledger c.args.self.number c.saturating_add-line.result lines more text
    (open_judges c.args.self.broken c.args.self.expect c.args.self.sealer c.args.self.ledger c.args.self.number lines stands.judges (is_none-true c.args.self.broken c.requires.open))
    c.saturating_add-line.ensures none
