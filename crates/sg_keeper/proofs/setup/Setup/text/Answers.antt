-- What is left to show of `text`.
use Rattle.sg_keeper.proofs.SetupAscii.{written_ascii}
use Rattle.sg_keeper.proofs.setup.Setup.text.Goals as goal

pub returns-clause-ascii : goal.returns-clause-ascii
returns-clause-ascii c = written_ascii c.args.self.now c.write_setup.result c.requires c.know_setup.ensures c.write_setup.ensures
