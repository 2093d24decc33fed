-- What is left to show of `read_secret`.
use Rattle.std.proofs.Common.{◌∙◌}
use Rattle.sg_keeper.proofs.SetupLines.{secret_none, secret_some}
use Rattle.sg_keeper.proofs.setup_reading.read_secret.Goals as goal

pub returns-in-Some : goal.returns-in-Some
returns-in-Some c = c.read_key.ensures.exact ∙ secret_some c.args.line.now c.in-Some.digits.now c.in-Some.ensures

pub returns-in-None : goal.returns-in-None
returns-in-None c = secret_none c.args.line.now c.in-None.ensures
