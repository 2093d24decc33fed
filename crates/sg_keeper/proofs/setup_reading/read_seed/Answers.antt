-- What is left to show of `read_seed`.
use Rattle.std.proofs.Common.{◌∙◌}
use Rattle.sg_keeper.proofs.SetupLines.{seed_none, seed_some}
use Rattle.sg_keeper.proofs.setup_reading.read_seed.Goals as goal

pub returns-in-Some : goal.returns-in-Some
returns-in-Some c = c.read_digest.ensures.exact ∙ seed_some c.args.line.now c.in-Some.digits.now c.in-Some.ensures

pub returns-in-None : goal.returns-in-None
returns-in-None c = seed_none c.args.line.now c.in-None.ensures
