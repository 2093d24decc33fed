-- What is left to show of `digits_in`.
use Rattle.sg_keeper.proofs.SetupLines.{between}
use Rattle.sg_keeper.proofs.setup_reading.digits_in.Goals as goal

pub returns-in-Some : goal.returns-in-Some
returns-in-Some c = between c.args.line.now c.args.word.now c.in-Some.rest.now c.before_feed.result c.in-Some.ensures c.before_feed.ensures
