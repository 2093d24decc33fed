-- What is left to show of `read_setup`.
use Rattle.std.proofs.Common.{sym, drop, ◌∙◌}
use Rattle.sg_outside.specs.TextLines.{lines_of}
use Rattle.sg_keeper.specs.inside.PlanLines.{making_of}
use Rattle.sg_keeper.proofs.SetupLaw.{behind_read, no_plan_read}
use Rattle.sg_keeper.proofs.setup_reading.read_setup.Goals as goal

pub returns-then-not-has_plan : goal.returns-then-not-has_plan
returns-then-not-has_plan c =
    no_plan_read c.args.text.now (record { so_far = making_of c.in_ok-read.read.expect; left = lines_of (drop c.in_ok-read.read.end c.args.text.now) }) c.in_ok-read.ensures
    (sym c.has_plan.ensures ∙ c.if-not-has_plan.true)

pub returns : goal.returns
returns c =
    behind_read c.args.text.now (record { so_far = making_of c.in_ok-read.read.expect; left = lines_of (drop c.in_ok-read.read.end c.args.text.now) }) c.into_plan.result c.read_behind.result c.in_ok-read.ensures
    (sym c.has_plan.ensures ∙ c.if-not-has_plan.false) c.into_plan.ensures c.read_behind.ensures
