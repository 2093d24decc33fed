use Rattle.sg_ledger.proofs.Made.{made_tells}
use Rattle.sg_plan.proofs.PlanLaws.{bounds}
use Rattle.sg_ledger.proofs.ledger.Ledger.make.Goals as goal

pub returns-in-Ok : goal.returns-in-Ok
returns-in-Ok c = λ lines are. rw c.opened.ensures (made_tells c.args.index c.in-Ok.blank (bounds c.args.index c.plan.ensures.good) c.in-Ok.ensures lines are)
