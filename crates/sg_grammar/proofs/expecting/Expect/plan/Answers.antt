use Rattle.sg_grammar.proofs.Making.{made-fault}
use Rattle.sg_grammar.proofs.Walking.{plan_keeps}
use Rattle.sg_grammar.proofs.expecting.Expect.plan.Goals as goal

pub returns-clause-keeps : goal.returns-clause-keeps
returns-clause-keeps c = rw (← c.self.view_is) (plan_keeps c.self.inside.plan c.self.inside.head c.self.invariant.made)

pub returns-clause-exactly : goal.returns-clause-exactly
returns-clause-exactly c = rw (← c.self.view_is) (made-fault c.self.inside.plan c.self.inside.head c.self.invariant.made)
