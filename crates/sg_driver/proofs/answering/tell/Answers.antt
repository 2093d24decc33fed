-- How an answer ends the command.
use Rattle.std.proofs.Common.{subst}
use Rattle.sg_driver.specs.Judging.{IsOfAnswer}
use Rattle.sg_driver.proofs.answering.tell.Goals as goal

pub returns-in-Ok-clause-answers : goal.returns-in-Ok-clause-answers
returns-in-Ok-clause-answers g c = subst IsOfAnswer c.outcome-due.ensures.is c.outcome-due.ensures.done

pub returns-in-Err-clause-answers : goal.returns-in-Err-clause-answers
returns-in-Err-clause-answers g c = subst IsOfAnswer c.outcome-due.ensures.is c.outcome-due.ensures.done
