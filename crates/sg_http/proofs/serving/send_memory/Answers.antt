-- The answer for want of memory, or a front of it.
use Rattle.std.proofs.Common.{inr, refl}
use Rattle.sg_http.specs.Visits.{memory_due}
use Rattle.sg_http.proofs.serving.send_memory.Goals as goal

pub returns-in-Ok-clause-sends : goal.returns-in-Ok-clause-sends
returns-in-Ok-clause-sends g c = (memory_due, inr refl, refl, rw c.memory_answer.ensures at c.in-Ok.ensures.ok)

pub returns-in-Err-clause-sends : goal.returns-in-Err-clause-sends
returns-in-Err-clause-sends g c = (memory_due, inr refl, rw c.memory_answer.ensures at c.in-Err.ensures.err)
