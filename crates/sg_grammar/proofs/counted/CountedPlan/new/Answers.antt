use Rattle.std.proofs.Common.{ap, length, arith}
use Rattle.sg_grammar.proofs.PlanCounts.{none_counted, zeros_at}
use Rattle.sg_grammar.proofs.counted.CountedPlan.new.Goals as goal

pub invariant_of-result : goal.invariant_of-result
invariant_of-result c = none_counted _ _ _ (omega (arith, ap length c.new-2.ensures)) c.new-4.ensures c.new-5.ensures (zeros_at 32)
