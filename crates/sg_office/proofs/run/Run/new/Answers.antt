use Rattle.std.proofs.Common.{subst, sym}
use Rattle.sg_office.specs.inside.Runs.{Rise, flat}
use Rattle.sg_office.proofs.Numbers.{none_rise}
use Rattle.sg_office.proofs.run.Run.new.Goals as goal

pub invariant_of-result : goal.invariant_of-result
invariant_of-result c = subst (λ blocks. Rise (flat blocks)) (sym c.new.ensures.items) none_rise
