use Rattle.std.proofs.Common.{arith}
use Rattle.sg_asks.proofs.Each.{not_two}
use Rattle.sg_asks.proofs.acts.pair_of.Goals as goal

pub returns-in_default : goal.returns-in_default
returns-in_default c = not_two c.args.list.now (λ two. omega (arith, two, c.in_default.len_below))

pub returns-in_default-2 : goal.returns-in_default-2
returns-in_default-2 c = not_two c.args.list.now (λ two. omega (arith, two, c.in_default.len_at_least))
