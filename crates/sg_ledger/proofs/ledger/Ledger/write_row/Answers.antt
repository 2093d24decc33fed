use Rattle.std.proofs.Common.{arith}
use Rattle.sg_plan.proofs.PlanLaws.{bounds}
use Rattle.sg_ledger.proofs.ledger.Ledger.write_row.Goals as goal

pub count_both-requires : goal.count_both-requires
count_both-requires c = omega (arith, c.requires.placed.0, c.requires.placed.1, (bounds c.args.self.now.book c.plan.ensures.good).few_instances, c.requires.sized.both_counts)

pub move_on-requires : goal.move_on-requires
move_on-requires c = omega (arith, c.requires.placed.2, (bounds c.args.self.now.book c.plan.ensures.good).few_entries c.args.race c.requires.placed.0)
