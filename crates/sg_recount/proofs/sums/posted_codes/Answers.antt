-- There are few entries.
use Rattle.std.proofs.Common.{arith}
use Rattle.sg_plan.proofs.PlanLaws.{bounds}
use Rattle.sg_check.specs.Printings.{is_posted_for}
use Rattle.sg_recount.proofs.Counting.{count_most}
use Rattle.sg_recount.specs.inside.Basis.{lines_in, plan_in, printing_in}
use Rattle.sg_recount.proofs.sums.posted_codes.Goals as goal

pub overflow_add-count : goal.overflow_add-count
overflow_add-count c =
    omega (
      arith,
      c.loop-entry.invariant,
      count_most (is_posted_for (plan_in c.args.basis.now) (lines_in c.args.basis.now) (printing_in c.args.basis.now) c.args.race c.args.candidate) c.loop-entry.entry,
      c.loop-entry-test.true,
      c.entries-entry-end.ensures,
      (bounds (plan_in c.args.basis.now) c.requires.basis.good).few_entries c.args.race c.requires.race,
    )
