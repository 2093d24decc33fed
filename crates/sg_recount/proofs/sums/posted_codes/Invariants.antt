-- The count is that of the entries so far.
use Rattle.std.proofs.Common.{◌≡◌}
use Rattle.sg_check.specs.Printings.{count_below, is_posted_for}
use Rattle.sg_recount.specs.inside.Basis.{lines_in, plan_in, printing_in}
use Rattle.sg_recount.proofs.sums.posted_codes.Given as goal

abbrev pub invariant-loop-entry : goal.invariant-loop-entry
invariant-loop-entry l = l.count ≡ count_below (is_posted_for (plan_in l.basis) (lines_in l.basis) (printing_in l.basis) l.race l.candidate) l.entry
