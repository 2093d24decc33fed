-- The lines of the totals so far were added.
use Rattle.std.proofs.Common.{◌≡◌, ◌++◌, drop}
use Rattle.sg_report.specs.Report.{totals_text}
use Rattle.sg_sample.proofs.telling.add_totals.Given as goal

abbrev pub invariant-loop-at : goal.invariant-loop-at
invariant-loop-at l = l.out ++ totals_text (drop l.at l.totals) ≡ l.fn.out ++ totals_text l.totals
