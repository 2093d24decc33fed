-- The altered rows so far are those that are listed.
use Rattle.std.proofs.Common.{◌≡◌}
use Rattle.sg_grammar.specs.Due.{each}
use Rattle.sg_recount.specs.Findings.{altered_row}
use Rattle.sg_recount.specs.inside.Basis.{completion_in, lines_in, plan_in, printing_in}
use Rattle.sg_recount.proofs.altered.altered_in.Given as goal

abbrev pub invariant-loop-row : goal.invariant-loop-row
invariant-loop-row l = l.altered ≡ each (altered_row (plan_in l.basis) (lines_in l.basis) (completion_in l.basis) (printing_in l.basis) l.race l.instance) 0 l.row
