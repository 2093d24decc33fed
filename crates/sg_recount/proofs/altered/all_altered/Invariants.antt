-- The altered rows of the races so far are listed.
use Rattle.std.proofs.Common.{◌≡◌, [], ◌∷◌}
use Rattle.sg_grammar.specs.Due.{each}
use Rattle.sg_recount.specs.Findings.{race_altered}
use Rattle.sg_recount.specs.inside.Basis.{completion_in, lines_in, plan_in, printing_in}
use Rattle.sg_recount.proofs.altered.all_altered.Given as goal

abbrev pub invariant-loop-race : goal.invariant-loop-race
invariant-loop-race l = l.altered ≡ each (λ race. race_altered (plan_in l.basis) (lines_in l.basis) (completion_in l.basis) (printing_in l.basis) race ∷ []) 0 l.race
