-- The sums of the races so far are listed.
use Rattle.std.proofs.Common.{◌≡◌, [], ◌∷◌}
use Rattle.sg_grammar.specs.Due.{each}
use Rattle.sg_recount.specs.Findings.{race_sums}
use Rattle.sg_recount.specs.inside.Basis.{lines_in, plan_in, printing_in}
use Rattle.sg_recount.proofs.sums.all_sums.Given as goal

abbrev pub invariant-loop-race : goal.invariant-loop-race
invariant-loop-race l = l.sums ≡ each (λ race. race_sums (plan_in l.basis) (lines_in l.basis) (printing_in l.basis) race ∷ []) 0 l.race
