-- The sums of the candidates so far are listed.
use Rattle.std.proofs.Common.{◌≡◌, [], ◌∷◌}
use Rattle.sg_grammar.specs.Due.{each}
use Rattle.sg_recount.specs.Findings.{sum_of}
use Rattle.sg_recount.specs.inside.Basis.{lines_in, plan_in, printing_in}
use Rattle.sg_recount.proofs.sums.race_sums.Given as goal

abbrev pub invariant-loop-candidate : goal.invariant-loop-candidate
invariant-loop-candidate l = l.sums ≡ each (λ candidate. sum_of (plan_in l.basis) (lines_in l.basis) (printing_in l.basis) l.race candidate ∷ []) 0 l.candidate
