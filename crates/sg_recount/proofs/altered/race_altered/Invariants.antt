-- The altered rows of the instances so far are listed.
use Rattle.std.proofs.Common.{◌≡◌, [], ◌∷◌}
use Rattle.sg_grammar.specs.Due.{each}
use Rattle.sg_recount.specs.Findings.{altered_in}
use Rattle.sg_recount.specs.inside.Basis.{completion_in, lines_in, plan_in, printing_in}
use Rattle.sg_recount.proofs.altered.race_altered.Given as goal

abbrev pub invariant-loop-instance : goal.invariant-loop-instance
invariant-loop-instance l = l.altered ≡ each (λ instance. altered_in (plan_in l.basis) (lines_in l.basis) (completion_in l.basis) (printing_in l.basis) l.race instance ∷ []) 0 l.instance
