-- These are the exponents of the races so far, and no row of them is lacking.
use Rattle.sg_reports.specs.court.inside.Finding.{HasExponents}
use Rattle.sg_reports.proofs.court.exponents.find_exponents.Given as goal

abbrev pub invariant-loop-race : goal.invariant-loop-race
invariant-loop-race l = HasExponents l.parts l.race l.values
