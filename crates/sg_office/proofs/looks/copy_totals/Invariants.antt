use Rattle.std.proofs.Common.{◌≡◌, take}
use Rattle.sg_office.proofs.looks.copy_totals.Given as goal

abbrev pub invariant-loop-race : goal.invariant-loop-race
invariant-loop-race l = l.copy ≡ take l.race l.totals
