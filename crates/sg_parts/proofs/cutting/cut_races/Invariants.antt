-- The rows of so many races were cut.
use Rattle.sg_parts.proofs.Cuts.{HasRaces}
use Rattle.sg_parts.proofs.cutting.cut_races.Given as goal

abbrev pub invariant-loop-race : goal.invariant-loop-race
invariant-loop-race l = HasRaces l.index l.race l.done l.rows l.cut
