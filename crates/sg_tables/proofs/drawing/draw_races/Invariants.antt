use Rattle.std.proofs.Common.{◌≡◌, length}
use Rattle.sg_tables.specs.inside.Kept.{KeepRaces}
use Rattle.sg_tables.proofs.drawing.draw_races.Given as goal

abbrev pub invariant-loop-race : goal.invariant-loop-race
invariant-loop-race l = record {
  many : length l.races ≡ l.race;
  each : KeepRaces l.plan l.seed.0 l.races;
}
