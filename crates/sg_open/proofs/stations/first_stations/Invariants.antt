use Rattle.std.proofs.Common.{◌≤◌, length, drop}
use Rattle.sg_open.specs.inside.Counts.{TellsStations}
use Rattle.sg_open.proofs.stations.first_stations.Given as goal

abbrev pub invariant-loop-left : goal.invariant-loop-left
invariant-loop-left l = record {
  within : l.left ≤ length l.rows;
  told : TellsStations l.stations (drop l.left l.rows);
}

abbrev pub decreases-loop-left : goal.decreases-loop-left
decreases-loop-left l = l.left
