use Rattle.std.proofs.Common.{◌≡◌, [], length, take, drop}
use Rattle.std.specs.BTreeMap.{get_by_text}
use Rattle.sg_plan.specs.Limits.{first_bad}
use Rattle.sg_open.specs.inside.Finding.{void_passes, voided_after}
use Rattle.sg_open.proofs.voids.read_voids.Given as goal

abbrev pub invariant-loop-at : goal.invariant-loop-at
invariant-loop-at l = record {
  bad : first_bad (void_passes l.version (λ text. get_by_text l.stations text) l.scanners) (take l.at l.rows) (drop l.at l.rows) ≡ first_bad (void_passes l.version (λ text. get_by_text l.stations text) l.scanners) [] l.rows;
  slots : voided_after l.version (λ text. get_by_text l.stations text) l.scanners l.slots (drop l.at l.rows) ≡ voided_after l.version (λ text. get_by_text l.stations text) l.scanners l.fn.slots l.rows;
  long : length l.slots ≡ length l.scanners;
}
