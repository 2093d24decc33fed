use Rattle.std.proofs.Common.{◌≡◌, [], length, take, drop, true}
use Rattle.std.specs.BTreeMap.{get_by_text}
use Rattle.std.specs.List.{list_all}
use Rattle.std.specs.Str.{is_utf8}
use Rattle.sg_plan.specs.Ballots.{ballots_of}
use Rattle.sg_plan.specs.Limits.{first_bad}
use Rattle.sg_desks.specs.ActReading.{act_in}
use Rattle.sg_histories.specs.ValidRows.{ballot_keeps}
use Rattle.sg_open.specs.inside.Finding.{found_after}
use Rattle.sg_open.proofs.ballots.read_ballots.Given as goal

abbrev pub invariant-loop-at : goal.invariant-loop-at
invariant-loop-at l = record {
  bad : first_bad (ballot_keeps l.index (act_in l.index.version)) (take l.at l.rows) (drop l.at l.rows) ≡ first_bad (ballot_keeps l.index (act_in l.index.version)) [] l.rows;
  found : found_after l.index (λ text. get_by_text l.stations text) l.found (drop l.at l.rows) ≡ found_after l.index (λ text. get_by_text l.stations text) l.fn.found l.rows;
  utf8 : list_all is_utf8 l.found.told ≡ true;
  slots : length l.found.slots ≡ ballots_of l.index;
  scanners : length l.found.scanners ≡ ballots_of l.index;
}
