use Rattle.std.proofs.Common.{◌≡◌, map, take}
use Rattle.csv.specs.Records.{fields_of}
use Rattle.sg_scans.specs.Asked.{EachCanCome}
use Rattle.sg_scans.specs.ScanLines.{scan_line}
use Rattle.sg_scans.proofs.file.lines_of.Given as goal

abbrev pub invariant-loop-at : goal.invariant-loop-at
invariant-loop-at l = (l.lines ≡ map scan_line (map fields_of (take l.at l.rows))) × EachCanCome l.lines
