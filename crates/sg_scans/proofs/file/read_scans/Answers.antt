use Rattle.std.proofs.Common.{rules, ◌≡◌, length, map, false, ◌∷◌}
use Rattle.csv.specs.Records.{fields_of}
use Rattle.sg_scans.specs.FileRecords.{records_of}
use Rattle.sg_scans.specs.ScanLines.{is_header}
use Rattle.sg_scans.proofs.FirstRecord.{bad_header}
use Rattle.sg_scans.proofs.file.read_scans.Goals as goal

pub returns-then-not-is_header-clause-fault : goal.returns-then-not-is_header-clause-fault
returns-then-not-is_header-clause-fault c =
    let e : map fields_of c.in-Ok.table.rows.items ≡ fields_of c.in-Some.first.now ∷ map fields_of c.in-Some.rest.now = search rules in
    let bad : is_header (fields_of c.in-Some.first.now) ≡ false = search rules in
    bad_header (map fields_of c.in-Ok.table.rows.items) (records_of c.args.bytes.now) (fields_of c.in-Some.first.now) (map fields_of c.in-Some.rest.now) (length c.in-Ok.table.rows.items) 100001 c.in-Ok.table.whole e c.in-Ok.ensures.whole c.in-Ok.ensures.cut bad
