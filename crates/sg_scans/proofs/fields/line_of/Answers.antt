use Rattle.std.proofs.Common.{rules, ◌≡◌, None, Some}
use Rattle.csv.specs.Records.{fields_of}
use Rattle.sg_scans.specs.inside.ByField.{ask_at}
use Rattle.sg_scans.proofs.ByFields.{line_is}
use Rattle.sg_scans.proofs.fields.line_of.Goals as goal

pub returns-in_default-clause-line : goal.returns-in_default-clause-line
returns-in_default-clause-line c =
    let is : None ≡ ask_at (fields_of c.args.row.now) = search rules in
    line_is (fields_of c.args.row.now) None is

pub returns-then-is_counted-clause-line : goal.returns-then-is_counted-clause-line
returns-then-is_counted-clause-line c =
    let is : Some c.in-Some.ask ≡ ask_at (fields_of c.args.row.now) = search rules in
    line_is (fields_of c.args.row.now) (Some c.in-Some.ask) is
