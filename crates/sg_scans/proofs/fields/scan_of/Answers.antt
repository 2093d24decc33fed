use Rattle.std.proofs.Common.{rules, ◌≡◌, false, is_none}
use Rattle.sg_lines.specs.Words.{decimal_of}
use Rattle.sg_scans.specs.inside.ByField.{scan_text}
use Rattle.sg_scans.proofs.ByFields.{scan_found}
use Rattle.sg_scans.proofs.fields.scan_of.Goals as goal

pub returns : goal.returns
returns c =
    let some : is_none (decimal_of c.args.ballot.now) ≡ false = search rules in
    let text : c.bytes.result.now ≡ scan_text c.args.ballot.now c.args.marks.now = search rules in
    scan_found 1 c.args.ballot.now c.args.marks.now c.bytes.result.now c.act_of.result some text c.act_of.ensures.exact
