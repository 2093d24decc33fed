-- Bytes that begin otherwise don't begin so.
use Rattle.std.proofs.Common.{◌≡◌, true, false, sym, ◌∙◌}
use Rattle.std.proofs.lemmas.Slice.Eq.{bytes_eq-Decides}
use Rattle.sg_sheet.proofs.Cutting.{front_of}
use Rattle.sg_sheet.proofs.reading.after.Goals as goal

pub returns-else-is_same : goal.returns-else-is_same
returns-else-is_same c = λ rest is.
    let same : c.split_at.result.0.now ≡ c.args.front.now = c.split_at.ensures.front ∙ front_of c.args.bytes.now c.args.front.now rest is in
    let found = (bytes_eq-Decides c.split_at.result.0.now c.args.front.now).1 same in
    let both : true ≡ false = sym found ∙ (sym c.is_same.ensures ∙ c.if-is_same.false) in
    cc
