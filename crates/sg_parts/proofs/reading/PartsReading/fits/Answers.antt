-- The line is the one that is due, or it is off.
use Rattle.std.proofs.Common.{◌∙◌, arith}
use Rattle.sg_parts.proofs.Finding.{fits_row, fits_sheet, fits_word, race_due}
use Rattle.sg_parts.proofs.reading.PartsReading.fits.Goals as goal

pub take_line-requires : goal.take_line-requires
take_line-requires c = race_due c.args.self.now c.requires.0 c.requires.1 c.get.result.now (omega (arith, c.if-at-len.true, c.len.ensures)) c.get.ensures.item

pub returns-then-at-len : goal.returns-then-at-len
returns-then-at-len c = λ lines has.
    fits_sheet c.args.self.now lines has c.args.line.now c.get.result.now c.take_line.new.lists c.in_ok-fits.fits (omega (arith, c.if-at-len.true, c.len.ensures)) c.get.ensures.front c.get.ensures.rest
    c.in_ok-fits.ensures

pub returns-then-at-len-2 : goal.returns-then-at-len-2
returns-then-at-len-2 c = λ lines has. fits_word c.args.self.now lines has c.args.line.now c.is_same.result (c.if-at-len-2.true ∙ c.len-2.ensures) c.is_same.ensures

pub returns : goal.returns
returns c = λ lines has.
    fits_row c.args.self.now lines has c.args.line.now c.take_row.new.rows c.in_ok-fits-2.fits (omega (arith, c.if-at-len.false, c.if-at-len-2.false, c.len.ensures, c.len-2.ensures)) c.in_ok-fits-2.ensures
