-- Each code fits a line.
use Rattle.sg_record.proofs.Marks.{codes_fit}
use Rattle.sg_record.proofs.blocks.put_codes.Goals as goal

pub put_lines-requires : goal.put_lines-requires
put_lines-requires g c = record { fits = codes_fit c.args.pen.now.version c.args.codes.now c.requires.codes }
