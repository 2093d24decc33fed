-- Each style fits a line.
use Rattle.sg_record.proofs.Limits.{styles_told}
use Rattle.sg_record.proofs.head.put_styles.Goals as goal

pub put_lines-requires : goal.put_lines-requires
put_lines-requires g c = record { fits = styles_told c.args.pen.now.version c.args.styles.now c.requires.styles }
