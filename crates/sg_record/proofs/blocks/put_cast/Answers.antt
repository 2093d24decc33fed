-- The first line, and then the others.
use Rattle.std.proofs.Common.{◌∷◌, [], ◌∙◌, map}
use Rattle.sg_record.proofs.Marks.{cast_have}
use Rattle.sg_record.proofs.Putting.{puts_stop, puts_then}
use Rattle.sg_forms.specs.Said.Said.{Cast}
use Rattle.sg_record.specs.Tree.{cast_said}
use Rattle.sg_record.proofs.blocks.put_cast.Goals as goal

pub returns-in_err-put_line : goal.returns-in_err-put_line
returns-in_err-put_line g c = puts_stop _ _ _ _ (Cast c.args.ballot ∷ []) (map cast_said c.args.lines.now) c.from_residual.ensures.0 c.in_err-put_line.ensures

pub returns : goal.returns
returns g c = puts_then _ _ _ _ _ (Cast c.args.ballot ∷ []) (map cast_said c.args.lines.now) c.in_ok-put_line.ensures c.put_lines.ensures

pub put_lines-requires : goal.put_lines-requires
put_lines-requires g c = record { fits = rw (c.in_ok-put_line.ensures.version ∙ c.requires.version) (cast_have c.args.index.now c.args.ballot 0 0 c.args.lines.now c.requires.fate) }
