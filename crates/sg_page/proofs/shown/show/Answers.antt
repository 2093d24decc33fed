-- The lines that were put are those that are shown.
use Rattle.sg_outside.specs.TextLines.{lines_of}
use Rattle.sg_page.proofs.Picking.{shows_put}
use Rattle.sg_page.specs.inside.Wanting.{is_wanted}
use Rattle.sg_page.proofs.shown.show.Goals as goal

pub returns-in-Ok-Some-clause-shown : goal.returns-in-Ok-Some-clause-shown
returns-in-Ok-Some-clause-shown c = λ e. shows_put (is_wanted c.args.wanted) (lines_of c.args.text.now) c.put_wanted.new.out c.in-Ok-Some.field-0 c.in-Ok-Some.used c.in-Ok-Some.field-0-is c.in-Ok-Some.ensures.put
