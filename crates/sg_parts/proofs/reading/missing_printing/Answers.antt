-- The line behind the record is missing.
use Rattle.sg_parts.proofs.Wholes.{printing_missing}
use Rattle.sg_parts.proofs.reading.missing_printing.Goals as goal

pub returns-clause-has : goal.returns-clause-has
returns-clause-has c = λ lines good same none is. printing_missing lines c.args.before good same none is
