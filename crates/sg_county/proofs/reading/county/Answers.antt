-- The answer on the lines that were taken.
use Rattle.sg_county.proofs.TextRead.{taken_answer, taken_some}
use Rattle.sg_county.proofs.reading.county.Goals as goal
use Rattle.sg_outside.specs.TextLines.{lines_of}

pub end-requires : goal.end-requires
end-requires c = record { stands = taken_some c.take_lines.new.tally (lines_of c.args.bytes.now) c.in-Ok.ensures }

pub returns-in-Ok : goal.returns-in-Ok
returns-in-Ok c = taken_answer c.take_lines.new.tally (lines_of c.args.bytes.now) c.end.result c.in-Ok.ensures c.end.ensures.all c.end.ensures.over
