-- A front of the sheet was written.
use Rattle.std.proofs.Common.{ap, inr}
use Rattle.std.specs.Prelude.{Err}
use Rattle.sg_outside.specs.Streams.{seen}
use Rattle.sg_clerk.specs.declared.printing.Stop.{Stop}
use Rattle.sg_clerk.proofs.Showing.{sheet_part}
use Rattle.sg_clerk.proofs.printing.write_sheet.Goals as goal

pub returns-in-Err-Failed : goal.returns-in-Err-Failed
returns-in-Err-Failed g c = (
  c.in-Err-Failed.ensures.cause.failed (ap (λ (stop : Stop). Err stop) c.in-Err-Failed.field-0-is),
  sheet_part c.args.office.now c.tables-tables.result.now
      (seen (g.O.Sink.written c.args.out.now) (g.O.Sink.faults c.args.out.now)) (seen (g.O.Sink.written c.write_ballots.new.out) (g.O.Sink.faults c.write_ballots.new.out))
      c.tables-tables.ensures c.in-Err-Failed.ensures.bytes,
)

pub returns : goal.returns
returns g c =
    inr (sheet_part c.args.office.now c.tables-tables.result.now
    (seen (g.O.Sink.written c.args.out.now) (g.O.Sink.faults c.args.out.now)) (seen (g.O.Sink.written c.write_ballots.new.out) (g.O.Sink.faults c.write_ballots.new.out))
    c.tables-tables.ensures c.in-Err-NoMemory.ensures.bytes)
