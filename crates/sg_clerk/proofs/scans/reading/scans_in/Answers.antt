use Rattle.std.proofs.Common.{sym}
use Rattle.sg_clerk.proofs.scans.reading.scans_in.Goals as goal

pub returns-in-Ok : goal.returns-in-Ok
returns-in-Ok c = (
  c.in-Ok.ensures.come,
  record { short = c.requires; header = c.in-Ok.ensures.header; few = c.in-Ok.ensures.few; are = sym c.in-Ok.ensures.lines },
)
