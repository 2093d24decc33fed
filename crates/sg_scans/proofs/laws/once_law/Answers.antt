use Rattle.sg_scans.proofs.Whole.{once, twice}
use Rattle.sg_scans.proofs.laws.once_law.Goals as goal

pub returns-clause-once : goal.returns-clause-once
returns-clause-once c = once

pub returns-clause-twice : goal.returns-clause-twice
returns-clause-twice c = twice
