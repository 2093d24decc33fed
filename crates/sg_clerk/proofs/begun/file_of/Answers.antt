-- The setup of an election file keeps its limits.
use Rattle.std.proofs.Common.{sym}
use Rattle.sg_clerk.proofs.Beginning.{file_keeps}
use Rattle.sg_clerk.proofs.begun.file_of.Goals as goal

pub returns-in-Ok : goal.returns-in-Ok
returns-in-Ok c = (file_keeps c.args.bytes.now c.in-Ok.setup (sym c.in-Ok.ensures), (c.requires, sym c.in-Ok.ensures))
