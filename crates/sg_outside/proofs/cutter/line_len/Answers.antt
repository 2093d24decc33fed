-- The place of the first line feed says where the first line ends.
use Rattle.std.proofs.Common.{arith, add-one}
use Rattle.sg_outside.proofs.CuttingLemmas.{HasNoFeed-nowhere, IsLine-first}
use Rattle.sg_outside.proofs.cutter.line_len.Goals as goal

pub returns-in_err-at : goal.returns-in_err-at
returns-in_err-at c = rw c.from_residual.ensures (HasNoFeed-nowhere c.args.bytes.now c.in_err-at.ensures)

pub returns : goal.returns
returns c =
    let first = c.in_ok-at.ensures in
    (omega (arith, first.0.high), rw add-one (IsLine-first c.args.bytes.now c.in_ok-at.at first.0.high first.0.before first.1))
