-- Each connection so far gives bytes.
use Rattle.std.proofs.Common.{◌<◌, All}
use Rattle.office_cases.proofs.connections.cases.all_incoming.Given as goal

abbrev pub invariant-loop-line : goal.invariant-loop-line
invariant-loop-line l = All (λ incoming. 0 < incoming.piece) l.coming.items
