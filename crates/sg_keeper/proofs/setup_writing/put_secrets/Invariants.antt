-- The invariant of the loop of `put_secrets`.
use Rattle.std.proofs.Common.{◌≡◌, ◌++◌, drop, map}
use Rattle.std.specs.List.{concat}
use Rattle.sg_keeper.specs.SetupText.{secret_line}
use Rattle.sg_keeper.proofs.setup_writing.put_secrets.Given as goal

abbrev pub invariant-loop-at : goal.invariant-loop-at
invariant-loop-at l = l.out ++ concat (map secret_line (drop l.at l.secrets)) ≡ l.fn.out ++ concat (map secret_line l.secrets)
