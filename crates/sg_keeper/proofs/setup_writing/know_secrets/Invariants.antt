-- The invariant of the loop of `know_secrets`.
use Rattle.std.proofs.Common.{All, take}
use Rattle.sg_forms.specs.Spelling.{AreBytes}
use Rattle.sg_keeper.proofs.setup_writing.know_secrets.Given as goal

abbrev pub invariant-loop-at : goal.invariant-loop-at
invariant-loop-at l = All (AreBytes 16) (take l.at l.secrets)
