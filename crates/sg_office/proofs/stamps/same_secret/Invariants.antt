use Rattle.std.proofs.Common.{◌≡◌, ◌&&◌, bytes_eq, drop}
use Rattle.sg_office.proofs.stamps.same_secret.Given as goal

abbrev pub invariant-loop-at : goal.invariant-loop-at
invariant-loop-at l = (l.is_same && bytes_eq (drop l.at l.own) (drop l.at l.given)) ≡ bytes_eq l.own l.given
