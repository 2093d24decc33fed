use Rattle.std.proofs.Common.{◌≡◌, ◌++◌, drop, map}
use Rattle.sg_desks.specs.Receipts.{code_seen}
use Rattle.sg_desks.proofs.claims.add_codes.Given as goal

abbrev pub invariant-loop-at : goal.invariant-loop-at
invariant-loop-at l = l.seen ++ map (code_seen l.fn.race) (drop l.at l.codes) ≡ l.fn.seen ++ map (code_seen l.fn.race) l.codes
