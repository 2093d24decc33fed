-- The races walked over have their codes, and the rest decide.
use Rattle.std.proofs.Common.{◌≡◌, drop}
use Rattle.sg_record.specs.Formed.{are_columns}
use Rattle.sg_record.proofs.formed.are_columns.Given as goal

abbrev pub invariant-loop-at : goal.invariant-loop-at
invariant-loop-at l = are_columns l.plan (drop l.at l.races) l.left ≡ are_columns l.plan l.races l.codes
