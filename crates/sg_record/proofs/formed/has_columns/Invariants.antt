-- The items walked over pass, and the rest decide.
use Rattle.std.proofs.Common.{◌≡◌, ◌==◌, ◌&&◌, drop}
use Rattle.sg_plan.specs.Codes.{is_code}
use Rattle.sg_record.specs.Formed.{each_passes}
use Rattle.sg_record.proofs.formed.has_columns.Given as goal

abbrev pub invariant-loop-column : goal.invariant-loop-column
invariant-loop-column l =
    each_passes (λ column code. (code.race == l.race && code.column == column) && is_code l.plan code.code) l.column (drop l.column l.codes)
    ≡ each_passes (λ column code. (code.race == l.race && code.column == column) && is_code l.plan code.code) 0 l.codes
