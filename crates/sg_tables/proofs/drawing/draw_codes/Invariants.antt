use Rattle.std.proofs.Common.{◌≡◌}
use Rattle.sg_tables.specs.inside.Kept.{kept_codes}
use Rattle.sg_tables.proofs.drawing.draw_codes.Given as goal

abbrev pub invariant-loop-row : goal.invariant-loop-row
invariant-loop-row l = l.list ≡ kept_codes l.plan l.seed.0 l.race l.row
