use Rattle.std.proofs.Common.{◌≡◌}
use Rattle.sg_tables.specs.inside.Kept.{kept_columns, kept_shown}
use Rattle.sg_tables.proofs.drawing.draw_entries.Given as goal

abbrev pub invariant-loop-row : goal.invariant-loop-row
invariant-loop-row l = record {
  shown : l.shown ≡ kept_shown l.plan l.seed.0 l.race l.row;
  columns : l.columns ≡ kept_columns l.plan l.seed.0 l.race l.row;
}
