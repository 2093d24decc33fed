use Rattle.std.proofs.Common.{◌≡◌, ◌+◌, drop, length}
use Rattle.sg_ledger.specs.inside.Tables.{with_firsts}
use Rattle.sg_ledger.proofs.tables.put_firsts.Given as goal

abbrev pub invariant-loop-place : goal.invariant-loop-place
invariant-loop-place l = record {
  len : length l.table ≡ length l.fn.table;
  put : with_firsts l.table (l.at + l.place) (drop l.place l.codes) ≡ with_firsts l.fn.table l.at l.codes;
}
