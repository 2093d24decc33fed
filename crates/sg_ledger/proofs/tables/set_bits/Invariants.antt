use Rattle.std.proofs.Common.{◌≡◌, ◌+◌, drop, length}
use Rattle.sg_ledger.specs.inside.Tables.{with_bits}
use Rattle.sg_ledger.proofs.tables.set_bits.Given as goal

abbrev pub invariant-loop-place : goal.invariant-loop-place
invariant-loop-place l = record {
  len : length l.table ≡ length l.fn.table;
  set : with_bits l.table (l.at + l.place) (drop l.place l.bits) ≡ with_bits l.fn.table l.at l.bits;
}
