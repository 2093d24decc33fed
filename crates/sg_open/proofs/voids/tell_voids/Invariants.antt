use Rattle.std.proofs.Common.{◌≡◌, ◌++◌, drop, true}
use Rattle.std.specs.List.{filter_map, list_all}
use Rattle.std.specs.Str.{is_utf8}
use Rattle.sg_histories.specs.ValidRows.{void_text}
use Rattle.sg_open.proofs.voids.tell_voids.Given as goal

abbrev pub invariant-loop-at : goal.invariant-loop-at
invariant-loop-at l = record {
  told : l.told ++ filter_map (void_text l.version) (drop l.at l.rows) ≡ l.fn.told ++ filter_map (void_text l.version) l.rows;
  utf8 : list_all is_utf8 l.told ≡ true;
}
