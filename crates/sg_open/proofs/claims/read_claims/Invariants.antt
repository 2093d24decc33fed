use Rattle.std.proofs.Common.{◌≡◌, ◌++◌, [], take, drop, true}
use Rattle.std.specs.List.{filter_map, list_all}
use Rattle.std.specs.Str.{is_utf8}
use Rattle.sg_plan.specs.Limits.{first_bad}
use Rattle.sg_histories.specs.ValidRows.{claim_keeps, claim_text}
use Rattle.sg_open.specs.inside.Telling.{row_claim}
use Rattle.sg_open.proofs.claims.read_claims.Given as goal

abbrev pub invariant-loop-at : goal.invariant-loop-at
invariant-loop-at l = record {
  bad : first_bad (claim_keeps l.index l.drawn) (take l.at l.rows) (drop l.at l.rows) ≡ first_bad (claim_keeps l.index l.drawn) [] l.rows;
  claims : l.claims ++ filter_map (row_claim l.index) (drop l.at l.rows) ≡ filter_map (row_claim l.index) l.rows;
  told : l.told ++ filter_map (claim_text l.index.version) (drop l.at l.rows) ≡ l.fn.told ++ filter_map (claim_text l.index.version) l.rows;
  utf8 : list_all is_utf8 l.told ≡ true;
}
