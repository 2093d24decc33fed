use Rattle.std.proofs.Common.{◌≡◌, drop}
use Rattle.serde_json.specs.View.{items_view}
use Rattle.sg_asks.specs.Members.{each_by}
use Rattle.sg_asks.proofs.Each.{onto}
use Rattle.sg_asks.proofs.kinds.each.Given as goal

abbrev pub invariant-loop-at : goal.invariant-loop-at
invariant-loop-at g l = onto l.items (each_by g.T.Kind.kind (items_view (drop l.at l.list))) ≡ each_by g.T.Kind.kind (items_view l.list)
