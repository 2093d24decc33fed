use Rattle.std.proofs.Common.{◌≡◌, drop}
use Rattle.serde_json.specs.View.{items_view}
use Rattle.sg_asks.specs.Members.{each_by}
use Rattle.sg_asks.specs.Asks.{codes_in}
use Rattle.sg_asks.proofs.Each.{onto}
use Rattle.sg_asks.proofs.papers.each_codes.Given as goal

abbrev pub invariant-loop-at : goal.invariant-loop-at
invariant-loop-at l = onto l.items (each_by (codes_in l.version) (items_view (drop l.at l.list))) ≡ each_by (codes_in l.version) (items_view l.list)
