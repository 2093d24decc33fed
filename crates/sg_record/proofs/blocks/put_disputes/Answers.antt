-- The disputes follow one another.
use Rattle.std.proofs.Common.{ap, refl, ◌+◌, drop, arith}
use Rattle.sg_record.proofs.Marks.{first_claim}
use Rattle.sg_record.proofs.Putting.{items_end, items_fault, items_next}
use Rattle.std.specs.List.{flat_map}
use Rattle.sg_record.specs.Tree.{as_line, dispute_tree}
use Rattle.sg_record.proofs.blocks.put_disputes.Goals as goal

pub returns-in_err-put_dispute : goal.returns-in_err-put_dispute
returns-in_err-put_dispute g c =
    items_fault _ _ _ _ _ (flat_map (dispute_tree as_line)) c.args.disputes.now c.loop-at.at (dispute_tree as_line c.get.result.now) c.loop-at.invariant.left (ap (flat_map (dispute_tree as_line)) c.get.ensures.rest) c.from_residual.ensures.0 c.in_err-put_dispute.ensures

pub loop-at-preserved : goal.loop-at-preserved
loop-at-preserved g c =
    record {
      left = items_next _ _ _ _ (flat_map (dispute_tree as_line)) c.args.disputes.now c.loop-at.at (dispute_tree as_line c.get.result.now) c.loop-at.invariant.left (ap (flat_map (dispute_tree as_line)) c.get.ensures.rest) c.in_ok-put_dispute.ensures;
      claims = (first_claim c.args.pen.now.version (drop c.loop-at.at c.args.disputes.now) c.get.result.now (drop (c.loop-at.at + 1) c.args.disputes.now) c.get.ensures.rest c.loop-at.invariant.claims).2;
    }

pub returns : goal.returns
returns g c = items_end _ _ _ (flat_map (dispute_tree as_line)) c.args.disputes.now c.loop-at.at refl c.loop-at.invariant.left (omega arith)

pub put_dispute-requires-clause-code : goal.put_dispute-requires-clause-code
put_dispute-requires-clause-code g c = rw c.loop-at.invariant.left.puts.version (first_claim c.args.pen.now.version (drop c.loop-at.at c.args.disputes.now) c.get.result.now (drop (c.loop-at.at + 1) c.args.disputes.now) c.get.ensures.rest c.loop-at.invariant.claims).0

pub put_dispute-requires-clause-codes : goal.put_dispute-requires-clause-codes
put_dispute-requires-clause-codes g c = rw c.loop-at.invariant.left.puts.version (first_claim c.args.pen.now.version (drop c.loop-at.at c.args.disputes.now) c.get.result.now (drop (c.loop-at.at + 1) c.args.disputes.now) c.get.ensures.rest c.loop-at.invariant.claims).1
