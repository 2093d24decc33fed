-- The blocks follow one another.
use Rattle.std.proofs.Common.{ap, refl, ◌+◌, ◌∙◌, drop, arith}
use Rattle.sg_record.proofs.Marks.{fates_behind, first_fate}
use Rattle.sg_record.proofs.Putting.{items_end, items_fault, items_next}
use Rattle.std.specs.List.{flat_map}
use Rattle.sg_record.specs.Tree.{as_line, block_tree}
use Rattle.sg_record.proofs.blocks.put_blocks.Goals as goal

pub returns-in_err-put_block : goal.returns-in_err-put_block
returns-in_err-put_block g c =
    items_fault _ _ _ _ _ (flat_map (block_tree as_line c.args.index.now)) c.args.blocks.now c.loop-at.at (block_tree as_line c.args.index.now c.get-block.result.now) c.loop-at.invariant.left (ap (flat_map (block_tree as_line c.args.index.now)) c.get-block.ensures.rest) c.from_residual.ensures.0 c.in_err-put_block.ensures

pub loop-at-preserved : goal.loop-at-preserved
loop-at-preserved g c =
    let first = first_fate c.args.index.now 0 (drop c.loop-at.at c.args.blocks.now) c.get-block.result.now (drop (c.loop-at.at + 1) c.args.blocks.now) c.get-block.ensures.rest c.loop-at.invariant.fates in
    record {
      left = items_next _ _ _ _ (flat_map (block_tree as_line c.args.index.now)) c.args.blocks.now c.loop-at.at (block_tree as_line c.args.index.now c.get-block.result.now) c.loop-at.invariant.left (ap (flat_map (block_tree as_line c.args.index.now)) c.get-block.ensures.rest) c.in_ok-put_block.ensures;
      fates = fates_behind c.args.index.now 0 c.get-block.result.now.ballot (drop (c.loop-at.at + 1) c.args.blocks.now) (omega arith) first.3;
    }

pub returns : goal.returns
returns g c = items_end _ _ _ (flat_map (block_tree as_line c.args.index.now)) c.args.blocks.now c.loop-at.at refl c.loop-at.invariant.left (omega arith)

pub races-races-requires-clause-first : goal.races-races-requires-clause-first
races-races-requires-clause-first g c = (first_fate c.args.index.now 0 (drop c.loop-at.at c.args.blocks.now) c.get-block.result.now (drop (c.loop-at.at + 1) c.args.blocks.now) c.get-block.ensures.rest c.loop-at.invariant.fates).0

pub races-races-requires-clause-last : goal.races-races-requires-clause-last
races-races-requires-clause-last g c = (first_fate c.args.index.now 0 (drop c.loop-at.at c.args.blocks.now) c.get-block.result.now (drop (c.loop-at.at + 1) c.args.blocks.now) c.get-block.ensures.rest c.loop-at.invariant.fates).1

pub put_block-requires-clause-fate : goal.put_block-requires-clause-fate
put_block-requires-clause-fate g c = (first_fate c.args.index.now 0 (drop c.loop-at.at c.args.blocks.now) c.get-block.result.now (drop (c.loop-at.at + 1) c.args.blocks.now) c.get-block.ensures.rest c.loop-at.invariant.fates).2

pub put_block-requires-clause-version : goal.put_block-requires-clause-version
put_block-requires-clause-version g c = c.loop-at.invariant.left.puts.version ∙ c.requires.version
