-- The parts follow one another, and the seal stands behind them.
use Rattle.std.proofs.Common.{◌++◌, length}
use Rattle.std.specs.List.{flat_map}
use Rattle.sg_grammar.specs.Due.{each}
use Rattle.sg_record.proofs.Putting.{puts_stop, puts_then, seals_after}
use Rattle.sg_record.specs.Lines.{first_lines}
use Rattle.sg_record.specs.Tree.{as_line, block_tree, race_results_tree, result_tree, seal_tree}
use Rattle.sg_record.proofs.results.put_closed.Goals as goal

pub put_seal-requires-clause-seal : goal.put_seal-requires-clause-seal
put_seal-requires-clause-seal g c =
    let posted = g.P.Posts.posted c.args.posted.now in
    let blocks = flat_map (block_tree as_line posted.plan) posted.ballots in
    let results = each (race_results_tree as_line posted) 0 (length posted.plan.races) in
    let parts = puts_then _ _ _ _ _ blocks results c.in_ok-put_blocks.ensures c.in_ok-put_results.ensures in
    seals_after g.P.Posts.wants_seal _ _ _ posted.plan.version (first_lines posted) (blocks ++ results) c.requires.version c.requires.seal parts

pub returns-in_err-put_blocks : goal.returns-in_err-put_blocks
returns-in_err-put_blocks g c =
    let posted = g.P.Posts.posted c.args.posted.now in
    puts_stop _ _ _ _ (flat_map (block_tree as_line posted.plan) posted.ballots) (result_tree as_line posted) c.from_residual.ensures.0 c.in_err-put_blocks.ensures

pub returns-in_err-put_results : goal.returns-in_err-put_results
returns-in_err-put_results g c =
    let posted = g.P.Posts.posted c.args.posted.now in
    puts_then _ _ _ _ _ (flat_map (block_tree as_line posted.plan) posted.ballots) (result_tree as_line posted) c.in_ok-put_blocks.ensures
    (puts_stop _ _ _ _ (each (race_results_tree as_line posted) 0 (length posted.plan.races)) (seal_tree as_line 2 posted.seals) c.from_residual-in_err-put_results.ensures.0 c.in_err-put_results.ensures)

pub returns : goal.returns
returns g c =
    let posted = g.P.Posts.posted c.args.posted.now in
    puts_then _ _ _ _ _ (flat_map (block_tree as_line posted.plan) posted.ballots) (result_tree as_line posted) c.in_ok-put_blocks.ensures
    (puts_then _ _ _ _ _ (each (race_results_tree as_line posted) 0 (length posted.plan.races)) (seal_tree as_line 2 posted.seals) c.in_ok-put_results.ensures c.put_seal.ensures)
