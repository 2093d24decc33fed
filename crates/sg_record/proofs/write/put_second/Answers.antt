-- The second section follows the first.
use Rattle.std.proofs.Common.{[], ◌++◌, ◌∙◌}
use Rattle.std.specs.List.{flat_map}
use Rattle.sg_record.proofs.Putting.{puts_stop, puts_then, seals_after}
use Rattle.sg_record.specs.Lines.{first_lines}
use Rattle.sg_record.specs.Tree.{as_line, block_tree, result_tree}
use Rattle.sg_record.proofs.write.put_second.Goals as goal

pub put_closed-requires-clause-version : goal.put_closed-requires-clause-version
put_closed-requires-clause-version g c = c.in_ok-put_first.ensures.version ∙ c.requires.version

pub put_closed-requires-clause-seal : goal.put_closed-requires-clause-seal
put_closed-requires-clause-seal g c =
    let posted = g.P.Posts.posted c.args.posted.now in
    seals_after g.P.Posts.wants_seal _ _ _ posted.plan.version [] (first_lines posted) c.requires.version c.requires.seal c.in_ok-put_first.ensures

pub returns-in_err-put_first : goal.returns-in_err-put_first
returns-in_err-put_first g c =
    let posted = g.P.Posts.posted c.args.posted.now in
    puts_stop _ _ _ _ (first_lines posted) (flat_map (block_tree as_line posted.plan) posted.ballots ++ result_tree as_line posted) c.from_residual.ensures.0 c.in_err-put_first.ensures

pub returns : goal.returns
returns g c =
    let posted = g.P.Posts.posted c.args.posted.now in
    puts_then _ _ _ _ _ (first_lines posted) (flat_map (block_tree as_line posted.plan) posted.ballots ++ result_tree as_line posted) c.in_ok-put_first.ensures c.put_closed.ensures
