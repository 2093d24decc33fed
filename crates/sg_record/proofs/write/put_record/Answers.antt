-- The third section and the disputes follow the first two.
use Rattle.std.proofs.Common.{[], ◌++◌, ◌∙◌}
use Rattle.std.specs.List.{flat_map}
use Rattle.sg_record.proofs.Putting.{puts_same, puts_stop, puts_then, seals_after, whole-is}
use Rattle.sg_record.specs.Lines.{second_lines}
use Rattle.sg_record.specs.Tree.{as_line, dispute_tree, opening_tree}
use Rattle.sg_record.proofs.write.put_record.Goals as goal

pub put_openings-requires-clause-version : goal.put_openings-requires-clause-version
put_openings-requires-clause-version g c = c.in_ok-put_second.ensures.version ∙ c.requires.version

pub put_openings-requires-clause-seal : goal.put_openings-requires-clause-seal
put_openings-requires-clause-seal g c =
    let posted = g.P.Posts.posted c.args.posted.now in
    seals_after g.P.Posts.wants_seal _ _ _ posted.plan.version [] (second_lines posted) c.requires.version c.requires.seal c.in_ok-put_second.ensures

pub put_disputes-requires-clause-version : goal.put_disputes-requires-clause-version
put_disputes-requires-clause-version g c = c.in_ok-put_openings.ensures.version ∙ (c.in_ok-put_second.ensures.version ∙ c.requires.version)

pub returns-in_err-put_second : goal.returns-in_err-put_second
returns-in_err-put_second g c =
    let posted = g.P.Posts.posted c.args.posted.now in
    puts_same _ _ _ _ _ (whole-is posted)
    (puts_stop _ _ _ _ (second_lines posted) (opening_tree as_line posted ++ flat_map (dispute_tree as_line) posted.disputes) c.from_residual.ensures.0 c.in_err-put_second.ensures)

pub returns-in_err-put_openings : goal.returns-in_err-put_openings
returns-in_err-put_openings g c =
    let posted = g.P.Posts.posted c.args.posted.now in
    puts_same _ _ _ _ _ (whole-is posted)
    (puts_then _ _ _ _ _ (second_lines posted) (opening_tree as_line posted ++ flat_map (dispute_tree as_line) posted.disputes) c.in_ok-put_second.ensures
    (puts_stop _ _ _ _ (opening_tree as_line posted) (flat_map (dispute_tree as_line) posted.disputes) c.from_residual-in_err-put_openings.ensures.0 c.in_err-put_openings.ensures))

pub returns : goal.returns
returns g c =
    let posted = g.P.Posts.posted c.args.posted.now in
    puts_same _ _ _ _ _ (whole-is posted)
    (puts_then _ _ _ _ _ (second_lines posted) (opening_tree as_line posted ++ flat_map (dispute_tree as_line) posted.disputes) c.in_ok-put_second.ensures
    (puts_then _ _ _ _ _ (opening_tree as_line posted) (flat_map (dispute_tree as_line) posted.disputes) c.in_ok-put_openings.ensures c.put_disputes.ensures))
