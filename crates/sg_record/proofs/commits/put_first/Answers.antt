-- The parts follow one another, and the seal stands behind them.
use Rattle.std.proofs.Common.{[], ◌++◌}
use Rattle.sg_record.proofs.FormedLists.{formed_parts}
use Rattle.sg_record.proofs.Putting.{puts_stop, puts_then, seals_after}
use Rattle.sg_record.specs.Lines.{plan_lines}
use Rattle.sg_record.specs.Tree.{as_line, commit_tree, indexed, race_code_commit_tree, race_row_commit_tree, seal_tree}
use Rattle.sg_record.proofs.commits.put_first.Goals as goal

pub put_plan-requires : goal.put_plan-requires
put_plan-requires g c = record { limits = rw c.plan.ensures (formed_parts (g.P.Posts.posted c.args.posted.now) c.requires.formed).plan }

pub put_seal-requires-clause-seal : goal.put_seal-requires-clause-seal
put_seal-requires-clause-seal g c =
    let posted = g.P.Posts.posted c.args.posted.now in
    let codes = indexed (race_code_commit_tree as_line) 0 posted.code_commits in
    let rows = indexed (race_row_commit_tree as_line) 0 posted.row_commits in
    let parts = puts_then _ _ _ _ _ (plan_lines posted.plan) (codes ++ rows) (rw c.plan.ensures at c.in_ok-put_plan.ensures)
    (puts_then _ _ _ _ _ codes rows c.in_ok-put_code_commits.ensures c.in_ok-put_row_commits.ensures) in
    seals_after g.P.Posts.wants_seal _ _ _ posted.plan.version [] (plan_lines posted.plan ++ (codes ++ rows)) c.requires.version c.requires.seal parts

pub returns-in_err-put_plan : goal.returns-in_err-put_plan
returns-in_err-put_plan g c =
    let posted = g.P.Posts.posted c.args.posted.now in
    puts_stop _ _ _ _ (plan_lines posted.plan) (commit_tree as_line posted) c.from_residual.ensures.0 (rw c.plan.ensures at c.in_err-put_plan.ensures)

pub returns-in_err-put_code_commits : goal.returns-in_err-put_code_commits
returns-in_err-put_code_commits g c =
    let posted = g.P.Posts.posted c.args.posted.now in
    let codes = indexed (race_code_commit_tree as_line) 0 posted.code_commits in
    let rows = indexed (race_row_commit_tree as_line) 0 posted.row_commits in
    puts_then _ _ _ _ _ (plan_lines posted.plan) (commit_tree as_line posted) (rw c.plan.ensures at c.in_ok-put_plan.ensures)
    (puts_stop _ _ _ _ codes (rows ++ seal_tree as_line 1 posted.seals) c.from_residual-in_err-put_code_commits.ensures.0 c.in_err-put_code_commits.ensures)

pub returns-in_err-put_row_commits : goal.returns-in_err-put_row_commits
returns-in_err-put_row_commits g c =
    let posted = g.P.Posts.posted c.args.posted.now in
    let codes = indexed (race_code_commit_tree as_line) 0 posted.code_commits in
    let rows = indexed (race_row_commit_tree as_line) 0 posted.row_commits in
    puts_then _ _ _ _ _ (plan_lines posted.plan) (commit_tree as_line posted) (rw c.plan.ensures at c.in_ok-put_plan.ensures)
    (puts_then _ _ _ _ _ codes (rows ++ seal_tree as_line 1 posted.seals) c.in_ok-put_code_commits.ensures
    (puts_stop _ _ _ _ rows (seal_tree as_line 1 posted.seals) c.from_residual-in_err-put_row_commits.ensures.0 c.in_err-put_row_commits.ensures))

pub returns : goal.returns
returns g c =
    let posted = g.P.Posts.posted c.args.posted.now in
    let codes = indexed (race_code_commit_tree as_line) 0 posted.code_commits in
    let rows = indexed (race_row_commit_tree as_line) 0 posted.row_commits in
    puts_then _ _ _ _ _ (plan_lines posted.plan) (commit_tree as_line posted) (rw c.plan.ensures at c.in_ok-put_plan.ensures)
    (puts_then _ _ _ _ _ codes (rows ++ seal_tree as_line 1 posted.seals) c.in_ok-put_code_commits.ensures
    (puts_then _ _ _ _ _ rows (seal_tree as_line 1 posted.seals) c.in_ok-put_row_commits.ensures c.put_seal.ensures))
