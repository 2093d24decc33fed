-- The races follow one another.
use Rattle.std.proofs.Common.{[], arith}
use Rattle.std.proofs.lemmas.List.{drop_more}
use Rattle.sg_record.proofs.FormedLists.{formed_parts, rows_have}
use Rattle.sg_record.proofs.Putting.{left_all, list_end, list_fault, list_next}
use Rattle.sg_record.specs.Tree.{as_line, race_row_commit_tree}
use Rattle.sg_record.proofs.commits.put_row_commits.Goals as goal

pub loop-race-init : goal.loop-race-init
loop-race-init g c = left_all _ _

pub returns-in_err-put_race_commits : goal.returns-in_err-put_race_commits
returns-in_err-put_race_commits g c =
    let posted = g.P.Posts.posted c.args.posted.now in
    let many = (rows_have posted.plan posted.row_commits (formed_parts posted c.requires.formed).row_commits).many in
    list_fault _ _ _ _ _ (race_row_commit_tree as_line) posted.row_commits c.loop-race.race _ c.loop-race.invariant (drop_more posted.row_commits c.loop-race.race [] (omega (arith, many, c.count_races-race-end.ensures))) c.from_residual.ensures.0 c.in_err-put_race_commits.ensures

pub loop-race-preserved : goal.loop-race-preserved
loop-race-preserved g c =
    let posted = g.P.Posts.posted c.args.posted.now in
    let many = (rows_have posted.plan posted.row_commits (formed_parts posted c.requires.formed).row_commits).many in
    list_next _ _ _ _ (race_row_commit_tree as_line) posted.row_commits c.loop-race.race _ c.loop-race.invariant (drop_more posted.row_commits c.loop-race.race [] (omega (arith, many, c.count_races-race-end.ensures))) c.in_ok-put_race_commits.ensures

pub returns : goal.returns
returns g c =
    let posted = g.P.Posts.posted c.args.posted.now in
    let many = (rows_have posted.plan posted.row_commits (formed_parts posted c.requires.formed).row_commits).many in
    list_end _ _ _ (race_row_commit_tree as_line) posted.row_commits c.loop-race.race c.loop-race.invariant (omega (arith, many, c.count_races-race-end.ensures))
