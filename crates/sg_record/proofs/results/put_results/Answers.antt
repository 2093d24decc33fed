-- The races follow one another.
use Rattle.std.proofs.Common.{length, arith}
use Rattle.sg_record.proofs.FormedLists.{formed_parts, has_races}
use Rattle.sg_record.proofs.Putting.{each_end, each_fault, each_next, left_all}
use Rattle.sg_record.specs.Tree.{as_line, race_results_tree}
use Rattle.sg_record.proofs.results.put_results.Goals as goal

pub loop-race-init : goal.loop-race-init
loop-race-init g c = left_all _ _

pub returns-in_err-put_race_results : goal.returns-in_err-put_race_results
returns-in_err-put_race_results g c =
    let posted = g.P.Posts.posted c.args.posted.now in
    each_fault _ _ _ _ _ (race_results_tree as_line posted) c.loop-race.race (length posted.plan.races) (omega (arith, c.count_races-race-end.ensures)) c.loop-race.invariant c.from_residual.ensures.0 c.in_err-put_race_results.ensures

pub loop-race-preserved : goal.loop-race-preserved
loop-race-preserved g c =
    let posted = g.P.Posts.posted c.args.posted.now in
    each_next _ _ _ _ (race_results_tree as_line posted) c.loop-race.race (length posted.plan.races) (omega (arith, c.count_races-race-end.ensures)) c.loop-race.invariant c.in_ok-put_race_results.ensures

pub returns : goal.returns
returns g c =
    let posted = g.P.Posts.posted c.args.posted.now in
    each_end _ _ _ (race_results_tree as_line posted) c.loop-race.race (length posted.plan.races) c.loop-race.invariant (omega (arith, c.count_races-race-end.ensures))

pub put_race_results-requires-clause-lists : goal.put_race_results-requires-clause-lists
put_race_results-requires-clause-lists g c =
    let posted = g.P.Posts.posted c.args.posted.now in
    has_races posted (formed_parts posted c.requires.formed)
