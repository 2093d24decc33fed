-- The races follow one another.
use Rattle.std.proofs.Common.{arith, length, ◌∙◌}
use Rattle.sg_record.proofs.Putting.{each_end, each_fault, each_next}
use Rattle.sg_post.specs.inside.Lines.{fate_race}
use Rattle.sg_post.proofs.ballots.put_races.Goals as goal

pub returns-in_err-put_race : goal.returns-in_err-put_race
returns-in_err-put_race g c =
    each_fault _ _ _ _ _ (fate_race c.args.tables.now.plan c.args.tables.now.seed c.args.told.now.ballot c.args.told.now.fate) c.loop-race.race (length c.args.tables.now.plan.races) (omega arith) c.loop-race.invariant c.from_residual.ensures.0 c.in_err-put_race.ensures

pub loop-race-preserved : goal.loop-race-preserved
loop-race-preserved g c =
    each_next _ _ _ _ (fate_race c.args.tables.now.plan c.args.tables.now.seed c.args.told.now.ballot c.args.told.now.fate) c.loop-race.race (length c.args.tables.now.plan.races) (omega arith) c.loop-race.invariant c.in_ok-put_race.ensures

pub returns : goal.returns
returns g c = each_end _ _ _ (fate_race c.args.tables.now.plan c.args.tables.now.seed c.args.told.now.ballot c.args.told.now.fate) c.loop-race.race (length c.args.tables.now.plan.races) c.loop-race.invariant (omega arith)

pub put_race-requires-clause-version : goal.put_race-requires-clause-version
put_race-requires-clause-version g c = c.loop-race.invariant.puts.version ∙ c.requires.version
