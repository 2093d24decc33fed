-- The races follow one another.
use Rattle.std.proofs.Common.{ap, refl, arith}
use Rattle.sg_lists.proofs.Tests.{All-slice_get}
use Rattle.sg_plan.specs.Limits.{KeepsRace}
use Rattle.sg_record.proofs.Putting.{items_end, items_fault, items_next}
use Rattle.std.specs.List.{flat_map}
use Rattle.sg_record.specs.Lines.{race_lines}
use Rattle.sg_record.proofs.head.put_races.Goals as goal

pub returns-in_err-put_race : goal.returns-in_err-put_race
returns-in_err-put_race g c =
    items_fault _ _ _ _ _ (flat_map race_lines) c.args.races.now c.loop-at.at (race_lines c.get.result.now) c.loop-at.invariant (ap (flat_map race_lines) c.get.ensures.rest) c.from_residual.ensures.0 c.in_err-put_race.ensures

pub loop-at-preserved : goal.loop-at-preserved
loop-at-preserved g c =
    items_next _ _ _ _ (flat_map race_lines) c.args.races.now c.loop-at.at (race_lines c.get.result.now) c.loop-at.invariant (ap (flat_map race_lines) c.get.ensures.rest) c.in_ok-put_race.ensures

pub returns : goal.returns
returns g c = items_end _ _ _ (flat_map race_lines) c.args.races.now c.loop-at.at refl c.loop-at.invariant (omega arith)

pub put_race-requires : goal.put_race-requires
put_race-requires g c = record { race = All-slice_get KeepsRace c.args.races.now c.loop-at.at c.get.result.now c.requires.races c.get.ensures.item }
