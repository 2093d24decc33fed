-- Each race of the list is the ballot's, and its line is put.
use Rattle.std.proofs.Common.{◌++◌, map}
use Rattle.sg_sheet.specs.inside.Listed.{codes_due}
use Rattle.sg_sheet.proofs.Listing.{races_step}
use Rattle.sg_sheet.proofs.Styles.{listed-has}
use Rattle.sg_sheet.proofs.due.push_races.Goals as goal

pub codes_due-requires : goal.codes_due-requires
codes_due-requires c = record { has = listed-has c.args.index.now c.args.ballot c.loop-at.at c.race_at.result c.args.races.now c.requires.races c.race_at.ensures }

pub loop-at-preserved : goal.loop-at-preserved
loop-at-preserved c =
    races_step c.args.index.now c.args.ballot c.loop-at.due c.push.new.self (c.args.due.now ++ map (codes_due c.args.index.now c.args.ballot) c.args.races.now) c.args.races.now c.loop-at.at c.race_at.result
    c.race_at.ensures (rw (← c.codes_due.ensures) c.in_ok-push.ensures.ok) c.loop-at.invariant
