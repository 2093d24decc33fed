-- Each turn adds the codes of one more ballot row.
use Rattle.sg_tables.specs.Tables.{codes_of_row}
use Rattle.sg_tables.proofs.Draws.{codes_drawn}
use Rattle.sg_tables.proofs.Lists.{flat_below-more, flat_below-none}
use Rattle.sg_tables.proofs.drawing.draw_codes.Goals as goal

pub loop-row-init : goal.loop-row-init
loop-row-init c = rw flat_below-none c.new-list.ensures

pub loop-row-preserved : goal.loop-row-preserved
loop-row-preserved c =
    let plan = c.args.plan.now in
    let seed = c.args.seed.now.0 in
    let race = c.args.race in
    let row = c.loop-row.row in
    let k = c.candidates-candidates.result in
    let piece = codes_drawn plan seed race row k c.stream.result c.codes-row_codes.result c.requires.known_version
    c.candidates-candidates.ensures c.requires.few c.stream.ensures c.codes-row_codes.ensures.value in
    flat_below-more (codes_of_row plan seed race) row c.loop-row.list c.extend.new.self _ c.loop-row.invariant piece c.in_ok-extend.ensures.ok
