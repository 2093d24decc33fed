-- Each turn adds what one more ballot row shows, and its columns.
use Rattle.std.proofs.Common.{length, take, arith, ap}
use Rattle.sg_tables.specs.inside.Kept.{columns_of_row}
use Rattle.sg_tables.specs.Tables.{shown_in_row}
use Rattle.sg_tables.proofs.Draws.{columns_drawn, length-shown_in_row, shown_drawn, shown_in_row-one_to_one}
use Rattle.sg_tables.proofs.Lists.{flat_below-more, flat_below-none}
use Rattle.sg_tables.proofs.drawing.draw_entries.Goals as goal

pub loop-row-init : goal.loop-row-init
loop-row-init c = record { shown = rw flat_below-none c.new-shown.ensures; columns = rw flat_below-none c.new-columns.ensures }

pub inverse_of-requires-clause-few : goal.inverse_of-requires-clause-few
inverse_of-requires-clause-few c =
    let plan = c.args.plan.now in
    let seed = c.args.seed.now.0 in
    let race = c.args.race in
    let row = c.loop-row.row in
    let drawn = shown_drawn plan seed race row c.candidates-candidates.result c.stream.result c.short_order-order.result
    c.candidates-candidates.ensures c.stream.ensures c.short_order-order.ensures in
    omega (arith, ap length drawn, length-shown_in_row plan seed race row, c.requires.few)

pub inverse_of-requires-clause-one_to_one : goal.inverse_of-requires-clause-one_to_one
inverse_of-requires-clause-one_to_one c =
    let plan = c.args.plan.now in
    let seed = c.args.seed.now.0 in
    let race = c.args.race in
    let row = c.loop-row.row in
    let drawn = shown_drawn plan seed race row c.candidates-candidates.result c.stream.result c.short_order-order.result
    c.candidates-candidates.ensures c.stream.ensures c.short_order-order.ensures in
    rw (drawn, length-shown_in_row plan seed race row) (shown_in_row-one_to_one plan seed race row)

pub loop-row-preserved : goal.loop-row-preserved
loop-row-preserved c =
    let plan = c.args.plan.now in
    let seed = c.args.seed.now.0 in
    let race = c.args.race in
    let row = c.loop-row.row in
    let k = c.candidates-candidates.result in
    let is = c.candidates-candidates.ensures in
    let drawn = shown_drawn plan seed race row k c.stream.result c.short_order-order.result is c.stream.ensures c.short_order-order.ensures in
    let places = columns_drawn plan seed race row k (take k c.short_order-order.result) c.inverse_of.result is drawn c.inverse_of.ensures in
    record {
      shown = flat_below-more (shown_in_row plan seed race) row c.loop-row.shown c.extend.new.self _
          c.loop-row.invariant.shown drawn c.in_ok-extend.ensures.ok;
      columns = flat_below-more (columns_of_row plan seed race) row c.loop-row.columns c.extend-in-loop-row.new.self _
          c.loop-row.invariant.columns places c.in_ok-extend-2.ensures.ok;
    }
