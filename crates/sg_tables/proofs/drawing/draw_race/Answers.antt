-- The numbers of a plan without a fault are small, and each list is that of its definition.
use Rattle.std.proofs.Common.{◌*◌, arith, ap, ◌∙◌}
use Rattle.sg_plan.specs.Ballots.{rows_of}
use Rattle.sg_tables.specs.inside.Kept.{kept_codes, kept_columns, kept_shown}
use Rattle.sg_tables.proofs.Draws.{lefts_drawn, places_drawn}
use Rattle.sg_tables.proofs.Sizes.{sizes}
use Rattle.sg_tables.proofs.drawing.draw_race.Goals as goal

pub overflow_cast-candidates : goal.overflow_cast-candidates
overflow_cast-candidates c = omega (arith, c.candidates-candidates.ensures, (sizes c.args.plan.now c.args.race c.requires.limits c.requires.race).candidates)

pub draw_codes-requires-clause-known_version : goal.draw_codes-requires-clause-known_version
draw_codes-requires-clause-known_version c = (sizes c.args.plan.now c.args.race c.requires.limits c.requires.race).version

pub draw_codes-requires-clause-small_race : goal.draw_codes-requires-clause-small_race
draw_codes-requires-clause-small_race c = (sizes c.args.plan.now c.args.race c.requires.limits c.requires.race).small

pub draw_codes-requires-clause-few : goal.draw_codes-requires-clause-few
draw_codes-requires-clause-few c = (sizes c.args.plan.now c.args.race c.requires.limits c.requires.race).candidates

pub draw_entries-requires-clause-small_race : goal.draw_entries-requires-clause-small_race
draw_entries-requires-clause-small_race c = (sizes c.args.plan.now c.args.race c.requires.limits c.requires.race).small

pub draw_entries-requires-clause-few : goal.draw_entries-requires-clause-few
draw_entries-requires-clause-few c = (sizes c.args.plan.now c.args.race c.requires.limits c.requires.race).candidates

pub draw_orders-requires-clause-small_race : goal.draw_orders-requires-clause-small_race
draw_orders-requires-clause-small_race c = (sizes c.args.plan.now c.args.race c.requires.limits c.requires.race).small

pub overflow_mul-rows : goal.overflow_mul-rows
overflow_mul-rows c =
    let few = (sizes c.args.plan.now c.args.race c.requires.limits c.requires.race).entries in
    rw (c.rows-rows.ensures, c.candidates-candidates.ensures) (omega (arith, few))

pub draw_orders-requires-2-clause-small_race : goal.draw_orders-requires-2-clause-small_race
draw_orders-requires-2-clause-small_race c = (sizes c.args.plan.now c.args.race c.requires.limits c.requires.race).small

pub returns : goal.returns
returns c =
    let plan = c.args.plan.now in
    let seed = c.args.seed.now.0 in
    let race = c.args.race in
    let is = c.candidates-candidates.ensures in
    let many = c.rows-rows.ensures in
    record {
      candidates = is;
      codes = c.in_ok-codes.ensures ∙ ap (kept_codes plan seed race) many;
      shown = c.in_ok-entries.ensures.shown ∙ ap (kept_shown plan seed race) many;
      columns = c.in_ok-entries.ensures.columns ∙ ap (kept_columns plan seed race) many;
      place_rows = places_drawn plan seed race c.candidates-candidates.result c.rows-rows.result c.in_ok-place_rows.place_rows
          is many c.in_ok-place_rows.ensures;
      lefts = lefts_drawn plan seed race (c.rows-rows.result * c.candidates-candidates.result) c.in_ok-lefts.lefts
          (ap (λ k. k * c.candidates-candidates.result) many ∙ ap (λ k. rows_of plan race * k) is) c.in_ok-lefts.ensures;
    }
