-- Each list is made from the one before it.
use Rattle.std.proofs.Common.{Bool, List, length, map, sym, subst, ap, ◌∙◌}
use Rattle.sg_streams.specs.Numbers.{numbers_below}
use Rattle.sg_post.specs.Marks.{is_entry_marked, is_place_set}
use Rattle.sg_post.specs.inside.Making.{HaveEntries, race_places_by, race_totals_by}
use Rattle.sg_post.proofs.Made.{have_entries, places-are, totals-are}
use Rattle.sg_post.proofs.totals.total_fates.Goals as goal

pub place_races-requires : goal.place_races-requires
place_races-requires c = subst (HaveEntries c.args.tables.now.plan) (sym c.in_ok-marks.ensures) (have_entries c.args.tables.now.plan (is_entry_marked c.args.tables.now.plan c.args.tables.now.seed c.args.fates.now))

pub total_races-requires : goal.total_races-requires
total_races-requires c =
    let plan = c.args.tables.now.plan in
    let seed = c.args.tables.now.seed in
    let fates = c.args.fates.now in
    let places = c.in_ok-places.ensures ∙ (ap (λ (m : List (List Bool)). map (race_places_by plan seed m) (numbers_below (length plan.races))) c.in_ok-marks.ensures ∙ places-are plan seed fates) in
    subst (HaveEntries plan) (sym places) (have_entries plan (is_place_set plan seed fates))

pub returns : goal.returns
returns c =
    let plan = c.args.tables.now.plan in
    let seed = c.args.tables.now.seed in
    let fates = c.args.fates.now in
    let places = c.in_ok-places.ensures ∙ (ap (λ (m : List (List Bool)). map (race_places_by plan seed m) (numbers_below (length plan.races))) c.in_ok-marks.ensures ∙ places-are plan seed fates) in
    rw (ap (λ (m : List (List Bool)). map (race_totals_by plan m) (numbers_below (length plan.races))) places ∙ totals-are plan seed fates) at c.total_races.ensures
