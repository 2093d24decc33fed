-- Each list is made from the one before it.
use Rattle.std.proofs.Common.{◌≡◌, true, ◌+◌, Bool, List, length, map, sym, subst, ap, ◌∙◌}
use Rattle.sg_plan.specs.Ballots.{ballots_of}
use Rattle.sg_plan.specs.declared.plan.Plan.{Plan}
use Rattle.sg_streams.specs.Numbers.{numbers_below}
use Rattle.sg_post.specs.Fits.{fates_fit}
use Rattle.sg_post.specs.Marks.{is_entry_marked, is_place_set}
use Rattle.sg_post.specs.Posting.{is_audited_ballot}
use Rattle.sg_post.specs.inside.Making.{HaveEntries, race_flags_by, race_places_by, race_totals_by}
use Rattle.sg_post.proofs.Made.{flags-are, have_entries, places-are, totals-are}
use Rattle.sg_post.proofs.posting.Posting.fill.Goals as goal

pub mark_races-requires-clause-index : goal.mark_races-requires-clause-index
mark_races-requires-clause-index c = c.requires.index

pub mark_races-requires-clause-fits : goal.mark_races-requires-clause-fits
mark_races-requires-clause-fits c = c.requires.fits

pub flag_races-requires : goal.flag_races-requires
flag_races-requires c = subst (HaveEntries c.args.tables.now.plan) (sym (c.replace.ensures.after ∙ c.in_ok-marks.ensures)) (have_entries c.args.tables.now.plan (is_entry_marked c.args.tables.now.plan c.args.tables.now.seed c.args.fates.now))

pub place_races-requires : goal.place_races-requires
place_races-requires c = subst (HaveEntries c.args.tables.now.plan) (sym (c.replace.ensures.after ∙ c.in_ok-marks.ensures)) (have_entries c.args.tables.now.plan (is_entry_marked c.args.tables.now.plan c.args.tables.now.seed c.args.fates.now))

pub total_races-requires : goal.total_races-requires
total_races-requires c =
    let plan = c.args.tables.now.plan in
    let seed = c.args.tables.now.seed in
    let fates = c.args.fates.now in
    let marks = c.replace.ensures.after ∙ c.in_ok-marks.ensures in
    let places = c.replace-3.ensures.after ∙ (c.in_ok-places.ensures ∙ (ap (λ (m : List (List Bool)). map (race_places_by plan seed m) (numbers_below (length plan.races))) marks ∙ places-are plan seed fates)) in
    subst (HaveEntries plan) (sym places) (have_entries plan (is_place_set plan seed fates))

pub audited_ballots-requires : goal.audited_ballots-requires
audited_ballots-requires c =
    subst (λ (p : Plan). fates_fit p 0 c.args.fates.now ≡ true) (sym (c.requires.index)) c.requires.fits

pub returns : goal.returns
returns c =
    let plan = c.args.tables.now.plan in
    let seed = c.args.tables.now.seed in
    let fates = c.args.fates.now in
    let marks = c.replace.ensures.after ∙ c.in_ok-marks.ensures in
    let places = c.replace-3.ensures.after ∙ (c.in_ok-places.ensures ∙ (ap (λ (m : List (List Bool)). map (race_places_by plan seed m) (numbers_below (length plan.races))) marks ∙ places-are plan seed fates)) in
    record {
      index = c.requires.index;
      marks = marks;
      flags = c.replace-2.ensures.after ∙ (c.in_ok-flags.ensures ∙ (ap (λ (m : List (List Bool)). map (race_flags_by plan seed m) (numbers_below (length plan.races))) marks ∙ flags-are plan seed fates));
      places = places;
      totals = c.replace-4.ensures.after ∙ (c.in_ok-totals.ensures ∙ (ap (λ (m : List (List Bool)). map (race_totals_by plan m) (numbers_below (length plan.races))) places ∙ totals-are plan seed fates));
      audited = c.replace-5.ensures.after ∙ (c.in_ok-audited.ensures ∙ ap (λ (p : Plan). map (is_audited_ballot fates) (numbers_below (ballots_of p + 1))) c.requires.index);
    }
