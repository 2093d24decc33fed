-- The parts follow one another.
use Rattle.std.proofs.Common.{[], ◌++◌, ◌<◌, ◌^◌, length, ap, arith}
use Rattle.std.proofs.lemmas.Option.{get_or_from_slice_get}
use Rattle.sg_lists.proofs.Tests.{All-slice_get}
use Rattle.sg_record.proofs.Putting.{puts_stop, puts_then}
use Rattle.sg_record.specs.Tree.{as_line, flag_tree, indexed, place_tree, total_leaf}
use Rattle.sg_record.proofs.results.put_race_results.Goals as goal

pub get-flags-requires : goal.get-flags-requires
get-flags-requires g c = omega (arith, ap length c.flags.ensures, c.requires.lists.flags)

pub get-places-requires : goal.get-places-requires
get-places-requires g c = omega (arith, ap length c.places.ensures, c.requires.lists.places)

pub get-totals-requires : goal.get-totals-requires
get-totals-requires g c = omega (arith, ap length c.totals.ensures, c.requires.lists.totals)

pub put_race_flags-requires : goal.put_race_flags-requires
put_race_flags-requires g c =
    record { few = All-slice_get (λ instances. length instances < 2 ^ 32) (g.P.Posts.posted c.args.posted.now).flags c.args.race c.get-flags.result.now c.requires.lists.few_flags (rw c.flags.ensures at c.get-flags.ensures.item) }

pub put_totals-requires : goal.put_totals-requires
put_totals-requires g c =
    record { few = All-slice_get (λ totals. length totals < 2 ^ 32) (g.P.Posts.posted c.args.posted.now).totals c.args.race c.get-totals.result.now c.requires.lists.few_totals (rw c.totals.ensures at c.get-totals.ensures.item) }

pub returns-in_err-put_race_flags : goal.returns-in_err-put_race_flags
returns-in_err-put_race_flags g c =
    let posted = g.P.Posts.posted c.args.posted.now in
    rw (get_or_from_slice_get posted.flags c.args.race c.get-flags.result.now [] (rw c.flags.ensures at c.get-flags.ensures.item))
    (puts_stop _ _ _ _ (indexed (flag_tree as_line c.args.race) 0 c.get-flags.result.now) _ c.from_residual.ensures.0 c.in_err-put_race_flags.ensures)

pub returns-in_err-put_place_lines : goal.returns-in_err-put_place_lines
returns-in_err-put_place_lines g c =
    let posted = g.P.Posts.posted c.args.posted.now in
    rw (
      get_or_from_slice_get posted.flags c.args.race c.get-flags.result.now [] (rw c.flags.ensures at c.get-flags.ensures.item),
      get_or_from_slice_get posted.places c.args.race c.get-places.result.now [] (rw c.places.ensures at c.get-places.ensures.item),
    )
    (puts_then _ _ _ _ _ (indexed (flag_tree as_line c.args.race) 0 c.get-flags.result.now) _ c.in_ok-put_race_flags.ensures
    (puts_stop _ _ _ _ (place_tree as_line c.args.race c.get-places.result.now) _ c.from_residual-in_err-put_place_lines.ensures.0 c.in_err-put_place_lines.ensures))

pub returns : goal.returns
returns g c =
    let posted = g.P.Posts.posted c.args.posted.now in
    rw (
      get_or_from_slice_get posted.flags c.args.race c.get-flags.result.now [] (rw c.flags.ensures at c.get-flags.ensures.item),
      get_or_from_slice_get posted.places c.args.race c.get-places.result.now [] (rw c.places.ensures at c.get-places.ensures.item),
      get_or_from_slice_get posted.totals c.args.race c.get-totals.result.now [] (rw c.totals.ensures at c.get-totals.ensures.item),
    )
    (puts_then _ _ _ _ _ (indexed (flag_tree as_line c.args.race) 0 c.get-flags.result.now) (place_tree as_line c.args.race c.get-places.result.now ++ indexed (total_leaf as_line c.args.race) 0 c.get-totals.result.now) c.in_ok-put_race_flags.ensures
    (puts_then _ _ _ _ _ (place_tree as_line c.args.race c.get-places.result.now) (indexed (total_leaf as_line c.args.race) 0 c.get-totals.result.now) c.in_ok-put_place_lines.ensures c.put_totals.ensures))
