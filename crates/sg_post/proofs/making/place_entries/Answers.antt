-- Each turn sets the place of one more entry, where it is marked.
use Rattle.std.proofs.Common.{Bool, true, false, List, cond, length, replicate, set, ap, ◌∙◌, arith}
use Rattle.std.specs.List.{list_any}
use Rattle.std.proofs.lemmas.Option.{get_or_from_slice_get}
use Rattle.sg_plan.specs.Ballots.{entries_of}
use Rattle.sg_streams.specs.Numbers.{numbers_below}
use Rattle.sg_tables.proofs.Lists.{length-map_below}
use Rattle.sg_post.specs.inside.Making.{leads_to, places_by}
use Rattle.sg_post.proofs.Kept.{places-next, places-none}
use Rattle.sg_post.proofs.making.place_entries.Goals as goal

pub loop-entry-init : goal.loop-entry-init
loop-entry-init c =
    c.in_ok-places.ensures ∙ (ap (λ n. replicate n false) c.count_entries-entries.ensures ∙ places-none c.args.tables.now.plan c.args.tables.now.seed c.args.race c.args.marks.now)

pub set_where-requires : goal.set_where-requires
set_where-requires c =
    let long = length-map_below (λ place. list_any (leads_to c.args.tables.now.plan c.args.tables.now.seed c.args.race c.args.marks.now place) (numbers_below c.loop-entry.entry)) (entries_of c.args.tables.now.plan c.args.race) in
    omega (arith, c.path-place.ensures.bound, ap length c.loop-entry.invariant, long)

pub loop-entry-preserved : goal.loop-entry-preserved
loop-entry-preserved c =
    let plan = c.args.tables.now.plan in
    let seed = c.args.tables.now.seed in
    let marks = c.args.marks.now in
    let is = get_or_from_slice_get marks c.loop-entry.entry c.get-is_marked.result.now false c.get-is_marked.ensures.item in
    c.set_where.ensures
    ∙ (ap (λ (l : List Bool). cond c.get-is_marked.result.now (set l c.path-place.result true) l) c.loop-entry.invariant
    ∙ (ap (λ k. cond c.get-is_marked.result.now (set (places_by plan seed c.args.race marks c.loop-entry.entry) k true) (places_by plan seed c.args.race marks c.loop-entry.entry)) c.path-place.ensures.value
    ∙ places-next plan seed c.args.race c.loop-entry.entry marks c.get-is_marked.result.now is (rw (← c.path-place.ensures.value) c.path-place.ensures.bound)))
