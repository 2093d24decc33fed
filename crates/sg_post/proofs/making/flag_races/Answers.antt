-- Each turn adds what is made of the marks of the next race.
use Rattle.std.proofs.Common.{◌≡◌, [], map, arith, ap, sym, ◌∙◌, length}
use Rattle.std.proofs.lemmas.Option.{get_or_from_slice_get}
use Rattle.sg_streams.specs.Numbers.{numbers_below}
use Rattle.sg_tables.proofs.Lists.{map_below-more, map_below-none}
use Rattle.sg_post.specs.inside.Making.{race_flags_by}
use Rattle.sg_post.proofs.making.flag_races.Goals as goal

pub loop-race-init : goal.loop-race-init
loop-race-init c = c.in_ok-flags.ensures ∙ sym (map_below-none (race_flags_by c.args.tables.now.plan c.args.tables.now.seed c.args.marks.now))

pub get-requires : goal.get-requires
get-requires c = omega (arith, c.requires.many, c.loop-race-test.true, c.count_races-count.ensures.races)

pub flag_instances-requires-clause-marks : goal.flag_instances-requires-clause-marks
flag_instances-requires-clause-marks c =
    ap length (sym (get_or_from_slice_get c.args.marks.now c.loop-race.race c.get.result.now [] c.get.ensures.item))
    ∙ c.requires.each c.loop-race.race (omega (arith, c.loop-race-test.true, c.count_races-count.ensures.races))

pub loop-race-preserved : goal.loop-race-preserved
loop-race-preserved c =
    map_below-more (race_flags_by c.args.tables.now.plan c.args.tables.now.seed c.args.marks.now) c.loop-race.race c.loop-race.flags c.push.new.self c.in_ok-flag_instances.field-0 c.loop-race.invariant
    (rw (get_or_from_slice_get c.args.marks.now c.loop-race.race c.get.result.now [] c.get.ensures.item) c.in_ok-flag_instances.ensures) c.in_ok-push.ensures.ok

pub returns : goal.returns
returns c =
    let all : c.loop-race.race ≡ length c.args.tables.now.plan.races = omega (arith, c.loop-race-test.false, c.loop-race.auto.race-end, c.count_races-count.ensures.races) in
    c.loop-race.invariant ∙ ap (λ n. map (race_flags_by c.args.tables.now.plan c.args.tables.now.seed c.args.marks.now) (numbers_below n)) all
