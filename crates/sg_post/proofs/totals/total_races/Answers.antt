-- Each turn adds what is made of the next one.
use Rattle.std.proofs.Common.{◌≡◌, map, arith, ap, sym, ◌∙◌, length}
use Rattle.sg_streams.specs.Numbers.{numbers_below}
use Rattle.sg_tables.proofs.Lists.{map_below-more, map_below-none}
use Rattle.sg_post.specs.inside.Making.{race_totals_by}
use Rattle.sg_post.proofs.totals.total_races.Goals as goal

pub loop-race-init : goal.loop-race-init
loop-race-init c = c.in_ok-totals.ensures ∙ sym (map_below-none (race_totals_by c.args.tables.now.plan c.args.places.now))

pub loop-race-preserved : goal.loop-race-preserved
loop-race-preserved c =
    map_below-more (race_totals_by c.args.tables.now.plan c.args.places.now) c.loop-race.race c.loop-race.totals c.push.new.self c.in_ok-total_race.field-0 c.loop-race.invariant c.in_ok-total_race.ensures c.in_ok-push.ensures.ok

pub returns : goal.returns
returns c =
    let all : c.loop-race.race ≡ length c.args.tables.now.plan.races = omega (arith, c.loop-race-test.false, c.loop-race.auto.race-end, c.count_races-count.ensures.races) in
    c.loop-race.invariant ∙ ap (λ n. map (race_totals_by c.args.tables.now.plan c.args.places.now) (numbers_below n)) all
