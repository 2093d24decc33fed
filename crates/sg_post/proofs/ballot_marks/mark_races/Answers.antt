-- Each turn adds what is made of the next one.
use Rattle.std.proofs.Common.{◌≡◌, map, arith, ap, sym, ◌∙◌, length, ℕ}
use Rattle.sg_streams.specs.Numbers.{numbers_below}
use Rattle.sg_tables.proofs.Lists.{map_below-more, map_below-none}
use Rattle.sg_plan.specs.Ballots.{entries_of}
use Rattle.sg_post.specs.Marks.{is_entry_marked}
use Rattle.sg_post.proofs.ballot_marks.mark_races.Goals as goal

pub loop-race-init : goal.loop-race-init
loop-race-init c = c.in_ok-marks.ensures ∙ sym (map_below-none (λ (race : ℕ). map (is_entry_marked c.args.tables.now.plan c.args.tables.now.seed c.args.fates.now race) (numbers_below (entries_of c.args.tables.now.plan race))))

pub loop-race-preserved : goal.loop-race-preserved
loop-race-preserved c =
    map_below-more (λ (race : ℕ). map (is_entry_marked c.args.tables.now.plan c.args.tables.now.seed c.args.fates.now race) (numbers_below (entries_of c.args.tables.now.plan race))) c.loop-race.race c.loop-race.marks c.push.new.self c.in_ok-mark_entries.field-0 c.loop-race.invariant c.in_ok-mark_entries.ensures c.in_ok-push.ensures.ok

pub returns : goal.returns
returns c =
    let all : c.loop-race.race ≡ length c.args.tables.now.plan.races = omega (arith, c.loop-race-test.false, c.loop-race.auto.race-end, c.count_races-count.ensures.races) in
    c.loop-race.invariant ∙ ap (λ n. map (λ (race : ℕ). map (is_entry_marked c.args.tables.now.plan c.args.tables.now.seed c.args.fates.now race) (numbers_below (entries_of c.args.tables.now.plan race))) (numbers_below n)) all
