-- Each turn adds the next race, where it is void.
use Rattle.std.proofs.Common.{◌≡◌, length, arith, ap, sym, ◌∙◌}
use Rattle.std.specs.List.{filter}
use Rattle.sg_plan.specs.declared.plan.Plan.{Plan}
use Rattle.sg_plan.proofs.PlanLaws.{bounds}
use Rattle.sg_streams.specs.Numbers.{numbers_below}
use Rattle.sg_tables.specs.Posts.{is_void}
use Rattle.sg_tables.proofs.Filtered.{filtered-more, filtered-none, filtered-same}
use Rattle.sg_tables.proofs.table_set.Tables.void_races.Goals as goal

pub loop-race-init : goal.loop-race-init
loop-race-init c = c.new-races.ensures ∙ sym (filtered-none (is_void c.args.self.now.plan c.args.fate.now))

pub overflow_cast-count : goal.overflow_cast-count
overflow_cast-count c =
    let many : c.len-count.result ≡ length c.args.self.now.plan.races = c.len-count.ensures ∙ ap (λ (p : Plan). length p.races) c.plan.ensures.plan in
    omega (arith, (bounds c.args.self.now.plan c.plan.ensures.limits).few_races, many)

pub loop-race-preserved-then-not-is_void : goal.loop-race-preserved-then-not-is_void
loop-race-preserved-then-not-is_void c =
    filtered-same (is_void c.args.self.now.plan c.args.fate.now) c.loop-race.race c.loop-race.races
    (sym c.is_void.ensures ∙ c.if-not-is_void.true) c.loop-race.invariant

pub loop-race-preserved : goal.loop-race-preserved
loop-race-preserved c =
    filtered-more (is_void c.args.self.now.plan c.args.fate.now) c.loop-race.race c.loop-race.races c.push.new.self
    (sym c.is_void.ensures ∙ c.if-not-is_void.false) c.loop-race.invariant c.in_ok-push.ensures.ok

pub returns : goal.returns
returns c =
    let many : c.len-count.result ≡ length c.args.self.now.plan.races = c.len-count.ensures ∙ ap (λ (p : Plan). length p.races) c.plan.ensures.plan in
    let all : c.loop-race.race ≡ length c.args.self.now.plan.races = omega (arith, c.loop-race-test.false, c.loop-race.auto.race-end, many) in
    c.loop-race.invariant ∙ ap (λ n. filter (is_void c.args.self.now.plan c.args.fate.now) (numbers_below n)) all
