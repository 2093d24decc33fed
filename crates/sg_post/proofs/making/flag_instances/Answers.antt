-- Each turn adds what is made of the next one.
use Rattle.std.proofs.Common.{◌≡◌, map, arith, ap, sym, ◌∙◌}
use Rattle.sg_streams.specs.Numbers.{numbers_below}
use Rattle.sg_tables.proofs.Lists.{map_below-more, map_below-none}
use Rattle.sg_post.specs.inside.Making.{flags_by}
use Rattle.sg_post.proofs.making.flag_instances.Goals as goal

pub loop-instance-init : goal.loop-instance-init
loop-instance-init c = c.in_ok-flags.ensures ∙ sym (map_below-none (flags_by c.args.tables.now.plan c.args.tables.now.seed c.args.race c.args.marks.now))

pub loop-instance-preserved : goal.loop-instance-preserved
loop-instance-preserved c =
    map_below-more (flags_by c.args.tables.now.plan c.args.tables.now.seed c.args.race c.args.marks.now) c.loop-instance.instance c.loop-instance.flags c.push.new.self c.in_ok-flag_rows.field-0 c.loop-instance.invariant c.in_ok-flag_rows.ensures c.in_ok-push.ensures.ok

pub returns : goal.returns
returns c =
    let all : c.loop-instance.instance ≡ c.args.tables.now.plan.instances = omega (arith, c.loop-instance-test.false, c.loop-instance.auto.instance-end, c.count_instances-count.ensures) in
    c.loop-instance.invariant ∙ ap (λ n. map (flags_by c.args.tables.now.plan c.args.tables.now.seed c.args.race c.args.marks.now) (numbers_below n)) all
