-- A formed record has few races.
use Rattle.std.proofs.Common.{◌≡◌, length, ap, ◌∙◌, arith}
use Rattle.sg_plan.specs.declared.plan.Plan.{Plan}
use Rattle.sg_record.proofs.Limits.{few_races}
use Rattle.sg_record.proofs.FormedLists.{formed_parts}
use Rattle.sg_record.proofs.posts.count_races.Goals as goal

pub overflow_cast-result : goal.overflow_cast-result
overflow_cast-result g c =
    let posted = g.P.Posts.posted c.args.posted.now in
    let many : c.len.result ≡ length posted.plan.races = c.len.ensures ∙ ap (λ (p : Plan). length p.races) c.plan.ensures in
    omega (arith, many, few_races posted.plan (formed_parts posted c.requires).plan)
