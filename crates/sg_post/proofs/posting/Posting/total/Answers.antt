-- The item at these numbers is the value of these numbers.
use Rattle.std.proofs.Common.{length, map}
use Rattle.sg_plan.specs.Ballots.{candidates_of}
use Rattle.sg_streams.specs.Numbers.{numbers_below}
use Rattle.sg_post.specs.Marks.{total_of}
use Rattle.sg_post.proofs.Kept.{item-in}
use Rattle.sg_post.proofs.posting.Posting.total.Goals as goal

pub returns : goal.returns
returns c plan seed fates is =
    item-in c.get.result.now (total_of plan seed fates c.args.race) (candidates_of plan c.args.race) c.args.candidate c.get-2.result.now
    (item-in c.args.self.now.totals (λ race. map (total_of plan seed fates race) (numbers_below (candidates_of plan race))) (length plan.races) c.args.race c.get.result.now is.totals c.get.ensures.item)
    c.get-2.ensures.item
