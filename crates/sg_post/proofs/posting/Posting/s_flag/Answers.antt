-- The item at these numbers is the value of these numbers.
use Rattle.std.proofs.Common.{length, map}
use Rattle.sg_plan.specs.Ballots.{entries_of}
use Rattle.sg_streams.specs.Numbers.{numbers_below}
use Rattle.sg_post.specs.Marks.{is_place_set}
use Rattle.sg_post.proofs.Kept.{item-in}
use Rattle.sg_post.proofs.posting.Posting.s_flag.Goals as goal

pub returns : goal.returns
returns c plan seed fates is =
    item-in c.get.result.now (is_place_set plan seed fates c.args.race) (entries_of plan c.args.race) c.args.place c.get-2.result.now
    (item-in c.args.self.now.places (λ race. map (is_place_set plan seed fates race) (numbers_below (entries_of plan race))) (length plan.races) c.args.race c.get.result.now is.places c.get.ensures.item)
    c.get-2.ensures.item
