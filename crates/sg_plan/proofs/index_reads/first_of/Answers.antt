use Rattle.std.proofs.Common.{List, ℕ, ap, sym, get_or, length, ◌∙◌, arith}
use Rattle.std.proofs.lemmas.Option.{get_or_from_slice_get}
use Rattle.sg_plan.proofs.IndexLists.{first-at, length-firsts}
use Rattle.sg_plan.proofs.index_reads.first_of.Goals as goal

pub get-requires : goal.get-requires
get-requires c = omega (arith, ap length c.requires.firsts, length-firsts c.args.plan.now (length c.args.plan.now.races), c.requires.race)

pub returns : goal.returns
returns c =
    let races = length c.args.plan.now.races in
    sym (get_or_from_slice_get c.args.firsts.now c.args.race c.get.result.now 0 c.get.ensures.item)
    ∙ (ap (λ (l : List ℕ). get_or l c.args.race 0) c.requires.firsts ∙ first-at c.args.plan.now races c.args.race c.requires.race)
