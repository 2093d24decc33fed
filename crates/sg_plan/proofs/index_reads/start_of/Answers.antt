use Rattle.std.proofs.Common.{List, ℕ, ap, sym, get_or, length, true, ◌∙◌, arith}
use Rattle.std.proofs.lemmas.Option.{get_or_from_slice_get}
use Rattle.sg_plan.proofs.IndexLists.{length-counts, start-at}
use Rattle.sg_plan.proofs.index_reads.start_of.Goals as goal

pub get-requires : goal.get-requires
get-requires c = omega (arith, ap length c.requires.starts, length-counts (λ style. true) 0 c.args.runs.now, c.requires.number)

pub returns : goal.returns
returns c =
    c.from.ensures
    ∙ (sym (get_or_from_slice_get c.args.starts.now c.args.number c.get.result.now 0 c.get.ensures.item)
    ∙ (ap (λ (l : List ℕ). get_or l c.args.number 0) c.requires.starts ∙ start-at c.args.runs.now c.args.number c.requires.number))
