use Rattle.std.proofs.Common.{◌≡◌, ◌-◌, List, ℕ, ap, sym, get_or, length, ◌∙◌, arith}
use Rattle.std.proofs.lemmas.Option.{get_or_from_slice_get}
use Rattle.sg_plan.proofs.IndexLists.{finds_run, length-numbers}
use Rattle.sg_plan.proofs.run_numbers.RunNumbers.number_of.Goals as goal

pub get-requires : goal.get-requires
get-requires c = omega (arith, ap length c.self.view_is, ap length c.requires.numbers, length-numbers 0 c.args.runs.now, c.requires.first, c.requires.last)

pub returns : goal.returns
returns c =
    let place = c.args.ballot - 1 in
    let found = finds_run c.args.runs.now 0 place (omega (arith, c.requires.first, c.requires.last)) in
    let number : c.from.result ≡ found.number
    = c.from.ensures
    ∙ (sym (get_or_from_slice_get c.self.inside.numbers place c.get.result.now 0 c.get.ensures.item)
    ∙ (ap (λ (l : List ℕ). get_or l place 0) (c.self.view_is ∙ c.requires.numbers) ∙ (found.is ∙ omega arith))) in
    rw number found.in_run
