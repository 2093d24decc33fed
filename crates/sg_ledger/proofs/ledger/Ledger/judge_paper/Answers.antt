use Rattle.std.proofs.Common.{ℕ, List, sym, ap, ◌∙◌}
use Rattle.sg_check.specs.Kinds.{has_repeat}
use Rattle.sg_ledger.proofs.ShownJudged.{first_same}
use Rattle.sg_ledger.proofs.ledger.Ledger.judge_paper.Goals as goal

pub returns : goal.returns
returns c = λ lines tells.
    let list = first_same c.args.codes.now c.args.count c.candidates-candidates.result (c.requires.placed.4 ∙ sym c.candidates-candidates.ensures) in
    let rule = c.has_repeat.ensures ∙ ap (λ (l : List ℕ). has_repeat l) list in
    rw rule at c.kind_of_rule.ensures
