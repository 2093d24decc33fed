use Rattle.std.proofs.Common.{ap, length, ◌∙◌, arith}
use Rattle.sg_plan.proofs.IndexLists.{length-numbers}
use Rattle.sg_plan.proofs.run_numbers.RunNumbers.ballots.Goals as goal

pub overflow_cast-result : goal.overflow_cast-result
overflow_cast-result c =
    omega (arith, c.len.ensures, ap length c.self.view_is, ap length c.requires.numbers, length-numbers 0 c.args.runs.now, c.requires.few)

pub returns : goal.returns
returns c = c.len.ensures ∙ (ap length c.self.view_is ∙ (ap length c.requires.numbers ∙ length-numbers 0 c.args.runs.now))
