-- Both lists end together.
use Rattle.std.proofs.Common.{◌∙◌, sym, ap, ◌==◌, length, arith}
use Rattle.sg_plan.proofs.FateLists.{paper_done, paper_over}
use Rattle.sg_record.proofs.formed.are_papers.Goals as goal

pub returns-then-at-races : goal.returns-then-at-races
returns-then-at-races c =
    sym (paper_over c.args.plan.now c.args.races.now c.args.papers.now c.loop-at.at c.if-at-races.true (omega arith)) ∙ c.loop-at.invariant.rest

pub returns : goal.returns
returns c =
    ap (λ n. n == length c.args.races.now) (omega arith)
    ∙ sym (paper_done c.args.plan.now c.args.races.now c.args.papers.now c.loop-at.at (omega arith) c.loop-at.invariant.within) ∙ c.loop-at.invariant.rest
