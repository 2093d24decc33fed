-- The candidates follow one another.
use Rattle.std.proofs.Common.{arith}
use Rattle.sg_record.proofs.Putting.{list_end, list_fault, list_next}
use Rattle.sg_record.specs.Tree.{as_line, total_leaf}
use Rattle.sg_record.proofs.results.put_totals.Goals as goal

pub returns-in_err-put_total : goal.returns-in_err-put_total
returns-in_err-put_total g c =
    list_fault _ _ _ _ _ (total_leaf as_line c.args.race) c.args.totals.now c.loop-candidate.candidate c.get-count.result.now c.loop-candidate.invariant c.get-count.ensures.rest c.from_residual.ensures.0 c.in_err-put_total.ensures

pub loop-candidate-preserved : goal.loop-candidate-preserved
loop-candidate-preserved g c =
    list_next _ _ _ _ (total_leaf as_line c.args.race) c.args.totals.now c.loop-candidate.candidate c.get-count.result.now c.loop-candidate.invariant c.get-count.ensures.rest c.in_ok-put_total.ensures

pub returns : goal.returns
returns g c = list_end _ _ _ (total_leaf as_line c.args.race) c.args.totals.now c.loop-candidate.candidate c.loop-candidate.invariant (omega arith)
