-- The law is proved as a lemma.
use Rattle.sg_histories.proofs.BackAll.{rows_stand}
use Rattle.sg_histories.proofs.PlanRaces.{small_ballots}
use Rattle.sg_histories.proofs.RowTexts.{reads_rows}
use Rattle.sg_histories.proofs.laws.valid_rows_law.Goals as goal

pub returns : goal.returns
returns c = λ setup read reads kept. rows_stand setup read reads (reads_rows setup read reads (small_ballots setup.plan kept))
