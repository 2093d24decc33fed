-- The law is proved as a lemma.
use Rattle.sg_histories.proofs.Out.{rows_valid}
use Rattle.sg_histories.proofs.PlanRaces.{has_races, small_ballots}
use Rattle.sg_histories.proofs.laws.histories_law.Goals as goal

pub returns : goal.returns
returns c = λ setup read reads kept. rows_valid setup read reads (has_races setup.plan kept) (small_ballots setup.plan kept)
