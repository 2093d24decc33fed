-- The status where the words are no report's.
use Rattle.std.proofs.Common.{refl}
use Rattle.sg_reports.proofs.program.run_reports.Goals as goal

pub returns-in-None-clause-refused : goal.returns-in-None-clause-refused
returns-in-None-clause-refused g c = λ none. refl
