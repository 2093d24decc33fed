-- The items walked over pass, and the rest decide.
use Rattle.std.proofs.Common.{◌≡◌, ◌≤◌, drop, length}
use Rattle.sg_plan.specs.Fates.{paper_fits}
use Rattle.sg_record.proofs.formed.are_papers.Given as goal

abbrev pub invariant-loop-at : goal.invariant-loop-at
invariant-loop-at l = record {
  within : l.at ≤ length l.races;
  rest : paper_fits l.plan (drop l.at l.races) (drop l.at l.papers) ≡ paper_fits l.plan l.races l.papers;
}
