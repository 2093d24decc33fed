use Rattle.std.proofs.Common.{◌≡◌, drop}
use Rattle.sg_histories.specs.Answers.{fits_races}
use Rattle.sg_office.proofs.papers.fits_races.Given as goal

abbrev pub invariant-loop-at : goal.invariant-loop-at
invariant-loop-at l = fits_races l.plan (drop l.at l.races) (drop l.at l.paper) ≡ fits_races l.plan l.races l.paper
