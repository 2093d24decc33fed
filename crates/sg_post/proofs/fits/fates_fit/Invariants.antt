use Rattle.std.proofs.Common.{◌≡◌, drop}
use Rattle.sg_post.specs.Fits.{fates_fit}
use Rattle.sg_post.proofs.fits.fates_fit.Given as goal

abbrev pub invariant-loop-at : goal.invariant-loop-at
invariant-loop-at l = fates_fit l.index l.last (drop l.at l.fates) ≡ fates_fit l.index 0 l.fates
