-- What is left to show of `before_feed`.
use Rattle.std.proofs.Common.{◌∷◌, []}
use Rattle.std.proofs.lemmas.Bool.Decides.{Decides-eqb}
use Rattle.std.proofs.lemmas.Slice.Eq.{strip_suffix_is}
use Rattle.sg_keeper.proofs.setup_reading.before_feed.Goals as goal

pub returns : goal.returns
returns c = strip_suffix_is Decides-eqb c.args.text.now (10 ∷ []) c.strip_suffix.result (rw c.as_slice.ensures at c.strip_suffix.ensures.cases)
