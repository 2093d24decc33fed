-- The generator's word is the one at its place, under the key of its seed.
use Rattle.std.proofs.Common.{ap}
use Rattle.sg_streams.specs.Streams.{word_of}
use Rattle.sg_streams.proofs.reading.Words.next.Goals as goal

pub returns-clause-word : goal.returns-clause-word
unfolding word_of
returns-clause-word c = rw (← c.self.view_is) (rw (← c.self.invariant) (ap (λ p. p.0) c.next_word.ensures))
