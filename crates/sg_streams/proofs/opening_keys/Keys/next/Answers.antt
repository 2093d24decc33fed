-- Four times the item is the place of its first word.
use Rattle.std.proofs.Common.{rules}
use Rattle.sg_streams.specs.OpeningKeys.{item_key}
use Rattle.sg_streams.proofs.opening_keys.Keys.next.Goals as goal

pub returns-clause-key : goal.returns-clause-key
unfolding item_key
returns-clause-key c = rw (← c.self.view_is) (rw (← c.self.invariant) (search rules))
