-- A connection is current only where one was accepted.
use Rattle.std.proofs.Common.{◌∙◌}
use Rattle.sg_links.proofs.calls.CallsLinks.accept.Goals as goal

pub returns-then-fails-clause-opened : goal.returns-then-fails-clause-opened
returns-then-fails-clause-opened c = c.count.ensures.opened ∙ c.requires

pub take_next-requires-clause-closed : goal.take_next-requires-clause-closed
take_next-requires-clause-closed c = c.count.ensures.opened ∙ c.requires
