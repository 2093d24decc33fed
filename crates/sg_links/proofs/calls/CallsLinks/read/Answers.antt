-- The connection that is current stays so.
use Rattle.std.proofs.Common.{rules, ◌∙◌}
use Rattle.sg_links.proofs.KeptLemmas.{stays_current}
use Rattle.sg_links.proofs.calls.CallsLinks.read.Goals as goal

pub returns-then-fails-clause-opened : goal.returns-then-fails-clause-opened
returns-then-fails-clause-opened c = c.count.ensures.opened ∙ c.requires

pub give-requires : goal.give-requires
give-requires c = c.count.ensures.opened ∙ c.requires

pub returns-clause-opened : goal.returns-clause-opened
returns-clause-opened c =
    rw c.give.ensures.given (stays_current _ c.count.new.self.board ∙ (c.count.ensures.opened ∙ c.requires))
