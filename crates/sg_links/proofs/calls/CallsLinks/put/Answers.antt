-- The connection that is current stays so, and is sent a front of the piece.
use Rattle.std.proofs.Common.{rules, ◌∙◌, take, drop, refl, sym, take-append-drop}
use Rattle.sg_links.proofs.KeptLemmas.{stays_current}
use Rattle.sg_links.proofs.calls.CallsLinks.put.Goals as goal

pub send-requires-clause-current : goal.send-requires-clause-current
send-requires-clause-current c = c.count.ensures.opened ∙ c.requires

pub returns-then-fails-clause-err : goal.returns-then-fails-clause-err
returns-then-fails-clause-err c =
    let piece = c.args.bytes.now in
    let count = c.put_count-count.result in
    (take count piece, drop count piece, sym (take-append-drop count piece), rw (c.send.ensures, c.count.ensures.board) refl)

pub returns-then-fails-clause-opened : goal.returns-then-fails-clause-opened
returns-then-fails-clause-opened c =
    rw c.send.ensures (stays_current _ c.count.new.self.board ∙ (c.count.ensures.opened ∙ c.requires))

pub returns-clause-opened : goal.returns-clause-opened
returns-clause-opened c =
    rw c.send.ensures (stays_current _ c.count.new.self.board ∙ (c.count.ensures.opened ∙ c.requires))
