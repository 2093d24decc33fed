-- The connections accepted are those that are finished, and the current one.
use Rattle.std.proofs.Common.{◌≡◌, ◌+◌, ◌∙◌, sym, ap, arith}
use Rattle.sg_links.proofs.KeptLemmas.{accepted-closed, accepted-open}
use Rattle.sg_links.proofs.calls.Calls.accepted.Goals as goal

pub returns-then-self : goal.returns-then-self
returns-then-self c =
    let kept = c.self.inside in
    let all = accepted-open kept.incoming.items kept.finished.items kept.current kept.is_open kept.page.items kept.used kept.port c.if-self.true in
    rw (← c.self.view_is) (omega (arith, c.len.ensures, kept.finished.ok.0, all))

pub returns : goal.returns
returns c =
    let kept = c.self.inside in
    let all = accepted-closed kept.incoming.items kept.finished.items kept.current kept.is_open kept.page.items kept.used kept.port c.if-self.false in
    rw (← c.self.view_is) (c.len-2.ensures ∙ (kept.finished.ok.0 ∙ sym all))
