-- Each connection that is finished is kept.
use Rattle.std.proofs.Common.{sym, ap, ◌∙◌}
use Rattle.std.specs.Prelude.{nat_le}
use Rattle.sg_links.proofs.KeptLemmas.{length-conns}
use Rattle.sg_links.proofs.calls.Calls.is_full.Goals as goal

pub returns : goal.returns
returns c =
    let kept = c.self.inside in
    rw (← c.self.view_is) (ap (λ n. nat_le kept.most n) (c.len.ensures ∙ kept.finished.ok.0) ∙ ap (λ n. nat_le kept.most n) (sym (length-conns kept.page.items kept.incoming.items 0 kept.finished.items)))
