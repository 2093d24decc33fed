use Rattle.std.proofs.Common.{◌≡◌, ap, sym, subst}
use Rattle.sg_acts.specs.declared.asks.Act.{Act}
use Rattle.sg_acts.specs.declared.replies.Body.TheVariants as body
use Rattle.sg_histories.specs.Answers.{body_with}
use Rattle.sg_office.specs.inside.Now.{fate_at}
use Rattle.sg_office.proofs.office.Office.body.Goals as goal

pub returns-in-Claim : goal.returns-in-Claim
returns-in-Claim c =
    subst (λ (a : Act). body.Claimed c.claimed-word.result ≡ body_with c.args.self.now.setup (fate_at c.args.self.now.slots) a) (sym c.in-Claim.is) (ap (λ w. body.Claimed w) c.claimed-word.ensures)
