-- Each way is answered by what was said and sent.
use Rattle.sg_http.specs.Leads.Lead.{Posts, Sees}
use Rattle.sg_http.proofs.ServeLemmas.{answered, failed, gone}
use Rattle.sg_http.proofs.serving.respond.Goals as goal

pub returns-in-Gone-clause-responds : goal.returns-in-Gone-clause-responds
returns-in-Gone-clause-responds g c = λ history stands.
    let heard = rw c.in-Gone.is at c.requires.hears in
    gone _ _ _ _ _ _ _ _ _ stands heard.0 heard.1

pub returns-in-Failed-clause-responds : goal.returns-in-Failed-clause-responds
returns-in-Failed-clause-responds g c = λ history stands.
    let heard = rw c.in-Failed.is at c.requires.hears in
    failed _ _ _ _ _ _ _ _ _ stands heard.0 heard.1

pub returns-in-Sees-clause-responds : goal.returns-in-Sees-clause-responds
returns-in-Sees-clause-responds g c = λ history stands.
    let heard = rw c.in-Sees.is at c.requires.hears in
    let sent = rw c.version_of-version.ensures at c.send_said.ensures.sends in
    answered _ _ _ _ _ _ _ _ _ _ _ _ _ (Sees c.in-Sees.look) _ heard (c.see-said.ensures.says history stands) sent

pub returns-in-Posts-clause-responds : goal.returns-in-Posts-clause-responds
returns-in-Posts-clause-responds g c = λ history stands.
    let heard = rw c.in-Posts.is at c.requires.hears in
    let sent = rw c.version_of-version.ensures at c.send_said-in-Posts.ensures.sends in
    answered _ _ _ _ _ _ _ _ _ _ _ _ _ (Posts _) _ heard.2 (c.post-said.ensures.says history stands) sent
