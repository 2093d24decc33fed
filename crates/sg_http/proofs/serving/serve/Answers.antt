-- What was heard is answered, and the connection is finished.
use Rattle.sg_http.proofs.ServeLemmas.{serves}
use Rattle.sg_http.proofs.serving.serve.Goals as goal

pub returns-clause-serves : goal.returns-clause-serves
returns-clause-serves g c = λ history stands.
    serves _ _ _ _ _ _ _ _ _ _ _ _ _ _ _ c.hear-heard.ensures.taken c.hear-heard.ensures.few (c.respond-served.ensures.responds history stands) c.finish.ensures.board
