-- A head is read within its bytes.
use Rattle.sg_http.proofs.HearLemmas.{few_in_head}
use Rattle.sg_http.proofs.hearing.hear.Goals as goal

pub returns-in-Gone-clause-few : goal.returns-in-Gone-clause-few
returns-in-Gone-clause-few g c = few_in_head c.read_start-start.new.buf c.read_start-start.result.end c.read_start-start.ensures.end

pub returns-in-Failed-clause-few : goal.returns-in-Failed-clause-few
returns-in-Failed-clause-few g c = few_in_head c.read_start-start.new.buf c.read_start-start.result.end c.read_start-start.ensures.end

pub returns-in-Refused-clause-few : goal.returns-in-Refused-clause-few
returns-in-Refused-clause-few g c = few_in_head c.read_start-start.new.buf c.read_start-start.result.end c.read_start-start.ensures.end
