use Rattle.std.proofs.Common.{sym, ap, ◌∙◌}
use Rattle.serde_json.specs.Read.{read}
use Rattle.sg_asks.proofs.Utf8.{json-other, json-utf8}
use Rattle.sg_asks.proofs.reading.value_of.Goals as goal

pub returns-in_default : goal.returns-in_default
returns-in_default c = json-other c.args.bytes.now c.in_default.ensures.cases.0

pub returns-in-Ok-from_str : goal.returns-in-Ok-from_str
returns-in-Ok-from_str c =
    sym c.in-Ok-from_str.ensures.ok ∙ (ap read c.in-Ok.ensures.cases.0 ∙ sym (json-utf8 c.args.bytes.now c.in-Ok.ensures.cases.1))
