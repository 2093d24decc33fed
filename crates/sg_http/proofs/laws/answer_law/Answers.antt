use Rattle.std.proofs.Common.{◌++◌}
use Rattle.sg_http.proofs.LawLemmas.{led_by_all, one_answer}
use Rattle.sg_http.proofs.laws.answer_law.Goals as goal

pub returns : goal.returns
returns c = λ taken more is_ended lead all at_end led whole.
    one_answer (taken ++ more) lead all (led_by_all taken more is_ended lead at_end led) whole
