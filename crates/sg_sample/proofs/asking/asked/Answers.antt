-- The office stands for the whole history.
use Rattle.std.proofs.Common.{◌∙◌}
use Rattle.sg_sample.proofs.asking.asked.Goals as goal

pub ask_all-requires-clause-few : goal.ask_all-requires-clause-few
ask_all-requires-clause-few c = c.requires.few

pub ask_all-requires-clause-setup : goal.ask_all-requires-clause-setup
ask_all-requires-clause-setup c = c.requires.setup

pub ask_all-requires-clause-voted : goal.ask_all-requires-clause-voted
ask_all-requires-clause-voted c = c.requires.voted

pub returns-in-Ok-clause-setup : goal.returns-in-Ok-clause-setup
returns-in-Ok-clause-setup c = c.in-Ok.ensures.setup ∙ c.requires.setup

pub returns-in-Ok-clause-stands : goal.returns-in-Ok-clause-stands
returns-in-Ok-clause-stands c = c.in-Ok.ensures.stands
