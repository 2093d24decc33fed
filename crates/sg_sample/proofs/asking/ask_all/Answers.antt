-- The office goes on from ballot to ballot, and to its end.
use Rattle.std.proofs.Common.{ap, ◌∙◌}
use Rattle.std.proofs.lemmas.Result.{on_ok_weaker}
use Rattle.sg_plan.specs.Limits.{fault_of}
use Rattle.sg_tables.specs.Tables.{MadeFrom}
use Rattle.sg_sample.proofs.asking.ask_all.Goals as goal

pub make-requires : goal.make-requires
make-requires c = ap fault_of c.plan.ensures.plan ∙ c.plan.ensures.limits

pub vote-requires-clause-few : goal.vote-requires-clause-few
vote-requires-clause-few c = c.requires.few

pub vote-requires-clause-index : goal.vote-requires-clause-index
vote-requires-clause-index c = c.in-Ok.ensures ∙ (c.plan.ensures.plan ∙ ap (λ (made : MadeFrom). made.plan) c.tables.ensures)

pub vote-requires-clause-voted : goal.vote-requires-clause-voted
vote-requires-clause-voted c = c.requires.voted

pub end-requires-clause-few : goal.end-requires-clause-few
end-requires-clause-few c = c.requires.few

pub end-requires-clause-setup : goal.end-requires-clause-setup
end-requires-clause-setup c = c.in-Ok-vote.ensures.setup ∙ c.requires.setup

pub end-requires-clause-voted : goal.end-requires-clause-voted
end-requires-clause-voted c = c.in-Ok-vote.ensures.voted

pub returns-clause-setup : goal.returns-clause-setup
returns-clause-setup c = on_ok_weaker c.end.result (λ same. same ∙ c.in-Ok-vote.ensures.setup) c.end.ensures.setup

pub returns-clause-stands : goal.returns-clause-stands
returns-clause-stands c = c.end.ensures.stands
