-- The ballot is one of the plan, and its row one of the race's.
use Rattle.std.proofs.Common.{◌<◌, length, subst, sym, ap, ◌∙◌}
use Rattle.sg_plan.proofs.PlanLaws.{ballot_has-true, rows_are_one}
use Rattle.sg_plan.specs.Ballots.{ballot_row, rows_of}
use Rattle.sg_plan.specs.declared.plan.Plan.{Plan}
use Rattle.sg_post.proofs.Claims.{has-within}
use Rattle.sg_clerk.proofs.printing.row_in.Goals as goal

pub row-requires-clause-race : goal.row-requires-clause-race
row-requires-clause-race c =
    subst (λ (p : Plan). c.args.race < length p.races) (sym c.requires.index)
    (has-within c.args.tables.now.plan c.args.ballot c.args.race c.version_of.ensures.limits c.requires.has)

pub row-requires-clause-first : goal.row-requires-clause-first
row-requires-clause-first c = (ballot_has-true c.args.tables.now.plan c.args.ballot c.args.race c.requires.has).first

pub row-requires-clause-last : goal.row-requires-clause-last
row-requires-clause-last c = rw c.requires.index (ballot_has-true c.args.tables.now.plan c.args.ballot c.args.race c.requires.has).last

pub returns-clause-value : goal.returns-clause-value
returns-clause-value c = c.row.ensures ∙ ap (λ (p : Plan). ballot_row p c.args.race c.args.ballot) c.requires.index

pub returns-clause-bound : goal.returns-clause-bound
returns-clause-bound c =
    subst (λ n. n < rows_of c.args.tables.now.plan c.args.race) (sym (returns-clause-value c))
    ((rows_are_one c.args.tables.now.plan c.args.race).below c.args.ballot c.requires.has)

pub returns-clause-race : goal.returns-clause-race
returns-clause-race c = has-within c.args.tables.now.plan c.args.ballot c.args.race c.version_of.ensures.limits c.requires.has
