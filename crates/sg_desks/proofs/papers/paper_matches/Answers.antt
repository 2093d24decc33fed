use Rattle.std.proofs.Common.{◌≡◌, ap, subst, ◌∙◌, List, ℕ}
use Rattle.std.specs.Prelude.{IsTrue}
use Rattle.sg_plan.specs.Ballots.{races_of_ballot}
use Rattle.sg_plan.specs.declared.plan.Plan.{Plan}
use Rattle.sg_tables.specs.Tables.{paper_of}
use Rattle.sg_desks.specs.inside.Races.{lists_of}
use Rattle.sg_desks.proofs.PaperLists.{paper_is, same_test}
use Rattle.sg_desks.proofs.papers.paper_matches.Goals as goal

pub returns-clause-exact : goal.returns-clause-exact
returns-clause-exact c =
    let plan = c.args.tables.now.plan in
    let seed = c.args.tables.now.seed in
    let races : c.races_in.result.now ≡ races_of_ballot plan c.args.ballot = c.races_in.ensures.races ∙ ap (λ (p : Plan). races_of_ballot p c.args.ballot) c.requires in
    let same : lists_of plan seed c.args.ballot c.races_in.result.now ≡ paper_of plan seed c.args.ballot = ap (lists_of plan seed c.args.ballot) races ∙ paper_is plan seed c.args.ballot in
    subst (λ (p : List (List ℕ)). (IsTrue c.lists_match.result → c.args.paper.now ≡ p) × (c.args.paper.now ≡ p → IsTrue c.lists_match.result)) same c.lists_match.ensures

pub returns-clause-same : goal.returns-clause-same
returns-clause-same c = same_test c.args.paper.now (paper_of c.args.tables.now.plan c.args.tables.now.seed c.args.ballot) c.lists_match.result (returns-clause-exact c)
