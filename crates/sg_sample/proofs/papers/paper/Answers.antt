-- One more list of the paper; and all of them are the paper.
use Rattle.std.proofs.Common.{◌≡◌, ◌∷◌, [], ◌++◌, ap, sym, ◌∙◌, take, length, arith, List, ℕ}
use Rattle.std.proofs.lemmas.List.{length-map, take_all}
use Rattle.sg_plan.specs.Ballots.{ballot_row, races_of_ballot}
use Rattle.sg_plan.specs.declared.plan.Plan.{Plan}
use Rattle.sg_tables.specs.Tables.{codes_of_row}
use Rattle.sg_desks.specs.inside.Races.{lists_of}
use Rattle.sg_desks.proofs.PaperLists.{map_take, paper_is}
use Rattle.sg_sample.proofs.papers.paper.Goals as goal

pub loop-at-preserved : goal.loop-at-preserved
loop-at-preserved c =
    let plan = c.args.tables.now.plan in
    let seed = c.args.tables.now.seed in
    let races = c.races-races.result.now in
    c.in_ok-push.ensures.ok
    ∙ (ap (λ (l : List (List ℕ)). l ++ c.in_ok-list.field-0 ∷ []) c.loop-at.invariant
    ∙ (ap (λ (x : List ℕ). take c.loop-at.at (lists_of plan seed c.args.ballot races) ++ x ∷ []) c.in_ok-list.ensures
    ∙ sym (map_take (λ race. codes_of_row plan seed race (ballot_row plan race c.args.ballot)) races c.loop-at.at (omega arith))))

pub returns : goal.returns
returns c =
    let plan = c.args.tables.now.plan in
    let seed = c.args.tables.now.seed in
    let races = c.races-races.result.now in
    let lists = lists_of plan seed c.args.ballot races in
    let many : length lists ≡ length races = length-map races (λ race. codes_of_row plan seed race (ballot_row plan race c.args.ballot)) in
    let whole : races ≡ races_of_ballot plan c.args.ballot = c.races-races.ensures ∙ ap (λ (p : Plan). races_of_ballot p c.args.ballot) c.requires.index in
    c.loop-at.invariant ∙ (take_all c.loop-at.at lists (omega (arith, many)) ∙ (ap (lists_of plan seed c.args.ballot) whole ∙ paper_is plan seed c.args.ballot))
