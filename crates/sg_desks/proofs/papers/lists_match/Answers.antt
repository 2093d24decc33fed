use Rattle.std.proofs.Common.{◌∷◌, [], ◌++◌, ap, sym, ◌∙◌, take, slice_index, arith, List, ℕ}
use Rattle.sg_plan.specs.Ballots.{ballot_row}
use Rattle.sg_tables.specs.Tables.{codes_of_row}
use Rattle.sg_desks.specs.inside.Races.{lists_of}
use Rattle.sg_desks.proofs.PaperLists.{item_same, map_take}
use Rattle.sg_desks.proofs.papers.lists_match.Goals as goal

pub loop-at-preserved : goal.loop-at-preserved
loop-at-preserved c =
    let plan = c.args.tables.now.plan in
    let seed = c.args.tables.now.seed in
    c.get.ensures.front
    ∙ (ap (λ (l : List (List ℕ)). l ++ c.get.result.now ∷ []) c.loop-at.invariant
    ∙ (ap (λ (x : List ℕ). take c.loop-at.at (lists_of plan seed c.args.ballot c.args.races.now) ++ x ∷ [])
    (c.list_matches.ensures.0 c.if-not-list_matches.false ∙ ap (codes_of_row plan seed (slice_index c.args.races.now c.loop-at.at)) c.row_in-row.ensures.value)
    ∙ sym (map_take (λ race. codes_of_row plan seed race (ballot_row plan race c.args.ballot)) c.args.races.now c.loop-at.at (omega arith))))

pub returns-then-not-list_matches : goal.returns-then-not-list_matches
returns-then-not-list_matches c =
    let plan = c.args.tables.now.plan in
    let seed = c.args.tables.now.seed in (
      (λ e. cc),
      λ same. sym c.if-not-list_matches.true
          ∙ c.list_matches.ensures.1
          (item_same (λ race. codes_of_row plan seed race (ballot_row plan race c.args.ballot)) c.args.races.now c.args.paper.now c.loop-at.at c.get.result.now (omega arith) c.get.ensures.item same
          ∙ sym (ap (codes_of_row plan seed (slice_index c.args.races.now c.loop-at.at)) c.row_in-row.ensures.value)),
    )
