-- The parts follow one another, and the seal stands behind them.
use Rattle.std.proofs.Common.{◌∷◌, [], ◌++◌}
use Rattle.sg_record.proofs.FormedLists.{formed_parts}
use Rattle.sg_record.proofs.Putting.{puts_stop, puts_then, seals_after}
use Rattle.sg_record.specs.Lines.{second_lines}
use Rattle.sg_record.specs.Tree.{as_line, draw_leaf, indexed, race_row_tree, seal_tree}
use Rattle.sg_record.proofs.openings.put_openings.Goals as goal

pub put_draw-requires : goal.put_draw-requires
put_draw-requires g c = record { draw = rw c.draw.ensures (formed_parts (g.P.Posts.posted c.args.posted.now) c.requires.formed).draw }

pub put_seal-requires-clause-seal : goal.put_seal-requires-clause-seal
put_seal-requires-clause-seal g c =
    let posted = g.P.Posts.posted c.args.posted.now in
    let rows = indexed (race_row_tree as_line) 0 posted.rows in
    let parts = puts_then _ _ _ _ _ (draw_leaf as_line posted.draw ∷ []) rows (rw c.draw.ensures at c.in_ok-put_draw.ensures) c.in_ok-put_rows.ensures in
    seals_after g.P.Posts.wants_seal _ _ _ posted.plan.version (second_lines posted) (draw_leaf as_line posted.draw ∷ rows) c.requires.version c.requires.seal parts

pub returns-in_err-put_draw : goal.returns-in_err-put_draw
returns-in_err-put_draw g c =
    let posted = g.P.Posts.posted c.args.posted.now in
    puts_stop _ _ _ _ (draw_leaf as_line posted.draw ∷ []) (indexed (race_row_tree as_line) 0 posted.rows ++ seal_tree as_line 3 posted.seals) c.from_residual.ensures.0 (rw c.draw.ensures at c.in_err-put_draw.ensures)

pub returns-in_err-put_rows : goal.returns-in_err-put_rows
returns-in_err-put_rows g c =
    let posted = g.P.Posts.posted c.args.posted.now in
    let rows = indexed (race_row_tree as_line) 0 posted.rows in
    puts_then _ _ _ _ _ (draw_leaf as_line posted.draw ∷ []) (rows ++ seal_tree as_line 3 posted.seals) (rw c.draw.ensures at c.in_ok-put_draw.ensures)
    (puts_stop _ _ _ _ rows (seal_tree as_line 3 posted.seals) c.from_residual-in_err-put_rows.ensures.0 c.in_err-put_rows.ensures)

pub returns : goal.returns
returns g c =
    let posted = g.P.Posts.posted c.args.posted.now in
    let rows = indexed (race_row_tree as_line) 0 posted.rows in
    puts_then _ _ _ _ _ (draw_leaf as_line posted.draw ∷ []) (rows ++ seal_tree as_line 3 posted.seals) (rw c.draw.ensures at c.in_ok-put_draw.ensures)
    (puts_then _ _ _ _ _ rows (seal_tree as_line 3 posted.seals) c.in_ok-put_rows.ensures c.put_seal.ensures)
