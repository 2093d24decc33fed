-- The instances follow one another.
use Rattle.std.proofs.Common.{[], get_or, arith}
use Rattle.std.proofs.lemmas.List.{drop_more}
use Rattle.sg_record.proofs.FormedLists.{formed_parts, rows_have}
use Rattle.sg_record.proofs.Putting.{left_all, list_end, list_fault, list_next}
use Rattle.sg_record.specs.Tree.{as_line, instance_row_tree}
use Rattle.sg_record.proofs.openings.put_race_rows.Goals as goal

pub loop-instance-init : goal.loop-instance-init
loop-instance-init g c = left_all _ _

pub returns-in_err-put_instance_rows : goal.returns-in_err-put_instance_rows
returns-in_err-put_instance_rows g c =
    let posted = g.P.Posts.posted c.args.posted.now in
    let many = (rows_have posted.plan posted.rows (formed_parts posted c.requires.formed).rows).each c.args.race c.requires.race in
    list_fault _ _ _ _ _ (instance_row_tree as_line c.args.race) (get_or posted.rows c.args.race []) c.loop-instance.instance _ c.loop-instance.invariant (drop_more (get_or posted.rows c.args.race []) c.loop-instance.instance [] (omega (arith, many, c.count_instances-instance-end.ensures))) c.from_residual.ensures.0 c.in_err-put_instance_rows.ensures

pub loop-instance-preserved : goal.loop-instance-preserved
loop-instance-preserved g c =
    let posted = g.P.Posts.posted c.args.posted.now in
    let many = (rows_have posted.plan posted.rows (formed_parts posted c.requires.formed).rows).each c.args.race c.requires.race in
    list_next _ _ _ _ (instance_row_tree as_line c.args.race) (get_or posted.rows c.args.race []) c.loop-instance.instance _ c.loop-instance.invariant (drop_more (get_or posted.rows c.args.race []) c.loop-instance.instance [] (omega (arith, many, c.count_instances-instance-end.ensures))) c.in_ok-put_instance_rows.ensures

pub returns : goal.returns
returns g c =
    let posted = g.P.Posts.posted c.args.posted.now in
    let many = (rows_have posted.plan posted.rows (formed_parts posted c.requires.formed).rows).each c.args.race c.requires.race in
    list_end _ _ _ (instance_row_tree as_line c.args.race) (get_or posted.rows c.args.race []) c.loop-instance.instance c.loop-instance.invariant (omega (arith, many, c.count_instances-instance-end.ensures))
