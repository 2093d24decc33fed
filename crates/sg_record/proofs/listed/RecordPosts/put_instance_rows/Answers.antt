-- The rows are those of the instance.
use Rattle.std.proofs.Common.{[], length, ap, ◌∙◌, arith}
use Rattle.std.proofs.lemmas.Option.{get_or_from_slice_get}
use Rattle.sg_forms.specs.Said.Said.{Row}
use Rattle.sg_record.proofs.FormedLists.{formed_parts, instance_list, rows_have}
use Rattle.sg_record.proofs.Putting.{indexed-map, puts_same}
use Rattle.sg_record.specs.Tree.{as_line, instance_row_tree}
use Rattle.sg_record.proofs.listed.RecordPosts.put_instance_rows.Goals as goal

pub get-instances-requires : goal.get-instances-requires
get-instances-requires g c =
    let listed = c.args.self.now in
    omega (arith, c.requires.race, (rows_have listed.plan listed.rows (formed_parts listed c.requires.ready).rows).many)

pub get-rows-requires : goal.get-rows-requires
get-rows-requires g c =
    let listed = c.args.self.now in
    let many = (rows_have listed.plan listed.rows (formed_parts listed c.requires.ready).rows).each c.args.race c.requires.race in
    let same = get_or_from_slice_get listed.rows c.args.race c.get-instances.result.now [] c.get-instances.ensures.item in
    omega (arith, c.requires.instance, many, ap length same)

pub returns : goal.returns
returns g c =
    puts_same _ _ _ _ _
    (ap (instance_row_tree as_line c.args.race c.args.instance) (instance_list c.args.self.now.rows c.args.race c.args.instance _ _ c.get-instances.ensures.item c.get-rows.ensures.item) ∙ indexed-map Row 0 c.get-rows.result.now)
    c.put_lines.ensures
