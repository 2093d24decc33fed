-- The race's lists are put back with one more.
use Rattle.std.proofs.Common.{ap, ◌∙◌}
use Rattle.std.specs.Prelude.{slice_set}
use Rattle.sg_parts.proofs.Sheets.{list_put}
use Rattle.sg_parts.proofs.sheet.push_codes.Goals as goal

pub returns : goal.returns
returns c =
    list_put c.args.lists.now c.replace-rows.new.self c.replace.new.self c.args.race c.replace-rows.result c.push.new.self c.args.list c.replace-rows.ensures.old
    (c.replace-rows.ensures.rest ∙ ap (slice_set c.args.lists.now c.args.race) c.new.ensures) c.in_ok-push.ensures.ok c.replace.ensures.rest
