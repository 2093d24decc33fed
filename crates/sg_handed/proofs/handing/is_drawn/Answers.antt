-- The office's stage is that of its story.
use Rattle.std.proofs.Common.{sym, ◌∙◌}
use Rattle.sg_handed.proofs.Ends.{stage_told}
use Rattle.sg_handed.proofs.handing.is_drawn.Goals as goal

pub returns : goal.returns
returns c =
    let office = c.office_law.ensures in
    stage_told c.args.office.now office.history c.in_ok-story.story office.stands (c.in_ok-story.ensures.story office.history office.stands) ∙ sym c.is_drawn_stage-drawn.ensures
