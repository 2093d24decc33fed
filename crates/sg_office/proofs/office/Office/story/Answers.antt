use Rattle.std.proofs.Common.{◌≡◌, true, sym, ◌∙◌, subst}
use Rattle.sg_post.specs.Fits.{story_fits}
use Rattle.sg_post.specs.declared.story.Story.{Story}
use Rattle.sg_office.proofs.Told.{story_told}
use Rattle.sg_office.proofs.office.Office.story.Goals as goal

pub returns-clause-story : goal.returns-clause-story
returns-clause-story c = λ history stands. c.in_ok-story.ensures ∙ story_told c.args.self.now history stands

pub returns-clause-fits : goal.returns-clause-fits
returns-clause-fits c =
    subst (λ (s : Story). story_fits c.args.self.now.setup.plan s ≡ true) (sym (c.in_ok-story.ensures ∙ story_told c.args.self.now c.office_law.ensures.history c.office_law.ensures.stands))
    (c.stories_law.ensures c.args.self.now.setup c.office_law.ensures.history c.office_law.ensures.stands.lawful)
