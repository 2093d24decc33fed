-- The story is that of the run, and so is its record.
use Rattle.std.proofs.Common.{ap, ◌∙◌}
use Rattle.sg_keeper.specs.declared.setup.Setup.{Setup}
use Rattle.sg_post.specs.declared.story.Story.{Story}
use Rattle.sg_histories.specs.Stories.{story_of}
use Rattle.sg_sample.specs.SampleRun.{sample_history}
use Rattle.sg_sample.proofs.sampling.summary.Goals as goal

pub posted-requires-clause-setup : goal.posted-requires-clause-setup
posted-requires-clause-setup c = c.requires.setup

pub posted-requires-clause-stands : goal.posted-requires-clause-stands
posted-requires-clause-stands c = c.requires.stands

pub posted-requires-clause-fits : goal.posted-requires-clause-fits
posted-requires-clause-fits c = c.in-Ok.ensures.fits

pub posted-requires-clause-story : goal.posted-requires-clause-story
posted-requires-clause-story c =
    let history = sample_history c.args.sample.seed c.args.sample.ballots in
    c.in-Ok.ensures.story history c.requires.stands ∙ ap (λ (s : Setup). story_of s history) c.requires.setup

pub told-requires-clause-some : goal.told-requires-clause-some
told-requires-clause-some c = c.requires.some

pub told-requires-clause-few : goal.told-requires-clause-few
told-requires-clause-few c = c.requires.few

pub told-requires-clause-fates : goal.told-requires-clause-fates
told-requires-clause-fates c =
    let history = sample_history c.args.sample.seed c.args.sample.ballots in
    c.as_slice.ensures ∙ ap (λ (s : Story). s.fates) (c.in-Ok.ensures.story history c.requires.stands ∙ ap (λ (s : Setup). story_of s history) c.requires.setup)

pub told-requires-clause-text : goal.told-requires-clause-text
told-requires-clause-text c = c.bytes.ensures ∙ c.in-Ok-posted.ensures

pub returns : goal.returns
returns c = c.told.ensures
