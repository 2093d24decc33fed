-- The posting is that of the story, and what is written is the record of the run.
use Rattle.std.proofs.Common.{◌≡◌, true, sym, subst, ap, ◌∙◌}
use Rattle.std.proofs.lemmas.Result.{IfOk-weaker}
use Rattle.sg_tables.specs.Tables.{MadeFrom}
use Rattle.sg_keeper.specs.declared.setup.Setup.{Setup}
use Rattle.sg_post.specs.Fits.{story_fits}
use Rattle.sg_post.specs.Posted.{posted_text}
use Rattle.sg_post.specs.Posting.{IsPosting}
use Rattle.sg_post.specs.declared.story.Story.{Story}
use Rattle.sg_histories.specs.Stories.{story_of}
use Rattle.sg_sample.specs.SampleRun.{sample_history}
use Rattle.sg_sample.proofs.Summing.{record_is}
use Rattle.sg_sample.proofs.sampling.posted.Goals as goal

pub record_text-requires-clause-fits : goal.record_text-requires-clause-fits
record_text-requires-clause-fits c = subst (λ (made : MadeFrom). story_fits made.plan c.args.story.now ≡ true) (sym c.tables.ensures) c.requires.fits

pub record_text-requires-clause-posting : goal.record_text-requires-clause-posting
record_text-requires-clause-posting c =
    let setup = c.args.office.now.setup in
    let history = sample_history c.args.sample.seed c.args.sample.ballots in
    let same : story_of setup history ≡ c.args.story.now = ap (λ (s : Setup). story_of s history) c.requires.setup ∙ sym c.requires.story in
    let posting = subst (λ (s : Story). IsPosting setup.plan setup.seed.0 s.fates c.in-Ok.posting) same (c.in-Ok.ensures history c.requires.stands) in
    subst (λ (made : MadeFrom). IsPosting made.plan made.seed c.args.story.now.fates c.in-Ok.posting) (sym c.tables.ensures) posting

pub returns : goal.returns
returns c =
    IfOk-weaker c.record_text.result _ _
    (λ text is.
    record_is c.args.office.now.setup c.args.story.now text c.args.sample.seed c.args.sample.ballots c.requires.setup c.requires.story
    (is ∙ ap (λ (made : MadeFrom). posted_text made.plan made.seed c.args.story.now) c.tables.ensures))
    c.record_text.ensures
