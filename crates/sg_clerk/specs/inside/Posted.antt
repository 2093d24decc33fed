-- What of an office may be posted.
use Rattle.std.specs.Prelude.{◌≡◌, true, List}
use Rattle.sg_histories.specs.Histories.{Entry}
use Rattle.sg_histories.specs.Standing.{StandsFor}
use Rattle.sg_histories.specs.declared.kept.Kept.{Kept}
use Rattle.sg_histories.specs.Stories.{story_of}
use Rattle.sg_post.specs.Fits.{story_fits}
use Rattle.sg_post.specs.declared.story.Story.{Story}

-- the story is what the office tells of each of its histories, and may be posted
pub record IsToldBy (story : Story) (kept : Kept) : Type 0 where
  pub told : (history : List Entry) → StandsFor kept history → story ≡ story_of kept.setup history
  pub fits : story_fits kept.setup.plan story ≡ true
