-- Which histories are unaltered, and that what is posted of them is accepted (this project's rules for the office).
use Rattle.std.specs.Prelude.{◌≡◌, ◌↔◌, ℕ, true, List, All, None}
use Rattle.sg_plan.specs.Limits.{fault_of}
use Rattle.sg_outside.specs.TextLines.{lines_of}
use Rattle.sg_tables.specs.Tables.{paper_of}
use Rattle.sg_acts.specs.declared.asks.Act.{Act}
use Rattle.sg_acts.specs.declared.asks.Act.TheVariants as act
use Rattle.sg_acts.specs.declared.replies.Body.TheVariants as body
use Rattle.sg_acts.specs.declared.replies.Phase.TheVariants as phase
use Rattle.sg_keeper.specs.declared.setup.Setup.{Setup}
use Rattle.sg_check.specs.Verdict.{IsVerdict}
use Rattle.sg_check.specs.declared.judged.Judged.TheVariants as judged
use Rattle.sg_post.specs.Posted.{posted_text}
use Rattle.sg_accepted.specs.Totals.{told_totals}
use Rattle.sg_accepted.specs.Unaltered.{IsUnaltered}
use Rattle.sg_histories.specs.Answers.{body_of}
use Rattle.sg_histories.specs.Histories.{Entry, phase_of}
use Rattle.sg_histories.specs.Lawful.{Lawful}
use Rattle.sg_histories.specs.Stories.{story_of}

-- a paper that was read is that of its ballot
abbrev pub HasTruePaper : Setup → Act → Type 0
HasTruePaper setup (act.Audit ballot paper) = paper ≡ paper_of setup.plan setup.seed.0 ballot
HasTruePaper setup other = Unit {0}

-- the history is lawful, sides are drawn, and each paper that was read is that of its ballot
pub record IsUnalteredHistory (setup : Setup) (history : List Entry) : Type 0 where
  pub lawful : Lawful setup history
  pub drawn : phase_of history ≡ phase.Drawn
  pub papers : All (λ (entry : Entry). HasTruePaper setup entry.act) history

-- the paper of an audit is that of its ballot exactly where the audit is answered so
abbrev pub TrueAuditsAreTold : Type 0
TrueAuditsAreTold = (setup : Setup) (history : List Entry) (ballot : ℕ) (paper : List (List ℕ))
    → (body_of setup history (act.Audit ballot paper) ≡ body.Audited true) ↔ HasTruePaper setup (act.Audit ballot paper)

-- the story of an unaltered history is that of an unaltered run
abbrev pub UnalteredHistoriesTellSo : Type 0
UnalteredHistoriesTellSo = (setup : Setup) (history : List Entry) → IsUnalteredHistory setup history → IsUnaltered setup.plan setup.seed.0 (story_of setup history)

-- the verdict on what is posted of it is yes, with the totals of its fates
abbrev pub UnalteredHistoriesAreAccepted : Type 0
UnalteredHistoriesAreAccepted = (setup : Setup) (history : List Entry) → fault_of setup.plan ≡ None → IsUnalteredHistory setup history
    → IsVerdict (lines_of (posted_text setup.plan setup.seed.0 (story_of setup history))) (judged.Yes (told_totals setup.plan setup.seed.0 (story_of setup history).fates))
