-- The laws of sample runs (this project's sample run).
use Rattle.std.specs.Prelude.{◌≡◌, ℕ, ◌≤◌, true, List, [], ◌∷◌, ◌++◌, length}
use Rattle.sg_outside.specs.TextLines.{lines_of}
use Rattle.sg_forms.specs.Said.Said.{Seal}
use Rattle.sg_forms.specs.Spelling.{spelling}
use Rattle.sg_acts.specs.declared.asks.Ask.{Ask}
use Rattle.sg_keeper.specs.declared.setup.Setup.{Setup}
use Rattle.sg_post.specs.Posted.{seal_3}
use Rattle.sg_histories.specs.Answers.{answer_of, is_done}
use Rattle.sg_histories.specs.HistoryLaws.{history_after}
use Rattle.sg_check.specs.Verdict.{IsVerdict}
use Rattle.sg_check.specs.declared.judged.Judged.TheVariants as judged
use Rattle.sg_accepted.specs.Totals.{told_totals}
use Rattle.sg_sample.specs.SampleRun.{sample_asks, sample_draw, sample_history, sample_plan, sample_record, sample_seed, sample_setup, sample_story}

-- each of these asks, the newest first, is answered that it is done
abbrev pub AreDone : Setup → List Ask → Type 0
AreDone setup [] = Unit {0}
AreDone setup (asked ∷ asks) = (is_done (answer_of setup (history_after setup asks) asked) ≡ true) × AreDone setup asks

-- none of a sample's asks is refused, and each of them is in its history
abbrev pub AsksAreDone : Type 0
AsksAreDone = (number ballots : ℕ) → ballots ≤ 9000
    → AreDone (sample_setup number ballots) (sample_asks number ballots) × (length (sample_history number ballots) ≡ length (sample_asks number ballots))

-- the verdict on a sample's record is yes, with the totals of its story
abbrev pub RecordsAreAccepted : Type 0
RecordsAreAccepted = (number ballots : ℕ) → 1 ≤ ballots → ballots ≤ 9000
    → IsVerdict (lines_of (sample_record number ballots)) (judged.Yes (told_totals (sample_plan ballots) (sample_seed number) (sample_story number ballots).fates))

-- the last line of a sample's record is its third seal
abbrev pub RecordsAreSealed : Type 0
RecordsAreSealed = (number ballots : ℕ) → ballots ≤ 9000
    → (front : List ℕ) × (sample_record number ballots ≡ front ++ spelling 1 (Seal 3 (seal_3 (sample_plan ballots) (sample_seed number) (sample_story number ballots).fates (sample_draw number))))
