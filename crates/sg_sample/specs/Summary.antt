-- The summary of a sample run, and how `sample` ends (this project's command line).
use Rattle.std.specs.Io.KnownBytes.{Appends}
use Rattle.std.specs.List.{join_with_byte}
use Rattle.std.specs.Prelude.{◌≡◌, ℕ, Bool, true, false, List, [], ◌∷◌, ◌++◌, length, count_by, codes}
use Rattle.sg_outside.specs.Faults.{Rose}
use Rattle.sg_outside.specs.Streams.{AppendsFront, Seen}
use Rattle.sg_outside.specs.TextLines.{lines_of}
use Rattle.sg_outside.specs.declared.outcome.Outcome.{Outcome}
use Rattle.sg_outside.specs.declared.outcome.Outcome.TheVariants as outcome
use Rattle.sg_plan.specs.declared.plan.Fate.{Fate}
use Rattle.sg_plan.specs.declared.plan.Fate.TheVariants as fate
use Rattle.sg_lines.specs.Words.{decimal, encode_lower}
use Rattle.sg_post.specs.Posted.{seal_3}
use Rattle.sg_post.specs.declared.story.Told.{Told}
use Rattle.sg_check.specs.declared.judged.Total.{Total}
use Rattle.sg_report.specs.Report.{totals_text}
use Rattle.sg_accepted.specs.Totals.{told_totals}
use Rattle.sg_sample.specs.SampleRun.{sample_draw, sample_plan, sample_record, sample_seed, sample_story}
use Rattle.sg_words.specs.declared.sample.Sample.{Sample}

-- WHAT BECAME OF THE BALLOTS

abbrev pub is_cast : Fate → Bool
is_cast (fate.Cast marks) = true
is_cast other = false

abbrev pub is_spoiled : Fate → Bool
is_spoiled fate.Spoiled = true
is_spoiled other = false

abbrev pub is_audited : Fate → Bool
is_audited (fate.Audited paper) = true
is_audited other = false

-- how many ballots have such a fate
abbrev pub count_fates : (Fate → Bool) → List Told → ℕ
count_fates is_such fates = count_by (λ told. is_such told.fate) fates

-- THE SUMMARY

-- words with a space between two of them, and a line feed
abbrev pub line_of_words : List (List ℕ) → List ℕ
line_of_words words = join_with_byte 32 words ++ 10 ∷ []

-- a word and a number
abbrev pub number_line : List ℕ → ℕ → List ℕ
number_line word number = line_of_words (word ∷ decimal number ∷ [])

-- of so many ballots with these fates, of a record with so many lines, these digits on its line `seal 3` and these totals
unfoldable pub summary_of : ℕ → List Told → ℕ → List ℕ → List Total → List ℕ
summary_of ballots fates lines digits totals =
    number_line (codes "ballots") ballots
    ++ number_line (codes "cast") (count_fates is_cast fates)
    ++ number_line (codes "spoiled") (count_fates is_spoiled fates)
    ++ number_line (codes "audited") (count_fates is_audited fates)
    ++ number_line (codes "lines") lines
    ++ line_of_words (codes "seal" ∷ digits ∷ [])
    ++ totals_text totals
    ++ line_of_words (codes "yes" ∷ [])

-- of the run with this number for its seed and so many ballots
abbrev pub summary_text : ℕ → ℕ → List ℕ
summary_text number ballots =
    let fates = (sample_story number ballots).fates in
    summary_of ballots fates
    (length (lines_of (sample_record number ballots)))
    (encode_lower (seal_3 (sample_plan ballots) (sample_seed number) fates (sample_draw number)).0)
    (told_totals (sample_plan ballots) (sample_seed number) fates)

-- HOW IT ENDS

-- the output's count of faults rose, and a front of the summary was written
pub record CutsSummary (asked : Sample) (out out' : Seen) : Type 0 where
  pub cause : Rose out.faults out'.faults
  pub written : AppendsFront out.bytes out'.bytes (summary_text asked.seed asked.ballots)

-- how `sample` ended: the summary of the run was written whole; or a write failed; or memory was wanted, and nothing was
-- written
abbrev pub SampleSays : Sample → Outcome → Seen → Seen → Type 0
SampleSays asked outcome.Done out out' = Appends out.bytes out'.bytes (summary_text asked.seed asked.ballots)
SampleSays asked outcome.WriteFailed out out' = CutsSummary asked out out'
SampleSays asked outcome.NoMemory out out' = out' ≡ out
SampleSays asked _ out out' = ⊥
