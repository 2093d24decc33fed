-- The summary is that of the run.
use Rattle.std.proofs.Common.{◌≡◌, ℕ, ◌≤◌, List, length, sym, subst, ap, ◌∙◌}
use Rattle.sg_outside.specs.TextLines.{lines_of}
use Rattle.sg_commit.specs.declared.Digest.{Digest}
use Rattle.sg_lines.specs.Words.{encode_lower}
use Rattle.sg_check.proofs.Verdicts.{one_verdict}
use Rattle.sg_check.specs.Verdict.{IsVerdict}
use Rattle.sg_check.specs.declared.judged.Judged.TheVariants as judged
use Rattle.sg_check.specs.declared.judged.Total.{Total}
use Rattle.sg_post.specs.Posted.{posted_text, seal_3}
use Rattle.sg_post.specs.declared.story.Story.{Story}
use Rattle.sg_post.specs.declared.story.Told.{Told}
use Rattle.sg_keeper.specs.declared.setup.Setup.{Setup}
use Rattle.sg_accepted.specs.Totals.{told_totals}
use Rattle.sg_sample.specs.SampleRun.{sample_draw, sample_plan, sample_record, sample_seed, sample_setup, sample_story}
use Rattle.sg_sample.specs.Summary.{summary_of, summary_text}
use Rattle.sg_sample.specs.inside.Judging.{HasTotals}
use Rattle.sg_sample.specs.inside.Sealed.{EndsWith}
use Rattle.sg_sample.proofs.SampleRuns.{record_ends, sample_accepted}

-- the digest on the line `seal 3`
abbrev pub seal_of : ℕ → ℕ → Digest
seal_of number ballots = seal_3 (sample_plan ballots) (sample_seed number) (sample_story number ballots).fates (sample_draw number)

-- the record that was written
pub record_is : (setup : Setup) (story : Story) (text : List ℕ) (number ballots : ℕ) → setup ≡ sample_setup number ballots → story ≡ sample_story number ballots
    → text ≡ posted_text setup.plan setup.seed.0 story → text ≡ sample_record number ballots
record_is setup story text number ballots setup_is story_is is =
    is ∙ (ap (λ (s : Setup). posted_text s.plan s.seed.0 story) setup_is ∙ ap (posted_text (sample_plan ballots) (sample_seed number)) story_is)

pub has_totals : (text : List ℕ) (number ballots : ℕ) → 1 ≤ ballots → ballots ≤ 9000 → text ≡ sample_record number ballots → HasTotals text
has_totals text number ballots some few is =
    subst HasTotals (sym is) (told_totals (sample_plan ballots) (sample_seed number) (sample_story number ballots).fates, sample_accepted number ballots some few)

pub ends_so : (text : List ℕ) (number ballots : ℕ) → ballots ≤ 9000 → text ≡ sample_record number ballots → EndsWith text (seal_of number ballots)
ends_so text number ballots few is = subst (λ (t : List ℕ). EndsWith t (seal_of number ballots)) (sym is) (record_ends number ballots few)

totals_are : (number ballots : ℕ) (totals : List Total) → 1 ≤ ballots → ballots ≤ 9000 → IsVerdict (lines_of (sample_record number ballots)) (judged.Yes totals)
    → totals ≡ told_totals (sample_plan ballots) (sample_seed number) (sample_story number ballots).fates
totals_are number ballots totals some few verdict = same _ _ (one_verdict _ _ _ verdict (sample_accepted number ballots some few))
  where
    same : (a b : List Total) → judged.Yes a ≡ judged.Yes b → a ≡ b
    same a b e = cc

pub summary_is : (text posted : List ℕ) (number ballots lines : ℕ) (digits : List ℕ) (fates : List Told) (totals : List Total) → 1 ≤ ballots → ballots ≤ 9000
    → fates ≡ (sample_story number ballots).fates → posted ≡ sample_record number ballots → lines ≡ length (lines_of posted) → IsVerdict (lines_of posted) (judged.Yes totals)
    → digits ≡ encode_lower (seal_of number ballots).0 → text ≡ summary_of ballots fates lines digits totals → text ≡ summary_text number ballots
summary_is text posted number ballots lines digits fates totals some few fates_are posted_same lines_are verdict digits_are is =
    let verdict_so = subst (λ (t : List ℕ). IsVerdict (lines_of t) (judged.Yes totals)) posted_same verdict in
    is
    ∙ (ap (λ (d : List ℕ). summary_of ballots fates lines d totals) digits_are
    ∙ (ap (λ (f : List Told). summary_of ballots f lines (encode_lower (seal_of number ballots).0) totals) fates_are
    ∙ (ap (λ (n : ℕ). summary_of ballots (sample_story number ballots).fates n (encode_lower (seal_of number ballots).0) totals) (lines_are ∙ ap (λ (t : List ℕ). length (lines_of t)) posted_same)
    ∙ ap (summary_of ballots (sample_story number ballots).fates (length (lines_of (sample_record number ballots))) (encode_lower (seal_of number ballots).0)) (totals_are number ballots totals some few verdict_so))))
