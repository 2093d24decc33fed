-- An honest office is cleared.
use Rattle.std.proofs.Common.{◌≡◌, ℕ, List, ◌++◌, Some, None, sym, subst, ap, ◌∙◌}
use Rattle.std.specs.Prelude.{IfSome, Option}
use Rattle.std.specs.Io.KnownBytes.{Appends}
use Rattle.sg_outside.specs.Streams.{AppendsFront, Seen}
use Rattle.sg_outside.specs.TextLines.{lines_of}
use Rattle.sg_outside.specs.declared.outcome.Outcome.{Outcome}
use Rattle.sg_outside.specs.declared.outcome.Outcome.TheVariants as outcome
use Rattle.sg_plan.specs.Limits.{fault_of}
use Rattle.sg_plan.specs.declared.plan.Plan.{Plan}
use Rattle.sg_record.proofs.PlacesLaw.{texts_have_lines}
use Rattle.sg_record.specs.Lines.{text_of, texts_in}
use Rattle.sg_record.specs.declared.record.Record.{Record}
use Rattle.sg_check.specs.Verdict.{IsVerdict}
use Rattle.sg_check.specs.declared.judged.Judged.TheVariants as judged
use Rattle.sg_post.proofs.PostedText.{posted_is_text}
use Rattle.sg_post.specs.Posted.{posted_record, posted_text}
use Rattle.sg_post.specs.declared.story.Story.{Story}
use Rattle.sg_accepted.proofs.RecordTotals.{unaltered_has_totals}
use Rattle.sg_accepted.proofs.StoryWalks.{Walks, story-walks}
use Rattle.sg_accepted.specs.Totals.{told_totals}
use Rattle.sg_accepted.specs.Unaltered.{IsUnaltered}
use Rattle.sg_histories.specs.Stories.{story_of}
use Rattle.sg_clerk.specs.Sheet.{sheet_text}
use Rattle.sg_unaltered.proofs.UnalteredStories.{unaltered_tell_so}
use Rattle.sg_reports.specs.court.Odds.{OddsDue}
use Rattle.sg_reports.specs.court.Recounts.{RecountDue, findings_text}
use Rattle.sg_driver.specs.Says.{Shows}
use Rattle.sg_reports.specs.court.Says.{Answers, Says}
use Rattle.sg_cleared.proofs.Clearing.{odds_due, recount_due}
use Rattle.sg_cleared.proofs.Handed.{behind_text, handed_lines, lines_handed}
use Rattle.sg_cleared.proofs.Standing.{odds_are_due, recount_is_due}
use Rattle.sg_cleared.specs.Laws.{Clears, HonestIsClear, HonestIsCleared, IsDueAlone, clear_counts, clear_exponents, clear_findings, handed_of}

-- A STORY

module _ (plan : Plan) (seed : List ℕ) (story : Story) (fine : fault_of plan ≡ None) (unaltered : IsUnaltered plan seed story) (walks : Walks plan seed story) where
  abbrev ours : Record
  ours = posted_record plan seed story.fates walks.draw story.claims

  text_is : posted_text plan seed story ≡ text_of ours
  text_is = (posted_is_text plan seed story walks.draw fine unaltered.fits walks.is walks.bytes).text

  verdict_is : IsVerdict (texts_in ours) (judged.Yes (told_totals plan seed story.fates))
  verdict_is =
      subst (λ (l : List (List ℕ)). IsVerdict l (judged.Yes (told_totals plan seed story.fates))) (ap lines_of text_is ∙ texts_have_lines ours walks.words)
      (unaltered_has_totals plan seed story fine unaltered)

  lines_are : lines_of (posted_text plan seed story ++ behind_text plan seed fine) ≡ handed_lines plan seed fine ours
  lines_are = ap (λ (b : List ℕ). lines_of (b ++ behind_text plan seed fine)) text_is ∙ lines_handed plan seed fine ours walks.words

  pub recount_alone : IsDueAlone RecountDue (posted_text plan seed story ++ behind_text plan seed fine) (findings_text (clear_findings plan seed story.fates))
  recount_alone = record {
    due = subst (λ (l : List (List ℕ)). RecountDue l outcome.Done (findings_text (clear_findings plan seed story.fates))) (sym lines_are)
        (recount_is_due plan seed story.fates walks.draw story.claims fine walks.fit walks.claimed walks.words walks.formed (told_totals plan seed story.fates) verdict_is);
    only = λ how text due.
        recount_due plan seed story.fates walks.draw story.claims fine walks.fit walks.claimed walks.words walks.formed (told_totals plan seed story.fates) verdict_is how text
        (subst (λ (l : List (List ℕ)). RecountDue l how text) lines_are due);
  }

  pub odds_alone : IsDueAlone OddsDue (posted_text plan seed story ++ behind_text plan seed fine) (clear_exponents plan)
  odds_alone = record {
    due = subst (λ (l : List (List ℕ)). OddsDue l outcome.Done (clear_exponents plan)) (sym lines_are)
        (odds_are_due plan seed story.fates walks.draw story.claims fine walks.fit walks.claimed walks.words walks.formed (told_totals plan seed story.fates) verdict_is);
    only = λ how text due.
        odds_due plan seed story.fates walks.draw story.claims fine walks.fit walks.claimed walks.words walks.formed (told_totals plan seed story.fates) verdict_is how text
        (subst (λ (l : List (List ℕ)). OddsDue l how text) lines_are due);
  }

-- A HISTORY

pub honest_is_clear : HonestIsClear
unfolding sheet_text
honest_is_clear setup history fine is =
    let unaltered : IsUnaltered setup.plan setup.seed.0 (story_of setup history) = unaltered_tell_so setup history is in
    let walks : Walks setup.plan setup.seed.0 (story_of setup history) = story-walks setup.plan setup.seed.0 (story_of setup history) fine unaltered in
    record {
      recount = recount_alone setup.plan setup.seed.0 (story_of setup history) fine unaltered walks;
      odds = odds_alone setup.plan setup.seed.0 (story_of setup history) fine unaltered walks;
    }

-- what is due alone is what such a command says
says_clear : (Due : List (List ℕ) → Outcome → List ℕ → Type 0) (bytes clear : List ℕ) → IsDueAlone Due bytes clear → (how : Outcome) (input input' out out' : Seen) → input.bytes ≡ Some bytes
    → Says Due how input input' out out' → Clears clear how input input' out out'
says_clear Due bytes clear alone how input input' out out' known says = by_ending how says
  where
    due_is : (due : Outcome) (text : List ℕ) → Answers Due due text input.bytes input'.bytes → (due ≡ outcome.Done) × (text ≡ clear)
    due_is due text answers = alone.only due text (subst (λ (o : Option (List ℕ)). IfSome o (λ b. Due (lines_of b) due text)) known answers.told)

    by_shown : (ended : Outcome) → Shows (Answers Due) ended input input' out out' → Clears clear ended input input' out out'
    by_shown ended shows =
        let is = due_is ended shows.text shows.due in
        let clears : Clears clear outcome.Done input input' out out' = subst (λ (t : List ℕ). Appends out.bytes out'.bytes t) is.1 shows.written in
        subst (λ (o : Outcome). Clears clear o input input' out out') (sym is.0) clears

    by_ending : (ended : Outcome) → Says Due ended input input' out out' → Clears clear ended input input' out out'
    by_ending outcome.Done shows = by_shown outcome.Done shows
    by_ending outcome.No shows = by_shown outcome.No shows
    by_ending outcome.Refused shows = by_shown outcome.Refused shows
    by_ending outcome.ReadFailed fails = fails
    by_ending outcome.WriteFailed fails =
        let is = due_is fails.outcome fails.text fails.due in
        (fails.cause, subst (λ (t : List ℕ). AppendsFront out.bytes out'.bytes t) is.1 fails.written)
    by_ending outcome.NoMemory wants = wants.written
    by_ending _ none = absurd none

pub honest_is_cleared : HonestIsCleared
honest_is_cleared setup history fine is how input input' out out' known =
    let clear = honest_is_clear setup history fine is in
    record {
      recount = says_clear RecountDue (handed_of setup history) (clear_counts setup history) clear.recount how input input' out out' known;
      odds = says_clear OddsDue (handed_of setup history) (clear_exponents setup.plan) clear.odds how input input' out out' known;
    }
