-- What is due of the lines that an office hands to a court is due: they have all parts, and what is found in them is found.
use Rattle.std.proofs.Common.{◌≡◌, ℕ, ◌<◌, true, List, length, None, refl, sym}
use Rattle.std.specs.List.{list_all}
use Rattle.sg_outside.specs.declared.outcome.Outcome.TheVariants.{Done}
use Rattle.sg_plan.specs.Limits.{fault_of}
use Rattle.sg_plan.specs.declared.plan.Draw.{Draw}
use Rattle.sg_plan.specs.declared.plan.Plan.{Plan}
use Rattle.sg_record.specs.Formed.{is_formed}
use Rattle.sg_record.specs.Laws.{HasWords}
use Rattle.sg_record.specs.Lines.{texts_in}
use Rattle.sg_record.specs.declared.record.Record.{Record}
use Rattle.sg_check.specs.Completions.{Completion}
use Rattle.sg_check.specs.Printings.{Printing}
use Rattle.sg_check.specs.Verdict.{IsVerdict}
use Rattle.sg_check.specs.declared.judged.Judged.TheVariants as judged
use Rattle.sg_check.specs.declared.judged.Total.{Total}
use Rattle.sg_post.specs.Fits.{claim_fits, fates_fit}
use Rattle.sg_post.specs.Posted.{posted_record}
use Rattle.sg_post.specs.declared.story.Claimed.{Claimed}
use Rattle.sg_post.specs.declared.story.Told.{Told}
use Rattle.sg_parts.proofs.Accepting.{yes_accepts}
use Rattle.sg_parts.proofs.Holding.{are_parts}
use Rattle.sg_parts.proofs.Wholes.{record_read}
use Rattle.sg_parts.specs.Given.{AreParts, Given, IsAccepted, completion_of, printing_of}
use Rattle.sg_recount.proofs.Bounding.{sums_bound}
use Rattle.sg_recount.specs.Findings.{AreFindings}
use Rattle.sg_odds.proofs.Bounding.{found_is_bound}
use Rattle.sg_odds.specs.Answers.{IsRaceFull}
use Rattle.sg_odds.specs.declared.found.OddsFound.TheVariants as found
use Rattle.sg_reports.specs.court.Odds.{FindsOdds, OddsDue, exponent_of}
use Rattle.sg_reports.specs.court.Recounts.{Finds, RecountDue, findings_text}
use Rattle.sg_cleared.proofs.Clearing.{altered_none, exponents_none, sums_even}
use Rattle.sg_cleared.proofs.Handed.{both_given, handed_lines, office_codes, office_given, office_has, office_is, office_openings, office_printed, office_rows, printed_same, rows_are}
use Rattle.sg_cleared.proofs.Leading.{row_there}
use Rattle.sg_cleared.proofs.Telling.{prints_tables, right_row, stands}
use Rattle.sg_cleared.proofs.Unaltered.{HasTables, PrintsTables}
use Rattle.sg_cleared.specs.Laws.{clear_exponents, clear_findings}

module _ (plan : Plan) (seed : List ℕ) (fates : List Told) (draw : Draw) (claims : List Claimed) (fine : fault_of plan ≡ None) (fit : fates_fit plan 0 fates ≡ true) (claimed : list_all (claim_fits plan) claims ≡ true)
    (words : HasWords (posted_record plan seed fates draw claims)) (formed : is_formed (posted_record plan seed fates draw claims) ≡ true) (totals : List Total)
    (yes : IsVerdict (texts_in (posted_record plan seed fates draw claims)) (judged.Yes totals)) where
  abbrev ours : Record
  ours = posted_record plan seed fates draw claims

  abbrev all : List (List ℕ)
  all = handed_lines plan seed fine ours

  abbrev given : Given
  given = office_given plan seed fates draw claims

  abbrev completion : Completion
  completion = completion_of (office_rows plan seed)

  abbrev printing : Printing
  printing = printing_of (office_codes plan seed)

  has : HasTables plan seed (completion_of (office_rows plan seed))
  has = office_has plan seed fine

  prints : PrintsTables plan seed (printing_of (office_codes plan seed))
  prints = prints_tables plan seed (office_codes plan seed) fine (printed_same plan seed fine)

  accepted : IsAccepted (posted_record plan seed fates draw claims)
  accepted = (record_read (texts_in ours) ours (record { words = words; formed = formed; text = refl }) (yes_accepts (texts_in ours) totals yes)).accepted

  parts : AreParts (office_given plan seed fates draw claims)
  parts =
      are_parts ours accepted (office_codes plan seed) (office_rows plan seed) (office_printed plan seed fine)
      (stands plan seed fates draw claims fine fit claimed words formed totals yes (office_codes plan seed) (printed_same plan seed fine)) (rows_are plan (both_given plan seed)) (office_openings plan seed fine)
      (λ race instance number within. right_row plan seed fates draw claims fine fit claimed words formed totals yes completion has race instance number within)

  findings : AreFindings (office_given plan seed fates draw claims) (clear_findings plan seed fates)
  findings = record {
    altered = sym (altered_none plan seed fates draw claims fine fit claimed words formed totals yes completion has printing prints);
    sums = sym (sums_even plan seed fates draw claims fine fit claimed words formed totals yes printing prints);
  }

  finds : Finds all (findings_text (clear_findings plan seed fates))
  finds = record {
    given = given;
    findings = clear_findings plan seed fates;
    is_given = office_is plan seed fine fates draw claims words formed;
    parts = parts;
    are = findings;
    bound = sums_bound given (clear_findings plan seed fates) parts findings;
    text_is = refl;
  }

  pub recount_is_due : RecountDue all Done (findings_text (clear_findings plan seed fates))
  recount_is_due = finds

  full : (race : ℕ) → race < length plan.races → IsRaceFull plan completion race
  full race in_race instance in_instances number below = row_there plan seed completion has race instance number (in_race, in_instances, below)

  finds_odds : FindsOdds all (clear_exponents plan)
  finds_odds = record {
    given = given;
    is_given = office_is plan seed fine fates draw claims words formed;
    parts = parts;
    full = full;
    bound = λ race in_race. found_is_bound given race (found.Exponent (exponent_of given race)) parts in_race (full race in_race, refl) full;
    text_is = sym (exponents_none plan seed fates draw claims fine fit claimed words formed totals yes completion has);
  }

  pub odds_are_due : OddsDue all Done (clear_exponents plan)
  odds_are_due = finds_odds
