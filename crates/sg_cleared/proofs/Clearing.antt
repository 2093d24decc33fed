-- What is due of the lines that an office hands to a court: no altered row, even sums, and exponents of 0.
use Rattle.std.proofs.Common.{◌≡◌, ℕ, ◌<◌, Bool, true, cond, inl, inr, List, [], ◌∷◌, codes, length, None, refl, sym, subst, ap, ◌∙◌}
use Rattle.std.proofs.lemmas.Bool.{true≢false}
use Rattle.std.specs.List.{list_all}
use Rattle.sg_outside.specs.declared.outcome.Outcome.{Outcome}
use Rattle.sg_outside.specs.declared.outcome.Outcome.TheVariants as outcome
use Rattle.sg_plan.specs.Ballots.{candidates_of, entries_of}
use Rattle.sg_plan.specs.Limits.{fault_of}
use Rattle.sg_plan.specs.declared.plan.Draw.{Draw}
use Rattle.sg_plan.specs.declared.plan.Plan.{Plan}
use Rattle.sg_grammar.specs.Due.{each}
use Rattle.sg_grammar.specs.Placed.{Placed}
use Rattle.sg_record.specs.Formed.{is_formed}
use Rattle.sg_record.specs.Laws.{HasWords}
use Rattle.sg_record.specs.Lines.{texts_in}
use Rattle.sg_record.specs.Places.{places_in}
use Rattle.sg_record.specs.declared.record.Record.{Record}
use Rattle.sg_check.specs.Completions.{Completion, IsHalfOf}
use Rattle.sg_check.specs.Printings.{Printing}
use Rattle.sg_check.specs.Verdict.{IsVerdict}
use Rattle.sg_check.specs.declared.judged.Judged.TheVariants as judged
use Rattle.sg_check.specs.declared.judged.Total.{Total}
use Rattle.sg_post.proofs.Numbered.{each-no, each-same}
use Rattle.sg_post.specs.Fits.{claim_fits, fates_fit}
use Rattle.sg_post.specs.Posted.{posted_record}
use Rattle.sg_post.specs.declared.story.Claimed.{Claimed}
use Rattle.sg_post.specs.declared.story.Told.{Told}
use Rattle.sg_parts.specs.Given.{Given, completion_of, printing_of}
use Rattle.sg_parts.specs.declared.parts.RowGiven.{RowGiven}
use Rattle.sg_recount.proofs.Bounding.{same_sum}
use Rattle.sg_recount.specs.Findings.{all_altered, all_sums, altered_in, altered_row, race_altered, race_sums, sum_of}
use Rattle.sg_recount.specs.declared.findings.Findings.{Findings}
use Rattle.sg_recount.specs.declared.findings.Sum.{Sum}
use Rattle.sg_odds.specs.Odds.{exponent, is_lacking}
use Rattle.sg_reports.specs.court.Odds.{FindsOdds, LacksRow, OddsDue}
use Rattle.sg_reports.specs.court.Recounts.{Finds, IsFaulty, RecountDue, findings_text}
use Rattle.sg_reports.specs.court.Texts.{numbers_line}
use Rattle.sg_cleared.proofs.Counting.{count_is}
use Rattle.sg_cleared.proofs.Handed.{handed_lines, office_has}
use Rattle.sg_cleared.proofs.Leading.{exponent_none, row_there}
use Rattle.sg_cleared.proofs.Posted.{total_is}
use Rattle.sg_cleared.proofs.Telling.{IsOfOffice, given_told, no_fault, prints_tables}
use Rattle.sg_cleared.proofs.Unaltered.{HasTables, PrintsTables, row_right}
use Rattle.sg_cleared.specs.Laws.{clear_exponents, clear_findings, even_sum, no_rows}

-- LISTS THAT ARE MADE NUMBER BY NUMBER

each_none : (f : ℕ → List ℕ) (count : ℕ) → ((k : ℕ) → k < count → f k ≡ []) → each f 0 count ≡ []
each_none f count none = each-same f (λ k. []) count none ∙ each-no (λ k. []) count (λ k. refl)

module _ (plan : Plan) (seed : List ℕ) (fates : List Told) (draw : Draw) (claims : List Claimed) (fine : fault_of plan ≡ None) (fit : fates_fit plan 0 fates ≡ true) (claimed : list_all (claim_fits plan) claims ≡ true)
    (words : HasWords (posted_record plan seed fates draw claims)) (formed : is_formed (posted_record plan seed fates draw claims) ≡ true) (totals : List Total)
    (yes : IsVerdict (texts_in (posted_record plan seed fates draw claims)) (judged.Yes totals)) where
  abbrev ours : Record
  ours = posted_record plan seed fates draw claims

  abbrev lines : List Placed
  lines = places_in ours

  abbrev all : List (List ℕ)
  all = handed_lines plan seed fine ours

  -- THE FINDINGS

  pub altered_none : (completion : Completion) → HasTables plan seed completion → (printing : Printing) → PrintsTables plan seed printing → all_altered plan lines completion printing ≡ (clear_findings plan seed fates).altered
  altered_none completion has printing prints =
      each-same (λ race. race_altered plan lines completion printing race ∷ []) (λ race. each (λ instance. no_rows ∷ []) 0 plan.instances ∷ []) (length plan.races)
      (λ race in_race. ap (λ (l : List (List ℕ)). l ∷ [])
      (each-same (λ instance. altered_in plan lines completion printing race instance ∷ []) (λ instance. no_rows ∷ []) plan.instances
      (λ instance in_instances. ap (λ (l : List ℕ). l ∷ [])
      (each_none (altered_row plan lines completion printing race instance) (entries_of plan race)
      (λ number below. ap (λ (b : Bool). cond b (number ∷ []) [])
      (row_right plan seed fates draw claims fine fit claimed completion has printing prints race instance number (in_race, in_instances, below)))))))

  pub sums_even : (printing : Printing) → PrintsTables plan seed printing → all_sums plan lines printing ≡ (clear_findings plan seed fates).sums
  sums_even printing prints =
      each-same (λ race. race_sums plan lines printing race ∷ []) (λ race. each (λ candidate. even_sum plan seed fates race candidate ∷ []) 0 (candidates_of plan race) ∷ []) (length plan.races)
      (λ race in_race. ap (λ (l : List Sum). l ∷ [])
      (each-same (λ candidate. sum_of plan lines printing race candidate ∷ []) (λ candidate. even_sum plan seed fates race candidate ∷ []) (candidates_of plan race)
      (λ candidate low. ap (λ (s : Sum). s ∷ [])
      (same_sum _ _ _ _ (total_is plan seed fates draw claims fine fit claimed race candidate in_race low) (count_is plan seed fates draw claims fine fit claimed printing prints race candidate in_race low)))))

  told_tables : (given : Given) → IsOfOffice plan seed fates draw claims given → HasTables plan seed (completion_of given.rows)
  told_tables given told = subst (λ (rows : List (List (List RowGiven))). HasTables plan seed (completion_of rows)) (sym told.rows) (office_has plan seed fine)

  findings_are : (text : List ℕ) (finds : Finds all text) → finds.findings ≡ clear_findings plan seed fates
  findings_are text finds =
      let given = finds.given in
      let told = given_told plan seed fates draw claims fine fit claimed words formed totals yes given finds.is_given in
      let has = told_tables given told in
      let prints = prints_tables plan seed given.codes fine told.codes in
      let altered : finds.findings.altered ≡ (clear_findings plan seed fates).altered
      = finds.are.altered
      ∙ (ap (λ (p : Record). all_altered p.plan (places_in p) (completion_of given.rows) (printing_of given.codes)) told.posted ∙ altered_none (completion_of given.rows) has (printing_of given.codes) prints) in
      let sums : finds.findings.sums ≡ (clear_findings plan seed fates).sums
      = finds.are.sums ∙ (ap (λ (p : Record). all_sums p.plan (places_in p) (printing_of given.codes)) told.posted ∙ sums_even (printing_of given.codes) prints) in
      ap (λ (a : List (List (List ℕ))). let f : Findings = record { altered = a; sums = finds.findings.sums } in f) altered
      ∙ ap (λ (s : List (List Sum)). let f : Findings = record { altered = (clear_findings plan seed fates).altered; sums = s } in f) sums

  none_faulty : (how : Outcome) (text : List ℕ) → IsFaulty all how text → ⊥
  none_faulty how text faulty = no_fault plan seed fates draw claims fine fit claimed words formed totals yes faulty.wrong faulty.known faulty.has

  pub recount_due : (how : Outcome) (text : List ℕ) → RecountDue all how text → (how ≡ outcome.Done) × (text ≡ findings_text (clear_findings plan seed fates))
  recount_due outcome.Done text finds = (refl, finds.text_is ∙ ap findings_text (findings_are text finds))
  recount_due outcome.No text faulty = absurd (none_faulty outcome.No text faulty)
  recount_due outcome.Refused text faulty = absurd (none_faulty outcome.Refused text faulty)
  recount_due _ text none = absurd none

  -- THE ODDS

  pub exponents_none : (completion : Completion) → HasTables plan seed completion → each (λ race. numbers_line (codes "exponent") (race ∷ exponent plan lines completion race ∷ [])) 0 (length plan.races) ≡ clear_exponents plan
  exponents_none completion has =
      each-same (λ race. numbers_line (codes "exponent") (race ∷ exponent plan lines completion race ∷ [])) (λ race. numbers_line (codes "exponent") (race ∷ 0 ∷ [])) (length plan.races)
      (λ race in_race. ap (λ n. numbers_line (codes "exponent") (race ∷ n ∷ [])) (exponent_none plan seed fates draw claims fine fit claimed completion has race in_race))

  exponents_are : (text : List ℕ) (finds : FindsOdds all text) → text ≡ clear_exponents plan
  exponents_are text finds =
      let given = finds.given in
      let told = given_told plan seed fates draw claims fine fit claimed words formed totals yes given finds.is_given in
      let completion : Completion = completion_of given.rows in
      finds.text_is
      ∙ (ap (λ (p : Record). each (λ race. numbers_line (codes "exponent") (race ∷ exponent p.plan (places_in p) completion race ∷ [])) 0 (length p.plan.races)) told.posted
      ∙ exponents_none completion (told_tables given told))

  none_lacks : (text : List ℕ) → LacksRow all text → ⊥
  none_lacks text lacks =
      let given = lacks.given in
      let told = given_told plan seed fates draw claims fine fit claimed words formed totals yes given lacks.is_given in
      let within : IsHalfOf plan lacks.race lacks.instance lacks.row = subst (λ (p : Record). IsHalfOf p.plan lacks.race lacks.instance lacks.row) told.posted lacks.first.within in
      let lacking : is_lacking plan (completion_of given.rows) lacks.race lacks.instance lacks.row ≡ true
      = subst (λ (p : Record). is_lacking p.plan (completion_of given.rows) lacks.race lacks.instance lacks.row ≡ true) told.posted lacks.first.lacking in
      true≢false (sym lacking ∙ row_there plan seed (completion_of given.rows) (told_tables given told) lacks.race lacks.instance lacks.row within)

  pub odds_due : (how : Outcome) (text : List ℕ) → OddsDue all how text → (how ≡ outcome.Done) × (text ≡ clear_exponents plan)
  odds_due outcome.Done text finds = (refl, exponents_are text finds)
  odds_due outcome.No text faulty = absurd (none_faulty outcome.No text faulty)
  odds_due outcome.Refused text (inl lacks) = absurd (none_lacks text lacks)
  odds_due outcome.Refused text (inr faulty) = absurd (none_faulty outcome.Refused text faulty)
  odds_due _ text none = absurd none
