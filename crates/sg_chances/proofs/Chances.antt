-- All lists of coins get yes behind the first two sections of an unaltered run.
use Rattle.std.proofs.Common.{◌≡◌, ℕ, true, ◌&&◌, List, [], ◌∷◌, ◌++◌, length, Some, None, refl, sym, subst, ap, ◌∙◌}
use Rattle.std.specs.List.{list_all}
use Rattle.std.proofs.lemmas.Bool.{and_from, and_parts}
use Rattle.std.proofs.lemmas.List.Elements.{All-nil}
use Rattle.std.proofs.lemmas.Option.{same_Some}
use Rattle.sg_lists.proofs.Each.{of-inside}
use Rattle.sg_outside.specs.TextLines.{lines_of}
use Rattle.sg_plan.specs.Ballots.{r_rows}
use Rattle.sg_plan.specs.Limits.{fault_of}
use Rattle.sg_plan.specs.declared.plan.Draw.{Draw}
use Rattle.sg_plan.specs.declared.plan.Draw.TheVariants as drawn
use Rattle.sg_plan.specs.declared.plan.Plan.{Plan}
use Rattle.sg_plan.specs.declared.plan.Side.{Side}
use Rattle.sg_plan.specs.declared.plan.Side.TheVariants as side
use Rattle.sg_plan.specs.declared.plan.Stage.TheVariants as stage
use Rattle.sg_commit.specs.declared.CommitKind.TheVariants as commit
use Rattle.sg_commit.specs.declared.Opening.{Opening}
use Rattle.sg_tables.specs.Tables.{left_opening_of, right_opening_of}
use Rattle.sg_forms.specs.Spelling.{IsOpening, IsRow}
use Rattle.sg_forms.specs.declared.line.RowOpening.{RowOpening}
use Rattle.sg_forms.specs.declared.line.RowOpening.TheVariants as opened
use Rattle.sg_grammar.specs.Lines.{IsAmong}
use Rattle.sg_grammar.specs.Placed.{Placed}
use Rattle.sg_grammar.specs.Placed.Placed.{RowAt}
use Rattle.sg_record.proofs.PlacesLaw.{texts_have_lines}
use Rattle.sg_record.proofs.TextLaw.{texts_differ}
use Rattle.sg_record.specs.Laws.{AreLinesOf}
use Rattle.sg_record.specs.Places.{places_in}
use Rattle.sg_record.specs.declared.record.Record.{Record}
use Rattle.sg_check.proofs.Rows.{posted_row}
use Rattle.sg_check.specs.Completions.{IsHalfOf, OpensNoneTwice}
use Rattle.sg_check.specs.Facts.{is_both, is_full_draw, half_commitment, opened_on}
use Rattle.sg_check.specs.Kinds.{opens_digest, half_kind}
use Rattle.sg_check.specs.Verdict.{totals_of}
use Rattle.sg_post.proofs.PostedText.{posted_is_text}
use Rattle.sg_post.specs.Fits.{claim_fits, fates_fit, stage_fits}
use Rattle.sg_post.specs.Posted.{posted_record, posted_text, row_commit_of}
use Rattle.sg_post.specs.declared.story.Claimed.{Claimed}
use Rattle.sg_post.specs.declared.story.Story.{Story}
use Rattle.sg_post.specs.declared.story.Told.{Told}
use Rattle.sg_accepted.proofs.Law.{unaltered_is_accepted}
use Rattle.sg_facts.proofs.Facts.{full_draw_is}
use Rattle.sg_accepted.proofs.Opening.{OpensRow, opened-opens, opens-committed}
use Rattle.sg_accepted.proofs.Posted.{SaysRight, all-right, committed_half}
use Rattle.sg_accepted.proofs.StoryWalks.{Walks, story-walks}
use Rattle.sg_accepted.specs.Unaltered.{IsRightClaim, IsUnaltered}
use Rattle.sg_fronts.proofs.OfRecord.{has_each, in_plan}
use Rattle.sg_parts.proofs.Accepting.{yes_accepts}
use Rattle.sg_parts.proofs.Wholes.{record_read}
use Rattle.sg_parts.specs.Given.{IsAccepted}
use Rattle.sg_odds.proofs.Sections.{sections, sections_are}
use Rattle.sg_odds.proofs.Verdicts.{all_both, full_gets_yes}
use Rattle.sg_odds.specs.Coins.{GetsYes, before_draw}
use Rattle.sg_chances.proofs.Tables.{tables_full}
use Rattle.sg_chances.specs.Chances.{AllGetYes, UnalteredGetsYes, table_half, tables_of}

-- the first two sections don't depend on the draw
sections_same : (plan : Plan) (seed : List ℕ) (fates : List Told) (draw : Draw) (claims : List Claimed)
    → before_draw (places_in (posted_record plan seed fates draw claims)) ≡ sections (posted_record plan seed fates drawn.Full [])
sections_same plan seed fates draw claims = sections_are (posted_record plan seed fates draw claims)

-- WHAT IS OPENED IS WHAT THE TABLES SAY

half_right : (plan : Plan) (seed : List ℕ) (on : Side) (race instance row : ℕ) (opening : RowOpening) (o : Opening) → OpensRow plan seed race instance row opening → opened_on on opening ≡ Some o → o ≡ table_half plan seed on race instance row
half_right plan seed side.Left race instance row (opened.Left l) o right e = sym (same_Some l o e) ∙ right
half_right plan seed side.Left race instance row (opened.Right r) o right e = cc
half_right plan seed side.Left race instance row (opened.Both l r) o right e = sym (same_Some l o e) ∙ right.0
half_right plan seed side.Right race instance row (opened.Left l) o right e = cc
half_right plan seed side.Right race instance row (opened.Right r) o right e = sym (same_Some r o e) ∙ right
half_right plan seed side.Right race instance row (opened.Both l r) o right e = sym (same_Some r o e) ∙ right.1

both_right : (plan : Plan) (seed : List ℕ) (on : Side) (race instance row : ℕ) (opening : RowOpening) → OpensRow plan seed race instance row opening → is_both opening ≡ true → IsRow opening → IsOpening (table_half plan seed on race instance row)
both_right plan seed on race instance row (opened.Left l) right both range = cc
both_right plan seed on race instance row (opened.Right r) right both range = cc
both_right plan seed side.Left race instance row (opened.Both l r) right both range = subst IsOpening right.0 range.0
both_right plan seed side.Right race instance row (opened.Both l r) right both range = subst IsOpening right.1 range.1

module _ (plan : Plan) (seed : List ℕ) (fates : List Told) (draw : Draw) (claims : List Claimed) (fine : fault_of plan ≡ None) (fit : fates_fit plan 0 fates ≡ true) (claimed : list_all (claim_fits plan) claims ≡ true) where
  abbrev places : List Placed
  places = places_in (posted_record plan seed fates draw claims)

  row_right : (race instance row : ℕ) (opening : RowOpening) → IsAmong places (RowAt race instance row opening) → OpensRow plan seed race instance row opening
  row_right race instance row opening among =
      let right = of-inside (SaysRight plan seed fates draw) places among.0 among.1 (RowAt race instance row opening) (all-right plan seed fates draw claims fine fit claimed) among.2 in
      rw right.1 (opened-opens plan seed fates draw race instance row)

  opens_tables : OpensNoneTwice places (tables_of plan seed)
  opens_tables = λ on race instance row posted there.
      let found = posted_row places on race instance row posted there in
      ap (λ (o : Opening). Some o) (sym (half_right plan seed on race instance row found.0 posted (row_right race instance row found.0 found.1) found.2))

  tables_open : (on : Side) (race instance row : ℕ) → IsHalfOf plan race instance row → opens_digest (half_commitment places on race instance row) (half_kind on) race instance row (table_half plan seed on race instance row) ≡ true
  unfolding row_commit_of
  tables_open side.Left race instance row within =
      opens-committed (half_commitment places side.Left race instance row) commit.L race instance row (left_opening_of plan seed race instance row) (committed_half plan seed fates draw claims side.Left race instance row within)
  tables_open side.Right race instance row within =
      opens-committed (half_commitment places side.Right race instance row) commit.R race instance row (right_opening_of plan seed race instance row) (committed_half plan seed fates draw claims side.Right race instance row within)

-- THE SAME STORY, ALL DRAWN

abbrev all_drawn : Story → Story
all_drawn story = record { fates = story.fates; stage = stage.Drawn drawn.Full; claims = [] }

drawn_unaltered : (plan : Plan) (seed : List ℕ) (story : Story) → fates_fit plan 0 story.fates ≡ true → IsUnaltered plan seed story → IsUnaltered plan seed (all_drawn story)
drawn_unaltered plan seed story fit unaltered = record {
  fits = and_from (fates_fit plan 0 story.fates) true fit refl;
  drawn = tt;
  papers = unaltered.papers;
  words = All-nil (IsRightClaim plan seed story.fates);
}

module _ (plan : Plan) (seed : List ℕ) (fates : List Told) (fine : fault_of plan ≡ None) (fit : fates_fit plan 0 fates ≡ true) (accepted : IsAccepted (posted_record plan seed fates drawn.Full [])) where
  abbrev own : Record
  own = posted_record plan seed fates drawn.Full []

  full : is_full_draw (places_in own) ≡ true
  full = full_draw_is own

  -- each half of the tables is posted, and so an opening
  half_opening : (on : Side) (race instance row : ℕ) → IsHalfOf plan race instance row → IsOpening (table_half plan seed on race instance row)
  half_opening on race instance row within =
      let there = (has_each own accepted.words accepted.formed).row race instance row within.0 within.1 within.2 in
      let range = (in_plan own accepted.words accepted.formed (RowAt race instance row there.opening) there.among).shown in
      both_right plan seed on race instance row there.opening (row_right plan seed fates drawn.Full [] fine fit refl race instance row there.opening there.among)
      (all_both own accepted full race instance row there.opening there.among) range

  all_coins : (coins : List Side) → length coins ≡ r_rows plan → GetsYes (sections (posted_record plan seed fates drawn.Full [])) (tables_of plan seed) coins
  all_coins coins long =
      subst (λ (s : List Placed). GetsYes s (tables_of plan seed) coins) (sections_same plan seed fates drawn.Full [])
      (full_gets_yes own accepted full (tables_of plan seed) (opens_tables plan seed fates drawn.Full [] fine fit refl) coins long)

module _ (plan : Plan) (seed : List ℕ) (story : Story) (fine : fault_of plan ≡ None) (unaltered : IsUnaltered plan seed story) where
  fit : fates_fit plan 0 story.fates ≡ true
  fit = (and_parts (fates_fit plan 0 story.fates) (stage_fits story.stage story.claims && list_all (claim_fits plan) story.claims) unaltered.fits).0

  drawn_accepted : IsAccepted (posted_record plan seed story.fates drawn.Full [])
  drawn_accepted =
      let told = all_drawn story in
      let is_unaltered = drawn_unaltered plan seed story fit unaltered in
      let posted = posted_record plan seed story.fates drawn.Full [] in
      let text = posted_is_text plan seed told drawn.Full fine is_unaltered.fits refl tt in
      let lines = lines_of (posted_text plan seed told) in
      let are : AreLinesOf lines posted = record { words = text.words; formed = text.formed; text = ap lines_of text.text ∙ texts_have_lines posted text.words } in
      (record_read lines posted are (yes_accepts lines (totals_of lines) (unaltered_is_accepted plan seed told fine is_unaltered))).accepted

  walks : Walks plan seed story
  walks = story-walks plan seed story fine unaltered

  all_get_yes : AllGetYes plan seed (posted_record plan seed story.fates walks.draw story.claims)
  all_get_yes = record {
    full = record {
      is_completion = record {
        is_opening = λ on race instance row o within e.
            subst IsOpening (same_Some (table_half plan seed on race instance row) o e) (half_opening plan seed story.fates fine fit drawn_accepted on race instance row within);
        opens = λ on race instance row o within e.
            subst (λ (x : Opening). opens_digest (half_commitment (places_in (posted_record plan seed story.fates walks.draw story.claims)) on race instance row) (half_kind on) race instance row x ≡ true)
            (same_Some (table_half plan seed on race instance row) o e)
            (tables_open plan seed story.fates walks.draw story.claims fine fit walks.claimed on race instance row within);
        has = λ on race instance row there. refl;
      };
      full = λ race instance a b. tables_full plan seed race instance;
    };
    all = λ coins long.
        subst (λ (s : List Placed). GetsYes s (tables_of plan seed) coins) (sym (sections_same plan seed story.fates walks.draw story.claims)) (all_coins plan seed story.fates fine fit drawn_accepted coins long);
  }

pub unaltered_gets_yes : UnalteredGetsYes
unaltered_gets_yes plan seed story fine unaltered posted text =
    let to = walks plan seed story fine unaltered in
    let own = posted_record plan seed story.fates to.draw story.claims in
    let own_text = posted_is_text plan seed story to.draw fine unaltered.fits to.is to.bytes in
    subst (AllGetYes plan seed) (texts_differ own posted own_text.words text.words own_text.formed text.formed (sym own_text.text ∙ text.text)) (all_get_yes plan seed story fine unaltered)
