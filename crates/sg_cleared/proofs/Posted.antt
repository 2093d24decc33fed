-- What a posted record says at each coordinate: what the tables and the fates of the ballots say there.
use Rattle.std.proofs.Common.{◌≡◌, ℕ, ◌<◌, true, List, [], ◌∷◌, ◌++◌, length, Option, Some, None, refl, sym, subst, ap, ◌∙◌}
use Rattle.std.proofs.lemmas.Option.{none-some, same_Some}
use Rattle.std.specs.List.{list_all}
use Rattle.std.specs.Option.{option_and_then, option_map_or}
use Rattle.sg_lists.proofs.Each.{EachOf}
use Rattle.sg_plan.specs.Ballots.{candidates_of, entry_at}
use Rattle.sg_plan.specs.Limits.{fault_of}
use Rattle.sg_plan.specs.declared.plan.Draw.{Draw}
use Rattle.sg_plan.specs.declared.plan.Plan.{Plan}
use Rattle.sg_plan.specs.declared.plan.Side.{Side}
use Rattle.sg_plan.specs.declared.plan.Side.TheVariants as side
use Rattle.sg_commit.specs.declared.Digest.{Digest}
use Rattle.sg_commit.specs.declared.Opening.{Opening}
use Rattle.sg_tables.proofs.TableLaws.{opening_laws}
use Rattle.sg_tables.specs.Tables.{code_of_entry, left_opening_of, right_opening_of}
use Rattle.sg_forms.specs.declared.line.CodeLine.{CodeLine}
use Rattle.sg_forms.specs.declared.line.RowOpening.{RowOpening}
use Rattle.sg_forms.specs.declared.line.RowOpening.TheVariants as row
use Rattle.sg_grammar.specs.Lines.{IsAmong}
use Rattle.sg_grammar.specs.Placed.{Placed}
use Rattle.sg_grammar.specs.Placed.Placed.{CodeAt, RowAt}
use Rattle.sg_grammar.specs.declared.state.Block.{Block}
use Rattle.sg_record.specs.Places.{places_in}
use Rattle.sg_record.specs.declared.record.Record.{Record}
use Rattle.sg_check.proofs.Bounding.{posts}
use Rattle.sg_check.specs.Completions.{IsHalfOf, posted_half}
use Rattle.sg_check.specs.Kinds.{opens_digest, half_kind}
use Rattle.sg_check.specs.Facts.{half_commitment, opened_on}
use Rattle.sg_check.specs.Printings.{marked_code}
use Rattle.sg_post.specs.Fits.{claim_fits, fates_fit}
use Rattle.sg_post.specs.Marks.{total_of}
use Rattle.sg_post.specs.Posted.{code_in_row, committed, opened_row, posted_record, row_commit_of}
use Rattle.sg_post.specs.declared.story.Claimed.{Claimed}
use Rattle.sg_post.specs.declared.story.Told.{Told}
use Rattle.sg_accepted.proofs.Opening.{OpensRow, opened-opens, opens-committed}
use Rattle.sg_accepted.proofs.Posted.{SaysRight, all-right, committed_half, item_get, row_get}
use Rattle.sg_facts.proofs.Facts.{are_listed}
use Rattle.sg_facts.specs.Listed.{AreListed, digest_on}
use Rattle.sg_facts.specs.Totals.{total_of as posted_total}

-- LINES

pub among_of : (P : Placed → Type 0) (lines : List Placed) (line : Placed) → EachOf P lines → IsAmong lines line → P line
among_of P lines line all among = at_front among.0 (subst (EachOf P) among.2 all)
  where
    at_front : (front : List Placed) → EachOf P (front ++ line ∷ among.1) → P line
    at_front [] each = each.0
    at_front (x ∷ front) each = at_front front each.1

-- the opening of a half, as the tables have it
abbrev pub opening_on : Plan → List ℕ → Side → ℕ → ℕ → ℕ → Opening
opening_on plan seed side.Left race instance number = left_opening_of plan seed race instance number
opening_on plan seed side.Right race instance number = right_opening_of plan seed race instance number

-- what is opened of a half is that
opened_is : (plan : Plan) (seed : List ℕ) (on : Side) (race instance number : ℕ) (opening : RowOpening) (one : Opening) → OpensRow plan seed race instance number opening → opened_on on opening ≡ Some one
    → opening_on plan seed on race instance number ≡ one
opened_is plan seed side.Left race instance number (row.Left l) one is e = sym is ∙ same_Some l one e
opened_is plan seed side.Left race instance number (row.Right r) one is e = absurd (none-some one e)
opened_is plan seed side.Left race instance number (row.Both l r) one is e = sym is.0 ∙ same_Some l one e
opened_is plan seed side.Right race instance number (row.Left l) one is e = absurd (none-some one e)
opened_is plan seed side.Right race instance number (row.Right r) one is e = sym is ∙ same_Some r one e
opened_is plan seed side.Right race instance number (row.Both l r) one is e = sym is.1 ∙ same_Some r one e

commits_on : (plan : Plan) (seed : List ℕ) (on : Side) (race instance number : ℕ) → digest_on on (row_commit_of plan seed race instance number) ≡ committed (half_kind on) race instance number (opening_on plan seed on race instance number)
unfolding row_commit_of
commits_on plan seed side.Left race instance number = refl
commits_on plan seed side.Right race instance number = refl

-- THE RECORD

module _ (plan : Plan) (seed : List ℕ) (fates : List Told) (draw : Draw) (claims : List Claimed) (fine : fault_of plan ≡ None) (fit : fates_fit plan 0 fates ≡ true) (claimed : list_all (claim_fits plan) claims ≡ true) where
  abbrev posted : Record
  posted = posted_record plan seed fates draw claims

  abbrev lines : List Placed
  lines = places_in posted

  listed : AreListed posted
  listed = are_listed posted

  -- HALVES

  commitment_is : (on : Side) (race instance number : ℕ) → IsHalfOf plan race instance number
      → half_commitment lines on race instance number ≡ Some (committed (half_kind on) race instance number (opening_on plan seed on race instance number))
  commitment_is on race instance number within =
      committed_half plan seed fates draw claims on race instance number within ∙ ap (λ (d : Digest). Some d) (commits_on plan seed on race instance number)

  -- the tables' opening of a half opens its commitment
  pub half_opens : (on : Side) (race instance number : ℕ) → IsHalfOf plan race instance number
      → opens_digest (half_commitment lines on race instance number) (half_kind on) race instance number (opening_on plan seed on race instance number) ≡ true
  half_opens on race instance number within =
      opens-committed (half_commitment lines on race instance number) (half_kind on) race instance number (opening_on plan seed on race instance number) (commitment_is on race instance number within)

  -- what is posted of a half is that opening
  pub half_posted : (on : Side) (race instance number : ℕ) (one : Opening) → IsHalfOf plan race instance number → posted_half lines on race instance number ≡ Some one → opening_on plan seed on race instance number ≡ one
  half_posted on race instance number one within is =
      opened_is plan seed on race instance number (opened_row plan seed fates draw race instance number) one (opened-opens plan seed fates draw race instance number)
      (sym (listed.half on race instance number ∙ ap (option_and_then (opened_on on)) (row_get plan (opened_row plan seed fates draw) race instance number within)) ∙ is)

  -- TOTALS

  pub total_is : (race candidate : ℕ) → race < length plan.races → candidate < candidates_of plan race → posted_total lines race candidate ≡ total_of plan seed fates race candidate
  total_is race candidate in_race within =
      ap (λ (o : Option ℕ). option_map_or (λ count. count) o 0)
      (listed.total race candidate (total_of plan seed fates race candidate) in_race (item_get (length plan.races) (candidates_of plan) (total_of plan seed fates) race candidate in_race within))

  -- WHAT LINES OPEN

  all_right_lines : EachOf (SaysRight plan seed fates draw) lines
  all_right_lines = all-right plan seed fates draw claims fine fit claimed

  -- a row that is opened on both sides
  pub both_are : (race instance number : ℕ) (left right : Opening) → IsAmong lines (RowAt race instance number (row.Both left right))
      → IsHalfOf plan race instance number × (left ≡ left_opening_of plan seed race instance number) × (right ≡ right_opening_of plan seed race instance number)
  both_are race instance number left right among =
      let is = among_of (SaysRight plan seed fates draw) lines (RowAt race instance number (row.Both left right)) all_right_lines among in
      let opens : OpensRow plan seed race instance number (row.Both left right) = subst (OpensRow plan seed race instance number) (sym is.1) (opened-opens plan seed fates draw race instance number) in
      (is.0, opens.0, opens.1)

  -- a code that is shown
  pub code_is : (kind : Block) (ballot race column : ℕ) (code : CodeLine) → IsAmong lines (CodeAt kind ballot race column code) → code.code ≡ code_of_entry plan seed race (entry_at plan race ballot column)
  unfolding code_in_row
  code_is kind ballot race column code among =
      let is = among_of (SaysRight plan seed fates draw) lines (CodeAt kind ballot race column code) all_right_lines among in
      ap (λ (c : CodeLine). c.code) is.3 ∙ opening_laws.code plan seed race (entry_at plan race ballot column)

  -- the code of a marked entry
  pub mark_is : (race entry shown : ℕ) → marked_code plan race entry lines ≡ Some shown → shown ≡ code_of_entry plan seed race entry
  mark_is race entry shown is =
      let one = posts plan lines race entry shown is in
      sym one.code_is ∙ (code_is one.block one.ballot race one.column one.code one.among ∙ ap (code_of_entry plan seed race) one.entry_is)
