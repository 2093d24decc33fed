-- Kind opening: what a posted record opens, opens its commitments.
use Rattle.std.proofs.Common.{◌≡◌, ℕ, ◌≤◌, Bool, true, false, ◌||◌, not, cond, List, [], Option, Some, None, refl, ap, ◌∙◌, arith}
use Rattle.std.proofs.lemmas.Slice.Eq.{bytes_eq-Decides}
use Rattle.std.specs.List.{list_all}
use Rattle.sha2.specs.Sha256.{sha256}
use Rattle.sg_plan.proofs.PlanLaws.{entry_tells}
use Rattle.sg_plan.specs.Ballots.{entry_at}
use Rattle.sg_plan.specs.Limits.{fault_of}
use Rattle.sg_plan.specs.declared.plan.Draw.{Draw}
use Rattle.sg_plan.specs.declared.plan.Draw.TheVariants as drawn
use Rattle.sg_plan.specs.declared.plan.Plan.{Plan}
use Rattle.sg_plan.specs.declared.plan.Side.{Side}
use Rattle.sg_plan.specs.declared.plan.Side.TheVariants as side
use Rattle.sg_commit.specs.Commitments.{commit_input}
use Rattle.sg_commit.specs.declared.CommitKind.{CommitKind}
use Rattle.sg_commit.specs.declared.CommitKind.TheVariants as commit
use Rattle.sg_commit.specs.declared.Digest.{Digest}
use Rattle.sg_commit.specs.declared.Opening.{Opening}
use Rattle.sg_streams.specs.CoinSides.{coin_of, coin_seed}
use Rattle.sg_tables.specs.Tables.{left_of as row_left, left_opening_of, q_opening_of, right_opening_of}
use Rattle.sg_forms.specs.declared.line.CodeLine.{CodeLine}
use Rattle.sg_forms.specs.declared.line.RowOpening.{RowOpening}
use Rattle.sg_forms.specs.declared.line.RowOpening.TheVariants as row
use Rattle.sg_grammar.specs.Placed.{Placed}
use Rattle.sg_grammar.specs.Placed.Placed.{CodeAt, RowAt}
use Rattle.sg_grammar.specs.declared.state.Block.{Block}
use Rattle.sg_grammar.specs.declared.state.Block.TheVariants as block
use Rattle.sg_record.specs.Places.{places_in}
use Rattle.sg_check.specs.Facts.{code_commitment, opened_on, half_commitment}
use Rattle.sg_check.specs.Kinds.{bad_placed, opens_digest}
use Rattle.sg_check.specs.inside.BySide.{bad_pointer_opening}
use Rattle.sg_check.specs.declared.judged.Kind.TheVariants as kind
use Rattle.sg_post.specs.Fits.{claim_fits, fates_fit}
use Rattle.sg_post.specs.Marks.{is_entry_audited}
use Rattle.sg_post.specs.Posted.{both_sides, code_commit_of, code_in_row, committed, one_side, opened_row, posted_record, row_commit_of}
use Rattle.sg_post.specs.declared.story.Claimed.{Claimed}
use Rattle.sg_post.specs.declared.story.Told.{Told}
use Rattle.sg_facts.proofs.Rising.{IsFront, code_commitment-kept, half_commitment-kept, part_of, record-good}
use Rattle.sg_accepted.proofs.Late.{Good}
use Rattle.sg_accepted.proofs.Posted.{SaysRight, all-right, committed_code, committed_half}

-- WHAT A ROW OPENS IS WHAT THE TABLES SAY

abbrev pub OpensRow : Plan → List ℕ → ℕ → ℕ → ℕ → RowOpening → Type 0
OpensRow plan seed race instance number (row.Left left) = left ≡ left_opening_of plan seed race instance number
OpensRow plan seed race instance number (row.Right right) = right ≡ right_opening_of plan seed race instance number
OpensRow plan seed race instance number (row.Both left right) = (left ≡ left_opening_of plan seed race instance number) × (right ≡ right_opening_of plan seed race instance number)

pub opened-opens : (plan : Plan) (seed : List ℕ) (fates : List Told) (draw : Draw) (race instance number : ℕ) → OpensRow plan seed race instance number (opened_row plan seed fates draw race instance number)
unfolding opened_row
opened-opens plan seed fates drawn.Full race instance number = (refl, refl)
opened-opens plan seed fates (drawn.Public bytes) race instance number = at_audit (is_entry_audited plan fates race (row_left plan seed race instance number)) (coin_of (coin_seed bytes) race instance number)
  where
    at_audit : (b : Bool) (s : Side) → OpensRow plan seed race instance number (cond b (both_sides plan seed race instance number) (one_side plan seed race instance number s))
    at_audit true s = (refl, refl)
    at_audit false side.Left = refl
    at_audit false side.Right = refl

-- THE KIND

pub opens-committed : (digest : Option Digest) (kind : CommitKind) (race instance place : ℕ) (opening : Opening) → digest ≡ Some (committed kind race instance place opening)
    → opens_digest digest kind race instance place opening ≡ true
opens-committed digest kind race instance place opening is =
    ap (λ (d : Option Digest). opens_digest d kind race instance place opening) is ∙ (bytes_eq-Decides (sha256 (commit_input kind race instance place opening)) (sha256 (commit_input kind race instance place opening))).1 refl

row-opens : (plan : Plan) (seed : List ℕ) (race instance number : ℕ) (opening : RowOpening) (left right : Option Digest)
    → left ≡ Some (row_commit_of plan seed race instance number).left → right ≡ Some (row_commit_of plan seed race instance number).right → OpensRow plan seed race instance number opening
    → (bad_pointer_opening left commit.L race instance number (opened_on side.Left opening) || bad_pointer_opening right commit.R race instance number (opened_on side.Right opening)) ≡ false
unfolding row_commit_of
row-opens plan seed race instance number (row.Left o) left right l r is =
    rw (is, opens-committed left commit.L race instance number (left_opening_of plan seed race instance number) l) refl
row-opens plan seed race instance number (row.Right o) left right l r is =
    rw (is, opens-committed right commit.R race instance number (right_opening_of plan seed race instance number) r) refl
row-opens plan seed race instance number (row.Both o p) left right l r is =
    rw (
      is.0,
      is.1,
      opens-committed left commit.L race instance number (left_opening_of plan seed race instance number) l,
      opens-committed right commit.R race instance number (right_opening_of plan seed race instance number) r,
    ) refl

behind-commits : (kind : Block) (ballot race column : ℕ) (code : CodeLine) → 3 ≤ part_of (CodeAt kind ballot race column code)
behind-commits block.Cast ballot race column code = omega arith
behind-commits block.Audited ballot race column code = omega arith
behind-commits block.Dispute ballot race column code = omega arith

module _ (plan : Plan) (seed : List ℕ) (fates : List Told) (draw : Draw) (claims : List Claimed) where
  abbrev lines : List Placed
  lines = places_in (posted_record plan seed fates draw claims)

  opening-good : (before : List Placed) (line : Placed) → IsFront lines before line → SaysRight plan seed fates draw line → bad_placed kind.Opening plan before line ≡ false
  unfolding code_in_row code_commit_of
  opening-good before (CodeAt kind ballot race column code) front right =
      let entry = entry_at plan race ballot column in
      let found : code_commitment race entry before ≡ Some (code_commit_of plan seed race entry)
      = code_commitment-kept lines before (CodeAt kind ballot race column code) front (behind-commits kind ballot race column code) race entry
      ∙ committed_code plan seed fates draw claims race entry right.0 (entry_tells plan race ballot column right.1 right.2).below in
      rw right.3 (ap not (opens-committed (code_commitment race entry before) commit.Q race 0 entry (q_opening_of plan seed race entry) found))
  opening-good before (RowAt race instance number opening) front right =
      row-opens plan seed race instance number opening (half_commitment before side.Left race instance number) (half_commitment before side.Right race instance number)
      (half_commitment-kept lines before (RowAt race instance number opening) front (omega arith) side.Left race instance number ∙ committed_half plan seed fates draw claims side.Left race instance number right.0)
      (half_commitment-kept lines before (RowAt race instance number opening) front (omega arith) side.Right race instance number ∙ committed_half plan seed fates draw claims side.Right race instance number right.0)
      (rw right.1 (opened-opens plan seed fates draw race instance number))
  opening-good before line front right = refl

  pub openings-whole : fault_of plan ≡ None → fates_fit plan 0 fates ≡ true → list_all (claim_fits plan) claims ≡ true → Good (bad_placed kind.Opening plan) [] lines
  openings-whole fine fit claimed =
      record-good (bad_placed kind.Opening plan) (SaysRight plan seed fates draw) (posted_record plan seed fates draw claims) opening-good (all-right plan seed fates draw claims fine fit claimed)
