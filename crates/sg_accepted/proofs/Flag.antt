-- Kind flag: a row is flagged exactly where its entry is marked, and where its place is set.
use Rattle.std.proofs.Common.{◌≡◌, ℕ, ◌<◌, ◌==◌, nat_lt, Bool, true, false, ◌&&◌, ◌||◌, not, List, [], None, Some, refl, sym, ap, ◌∙◌, arith}
use Rattle.std.proofs.lemmas.Bool.{and_right, eq-eqb, ne_eqb, or_from}
use Rattle.std.specs.List.{list_all}
use Rattle.sg_plan.specs.declared.plan.Side.TheVariants as side
use Rattle.sg_plan.specs.Ballots.{entries_of}
use Rattle.sg_plan.specs.Limits.{fault_of}
use Rattle.sg_plan.specs.declared.plan.Draw.{Draw}
use Rattle.sg_plan.specs.declared.plan.Plan.{Plan}
use Rattle.sg_tables.proofs.TableLaws.{opening_laws, pointer_laws}
use Rattle.sg_tables.specs.Tables.{left_of as row_left, left_opening_of, path_of, right_opening_of}
use Rattle.sg_forms.specs.declared.line.RowOpening.{RowOpening}
use Rattle.sg_forms.specs.declared.line.RowOpening.TheVariants as row
use Rattle.sg_grammar.specs.Placed.{Placed}
use Rattle.sg_grammar.specs.Placed.Placed.{RowAt}
use Rattle.sg_record.specs.Places.{places_in}
use Rattle.sg_check.specs.Completions.{IsHalfOf}
use Rattle.sg_check.specs.Facts.{is_flagged, is_marked as posted_marked, is_set as posted_set, opened_on}
use Rattle.sg_check.specs.Kinds.{bad_placed, differ}
use Rattle.sg_check.specs.inside.BySide.{wrong_flag_on}
use Rattle.sg_check.specs.declared.judged.Kind.TheVariants as kind
use Rattle.sg_post.specs.Fits.{claim_fits, fates_fit}
use Rattle.sg_post.specs.Marks.{flag_of, is_entry_marked, is_place_set}
use Rattle.sg_post.specs.Posted.{posted_record}
use Rattle.sg_post.specs.declared.story.Claimed.{Claimed}
use Rattle.sg_post.specs.declared.story.Told.{Told}
use Rattle.sg_facts.proofs.Rising.{IsFront, flagged-kept, marked-kept, record-good, set-kept}
use Rattle.sg_accepted.proofs.Any.{any-number}
use Rattle.sg_accepted.proofs.Late.{Good}
use Rattle.sg_accepted.proofs.Opening.{OpensRow, opened-opens}
use Rattle.sg_accepted.proofs.Posted.{SaysRight, all-right, flag_is, marked_is, set_is}

-- the place of an entry is set exactly where the entry is marked
pub set-marked : (plan : Plan) (seed : List ℕ) (fates : List Told) (race entry : ℕ) → entry < entries_of plan race
    → is_place_set plan seed fates race (path_of plan seed race entry) ≡ is_entry_marked plan seed fates race entry
unfolding is_place_set
set-marked plan seed fates race entry within =
    let paths = pointer_laws.paths plan seed race in
    any-number (λ e. path_of plan seed race e == path_of plan seed race entry && is_entry_marked plan seed fates race e) (entries_of plan race) entry within
    (λ k below other. ap (λ (b : Bool). b && is_entry_marked plan seed fates race k) (ne_eqb (path_of plan seed race k) (path_of plan seed race entry) (λ same. other (paths.one k entry below within same))))
    ∙ ap (λ (b : Bool). b && is_entry_marked plan seed fates race entry) (eq-eqb (path_of plan seed race entry) (path_of plan seed race entry) refl)

pub same-differ : (a b : Bool) → a ≡ b → differ a b ≡ false
same-differ true b e = ap not (sym e)
same-differ false b e = sym e

module _ (plan : Plan) (seed : List ℕ) (fates : List Told) (draw : Draw) (claims : List Claimed) (fine : fault_of plan ≡ None) (fit : fates_fit plan 0 fates ≡ true) where
  abbrev lines : List Placed
  lines = places_in (posted_record plan seed fates draw claims)

  module _ (before : List Placed) (race instance number : ℕ) (opening : RowOpening) (front : IsFront lines before (RowAt race instance number opening)) (within : IsHalfOf plan race instance number) where
    abbrev entry : ℕ
    entry = row_left plan seed race instance number

    below : row_left plan seed race instance number < entries_of plan race
    below = (pointer_laws.lefts plan seed race instance).below number within.2

    -- the flag before the row tells whether its entry is marked
    flagged : is_flagged race instance number before ≡ is_entry_marked plan seed fates race entry
    unfolding flag_of
    flagged = flagged-kept lines before (RowAt race instance number opening) front (omega arith) race instance number ∙ flag_is plan seed fates draw claims race instance number within

    left_fine : wrong_flag_on side.Left plan before race (is_flagged race instance number before) (Some (left_opening_of plan seed race instance number)) ≡ false
    left_fine =
        let pointer = (left_opening_of plan seed race instance number).value in
        and_right (nat_lt pointer (entries_of plan race)) _
        (same-differ (is_flagged race instance number before) (posted_marked plan race pointer before)
        (flagged
        ∙ sym (ap (λ (e : ℕ). posted_marked plan race e before) (opening_laws.left plan seed race instance number)
        ∙ (marked-kept lines before (RowAt race instance number opening) front (omega arith) plan race entry ∙ marked_is plan seed fates draw claims fine fit race entry within.0))))

    right_fine : wrong_flag_on side.Right plan before race (is_flagged race instance number before) (Some (right_opening_of plan seed race instance number)) ≡ false
    right_fine =
        let pointer = (right_opening_of plan seed race instance number).value in
        let path = path_of plan seed race entry in
        and_right (nat_lt pointer (entries_of plan race)) _
        (same-differ (is_flagged race instance number before) (posted_set race pointer before)
        (flagged
        ∙ sym (ap (λ (s : ℕ). posted_set race s before) (opening_laws.right plan seed race instance number ∙ pointer_laws.composed plan seed race instance number)
        ∙ (set-kept lines before (RowAt race instance number opening) front (omega arith) race path
        ∙ (set_is plan seed fates draw claims race path within.0 ((pointer_laws.paths plan seed race).below entry below) ∙ set-marked plan seed fates race entry below)))))

    row-fine : (opened : RowOpening) → OpensRow plan seed race instance number opened
        → (wrong_flag_on side.Left plan before race (is_flagged race instance number before) (opened_on side.Left opened) || wrong_flag_on side.Right plan before race (is_flagged race instance number before) (opened_on side.Right opened)) ≡ false
    row-fine (row.Left o) is = rw is (or_from _ false left_fine refl)
    row-fine (row.Right o) is = rw is right_fine
    row-fine (row.Both o p) is = rw (is.0, is.1) (or_from _ _ left_fine right_fine)

  flag-good : (before : List Placed) (line : Placed) → IsFront lines before line → SaysRight plan seed fates draw line → bad_placed kind.Flag plan before line ≡ false
  flag-good before (RowAt race instance number opening) front right = row-fine before race instance number opening front right.0 opening (rw right.1 (opened-opens plan seed fates draw race instance number))
  flag-good before line front right = refl

  pub flags-whole : list_all (claim_fits plan) claims ≡ true → Good (bad_placed kind.Flag plan) [] lines
  flags-whole claimed = record-good (bad_placed kind.Flag plan) (SaysRight plan seed fates draw) (posted_record plan seed fates draw claims) flag-good (all-right plan seed fates draw claims fine fit claimed)
