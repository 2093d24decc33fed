-- Kind pointer: posted pointers are below n, and no two rows of an instance open the same one on a side.
use Rattle.std.proofs.Common.{◌≡◌, ◌≢◌, ℕ, ◌==◌, nat_le, false, ◌&&◌, List, [], Some, refl, sym, ◌∙◌, arith}
use Rattle.std.proofs.lemmas.Bool.{and_left, and_right, ne_eqb, or_from, lt-leb}
use Rattle.std.specs.List.{list_any}
use Rattle.sg_lists.proofs.Each.{EachOf}
use Rattle.sg_plan.specs.declared.plan.Side.TheVariants as side
use Rattle.sg_plan.specs.Ballots.{entries_of}
use Rattle.sg_plan.specs.declared.plan.Draw.{Draw}
use Rattle.sg_plan.specs.declared.plan.Plan.{Plan}
use Rattle.sg_tables.proofs.TableLaws.{opening_laws, pointer_laws}
use Rattle.sg_tables.specs.Tables.{left_of as row_left, left_opening_of, right_of as row_right, right_opening_of}
use Rattle.sg_forms.specs.declared.line.RowOpening.{RowOpening}
use Rattle.sg_forms.specs.declared.line.RowOpening.TheVariants as row
use Rattle.sg_grammar.specs.Placed.{Placed}
use Rattle.sg_grammar.specs.Placed.Placed.{RowAt}
use Rattle.sg_record.specs.Places.{places_in}
use Rattle.sg_record.specs.declared.record.Record.{Record}
use Rattle.sg_check.specs.Completions.{IsHalfOf}
use Rattle.sg_check.specs.Facts.{opened_on, opens_pointer, points_to}
use Rattle.sg_check.specs.inside.BySide.{bad_pointer_on}
use Rattle.sg_check.specs.Kinds.{bad_placed}
use Rattle.sg_check.specs.declared.judged.Kind.TheVariants as kind
use Rattle.sg_post.specs.Posted.{opened_row, posted_record}
use Rattle.sg_post.specs.declared.story.Claimed.{Claimed}
use Rattle.sg_post.specs.declared.story.Told.{Told}
use Rattle.sg_facts.proofs.Rising.{IsFront, record-good}
use Rattle.sg_accepted.proofs.Any.{none-below}
use Rattle.sg_accepted.proofs.Late.{Good}
use Rattle.sg_accepted.proofs.Opening.{OpensRow, opened-opens}
use Rattle.sg_accepted.proofs.Posted.{SaysRight}
use Rattle.sg_accepted.proofs.Rows.{any-earlier, in_instance, opened}

-- a row with another left pointer does not open this one, nor one with another right pointer
left-other : (plan : Plan) (seed : List ℕ) (race instance number v : ℕ) (opening : RowOpening) → OpensRow plan seed race instance number opening → row_left plan seed race instance number ≢ v → points_to v (opened_on side.Left opening) ≡ false
left-other plan seed race instance number v (row.Left o) is other = rw is (ne_eqb (left_opening_of plan seed race instance number).value v (λ e. other (sym (opening_laws.left plan seed race instance number) ∙ e)))
left-other plan seed race instance number v (row.Right o) is other = refl
left-other plan seed race instance number v (row.Both o p) is other = rw is.0 (ne_eqb (left_opening_of plan seed race instance number).value v (λ e. other (sym (opening_laws.left plan seed race instance number) ∙ e)))

right-other : (plan : Plan) (seed : List ℕ) (race instance number v : ℕ) (opening : RowOpening) → OpensRow plan seed race instance number opening → row_right plan seed race instance number ≢ v → points_to v (opened_on side.Right opening) ≡ false
right-other plan seed race instance number v (row.Left o) is other = refl
right-other plan seed race instance number v (row.Right o) is other = rw is (ne_eqb (right_opening_of plan seed race instance number).value v (λ e. other (sym (opening_laws.right plan seed race instance number) ∙ e)))
right-other plan seed race instance number v (row.Both o p) is other = rw is.1 (ne_eqb (right_opening_of plan seed race instance number).value v (λ e. other (sym (opening_laws.right plan seed race instance number) ∙ e)))

module _ (plan : Plan) (seed : List ℕ) (fates : List Told) (draw : Draw) (claims : List Claimed) (right : EachOf (SaysRight plan seed fates draw) (places_in (posted_record plan seed fates draw claims))) where
  abbrev posted : Record
  posted = posted_record plan seed fates draw claims

  abbrev lines : List Placed
  lines = places_in posted

  module _ (before : List Placed) (race instance number : ℕ) (opening : RowOpening) (front : IsFront lines before (RowAt race instance number opening)) (within : IsHalfOf plan race instance number) where
    -- an earlier row has another pointer
    left-none : list_any (opens_pointer side.Left race instance (row_left plan seed race instance number)) before ≡ false
    left-none =
        any-earlier plan seed fates draw claims race instance before number opening front within (opens_pointer side.Left race instance (row_left plan seed race instance number)) only
        ∙ none-below (λ n. opens_pointer side.Left race instance (row_left plan seed race instance number) (opened plan seed fates draw claims race instance n)) number
        (λ n less. and_right (race == race && instance == instance) _
        (left-other plan seed race instance n (row_left plan seed race instance number) (opened_row plan seed fates draw race instance n) (opened-opens plan seed fates draw race instance n)
        (λ same. let one : n ≡ number = (pointer_laws.lefts plan seed race instance).one n number (omega (arith, less, within.2)) within.2 same in omega (arith, one, less))))
      where
        only : (line : Placed) → in_instance race instance line ≡ false → opens_pointer side.Left race instance (row_left plan seed race instance number) line ≡ false
        only (RowAt of i n o) is = and_left (of == race && i == instance) _ is
        only line is = refl

    right-none : list_any (opens_pointer side.Right race instance (row_right plan seed race instance number)) before ≡ false
    right-none =
        any-earlier plan seed fates draw claims race instance before number opening front within (opens_pointer side.Right race instance (row_right plan seed race instance number)) only
        ∙ none-below (λ n. opens_pointer side.Right race instance (row_right plan seed race instance number) (opened plan seed fates draw claims race instance n)) number
        (λ n less. and_right (race == race && instance == instance) _
        (right-other plan seed race instance n (row_right plan seed race instance number) (opened_row plan seed fates draw race instance n) (opened-opens plan seed fates draw race instance n)
        (λ same. let one : n ≡ number = (pointer_laws.rights plan seed race instance).one n number (omega (arith, less, within.2)) within.2 same in omega (arith, one, less))))
      where
        only : (line : Placed) → in_instance race instance line ≡ false → opens_pointer side.Right race instance (row_right plan seed race instance number) line ≡ false
        only (RowAt of i n o) is = and_left (of == race && i == instance) _ is
        only line is = refl

    left-fine : bad_pointer_on side.Left plan before race instance (Some (left_opening_of plan seed race instance number)) ≡ false
    left-fine =
        rw (opening_laws.left plan seed race instance number)
        (or_from (nat_le (entries_of plan race) (row_left plan seed race instance number)) _ (lt-leb (entries_of plan race) (row_left plan seed race instance number) ((pointer_laws.lefts plan seed race instance).below number within.2)) left-none)

    right-fine : bad_pointer_on side.Right plan before race instance (Some (right_opening_of plan seed race instance number)) ≡ false
    right-fine =
        rw (opening_laws.right plan seed race instance number)
        (or_from (nat_le (entries_of plan race) (row_right plan seed race instance number)) _ (lt-leb (entries_of plan race) (row_right plan seed race instance number) ((pointer_laws.rights plan seed race instance).below number within.2)) right-none)

    row-fine : OpensRow plan seed race instance number opening → bad_placed kind.Pointer plan before (RowAt race instance number opening) ≡ false
    row-fine is = at_opening opening is
      where
        at_opening : (o : RowOpening) → OpensRow plan seed race instance number o → bad_placed kind.Pointer plan before (RowAt race instance number o) ≡ false
        at_opening (row.Left o) is = rw is (or_from _ false left-fine refl)
        at_opening (row.Right o) is = rw is right-fine
        at_opening (row.Both o p) is = rw (is.0, is.1) (or_from _ _ left-fine right-fine)

  pointer-good : (before : List Placed) (line : Placed) → IsFront lines before line → SaysRight plan seed fates draw line → bad_placed kind.Pointer plan before line ≡ false
  pointer-good before (RowAt race instance number opening) front is = row-fine before race instance number opening front is.0 (rw is.1 (opened-opens plan seed fates draw race instance number))
  pointer-good before line front is = refl

  pub pointers-whole : Good (bad_placed kind.Pointer plan) [] lines
  pointers-whole = record-good (bad_placed kind.Pointer plan) (SaysRight plan seed fates draw) posted pointer-good right
