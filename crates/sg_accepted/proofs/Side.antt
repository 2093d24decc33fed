-- Kind side: each row is opened on the sides that the draw says.
use Rattle.std.proofs.Common.{◌≡◌, ℕ, Bool, true, false, ◌&&◌, ◌||◌, not, cond, List, [], Option, Some, None, refl, ap, ◌∙◌, arith}
use Rattle.std.proofs.Math.Bool.{and-false}
use Rattle.std.specs.List.{list_all}
use Rattle.std.specs.Option.{option_map, option_map_or}
use Rattle.sg_plan.specs.Limits.{fault_of}
use Rattle.sg_plan.specs.declared.plan.Draw.{Draw}
use Rattle.sg_plan.specs.declared.plan.Draw.TheVariants as drawn
use Rattle.sg_plan.specs.declared.plan.Plan.{Plan}
use Rattle.sg_plan.specs.declared.plan.Side.{Side}
use Rattle.sg_plan.specs.declared.plan.Side.TheVariants as side
use Rattle.sg_lines.specs.Words.{encode_lower}
use Rattle.sg_streams.specs.CoinSides.{coin_of, coin_seed}
use Rattle.sg_tables.specs.Tables.{left_of as row_left}
use Rattle.sg_forms.proofs.Drawn.{spelled_are_public}
use Rattle.sg_forms.proofs.WordKinds.{bytes_everywhere}
use Rattle.sg_forms.specs.Reading.{bytes_of_digits}
use Rattle.sg_forms.specs.declared.line.RowOpening.{RowOpening}
use Rattle.sg_grammar.specs.Placed.{Placed}
use Rattle.sg_grammar.specs.Placed.Placed.{RowAt}
use Rattle.sg_check.specs.Facts.{draws_digits, draws_full, first_given, is_both, is_full_draw, public_bytes}
use Rattle.sg_check.specs.Kinds.{bad_placed, is_on_side}
use Rattle.sg_check.specs.declared.judged.Kind.TheVariants as kind
use Rattle.sg_record.specs.Typed.{AreDrawn}
use Rattle.sg_post.specs.Fits.{claim_fits, fates_fit}
use Rattle.sg_post.specs.Marks.{is_entry_audited}
use Rattle.sg_post.specs.Posted.{both_sides, one_side, opened_row, posted_record}
use Rattle.sg_post.specs.declared.story.Claimed.{Claimed}
use Rattle.sg_post.specs.declared.story.Told.{Told}
use Rattle.sg_accepted.proofs.Late.{Good}
use Rattle.sg_record.specs.Places.{places_in}
use Rattle.sg_record.specs.Tree.{as_place, draw_leaf}
use Rattle.sg_facts.proofs.Facts.{digits_are, full_draw_is}
use Rattle.sg_facts.proofs.Rising.{IsFront, digits-kept, full_draw-kept, record-good}
use Rattle.sg_accepted.proofs.Posted.{SaysRight, all-right}

-- one side, or both, is on the side of the coin
on_side : (plan : Plan) (seed : List ℕ) (race instance number : ℕ) (s : Side) (b : Bool) → is_on_side s (cond b (both_sides plan seed race instance number) (one_side plan seed race instance number s)) ≡ true
on_side plan seed race instance number side.Left true = refl
on_side plan seed race instance number side.Left false = refl
on_side plan seed race instance number side.Right true = refl
on_side plan seed race instance number side.Right false = refl

row-sided : (plan : Plan) (seed : List ℕ) (fates : List Told) (draw : Draw) (before : List Placed) (race instance number : ℕ) → AreDrawn draw
    → is_full_draw before ≡ draws_full (draw_leaf as_place draw) → first_given draws_digits before ≡ draws_digits (draw_leaf as_place draw)
    → bad_placed kind.Side plan before (RowAt race instance number (opened_row plan seed fates draw race instance number)) ≡ false
unfolding opened_row
row-sided plan seed fates drawn.Full before race instance number are full digits =
    let none : public_bytes before ≡ None = ap (option_map bytes_of_digits) digits in
    ap (λ (b : Bool). b || option_map_or (λ public. not (is_on_side (coin_of (coin_seed public) race instance number) (both_sides plan seed race instance number))) (public_bytes before) false) (and-false (is_full_draw before))
    ∙ ap (λ (o : Option (List ℕ)). option_map_or (λ public. not (is_on_side (coin_of (coin_seed public) race instance number) (both_sides plan seed race instance number))) o false) none
row-sided plan seed fates (drawn.Public bytes) before race instance number are full digits =
    let opening : RowOpening = opened_row plan seed fates (drawn.Public bytes) race instance number in
    let some : public_bytes before ≡ Some bytes = ap (option_map bytes_of_digits) digits ∙ ap (λ (l : List ℕ). Some l) (spelled_are_public (encode_lower bytes) bytes (bytes_everywhere bytes are) refl) in
    ap (λ (b : Bool). (b && not (is_both opening)) || option_map_or (λ public. not (is_on_side (coin_of (coin_seed public) race instance number) opening)) (public_bytes before) false) full
    ∙ (ap (λ (o : Option (List ℕ)). option_map_or (λ public. not (is_on_side (coin_of (coin_seed public) race instance number) opening)) o false) some
    ∙ ap not (on_side plan seed race instance number (coin_of (coin_seed bytes) race instance number) (is_entry_audited plan fates race (row_left plan seed race instance number))))

module _ (plan : Plan) (seed : List ℕ) (fates : List Told) (draw : Draw) (claims : List Claimed) (are : AreDrawn draw) where
  abbrev lines : List Placed
  lines = places_in (posted_record plan seed fates draw claims)

  side-good : (before : List Placed) (line : Placed) → IsFront lines before line → SaysRight plan seed fates draw line → bad_placed kind.Side plan before line ≡ false
  side-good before (RowAt race instance number opening) front right =
      ap (λ (o : RowOpening). bad_placed kind.Side plan before (RowAt race instance number o)) right.1
      ∙ row-sided plan seed fates draw before race instance number are (full_draw-kept lines before (RowAt race instance number opening) front (omega arith) ∙ full_draw_is (posted_record plan seed fates draw claims))
      (digits-kept lines before (RowAt race instance number opening) front (omega arith) ∙ digits_are (posted_record plan seed fates draw claims))
  side-good before line front right = refl

  pub sides-whole : fault_of plan ≡ None → fates_fit plan 0 fates ≡ true → list_all (claim_fits plan) claims ≡ true → Good (bad_placed kind.Side plan) [] lines
  sides-whole fine fit claimed = record-good (bad_placed kind.Side plan) (SaysRight plan seed fates draw) (posted_record plan seed fates draw claims) side-good (all-right plan seed fates draw claims fine fit claimed)
