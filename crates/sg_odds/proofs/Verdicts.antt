-- Where the verdict is yes, the coins of the draw get yes.
use Rattle.std.proofs.Common.{◌≡◌, ℕ, true, false, List, [], ◌∷◌, ◌++◌, Option, Some, None, refl, sym, subst, ap, ◌∙◌, append_assoc}
use Rattle.std.specs.List.{list_any}
use Rattle.std.specs.Option.{option_map, option_map_or}
use Rattle.std.proofs.lemmas.Bool.{and_from, or_parts}
use Rattle.sg_forms.specs.Reading.{bytes_of_digits}
use Rattle.sg_forms.specs.declared.line.RowOpening.{RowOpening}
use Rattle.sg_plan.specs.declared.plan.Side.{Side}
use Rattle.sg_grammar.proofs.Lists.{apart-behind}
use Rattle.sg_grammar.specs.Lines.{IsAmong}
use Rattle.sg_grammar.specs.Parting.{Apart, None_of, clash, is_before_rows, is_row_at}
use Rattle.sg_grammar.specs.Placed.{Placed}
use Rattle.sg_grammar.specs.Placed.Placed.{DrawnFull, DrawnPublic, RowAt}
use Rattle.sg_record.specs.Lines.{texts_in}
use Rattle.sg_record.specs.Places.{behind_record, places_in, walk_of}
use Rattle.sg_record.specs.declared.record.Record.{Record}
use Rattle.sg_check.proofs.FineLines.{sides_are_drawn}
use Rattle.sg_check.proofs.Fronts.{given-before}
use Rattle.sg_check.proofs.Rows.{none_behind_row}
use Rattle.sg_check.specs.Completions.{Completion, OpensNoneTwice}
use Rattle.sg_check.specs.Facts.{draws_digits, draws_full, first_given, is_both, is_full_draw, public_bytes}
use Rattle.sg_check.specs.Laws.{AreSidesDrawn}
use Rattle.sg_fronts.proofs.OfRecord.{apart, parts, placed}
use Rattle.sg_parts.proofs.Accepting.{agree, fine}
use Rattle.sg_parts.specs.Given.{IsAccepted}
use Rattle.sg_odds.specs.Coins.{GetsYes, are_on_coins, before_draw, coins_of}
use Rattle.sg_odds.specs.Odds.{FullGetsYes, YesGetsYes}
use Rattle.sg_odds.proofs.InOrder.{coins_fit}
use Rattle.sg_odds.proofs.Rows.{rows_long}

-- no draw stands behind a row
no_draw : (line : Placed) → is_before_rows line ≡ false → draws_digits line ≡ None
no_draw (DrawnPublic digits) e = cc
no_draw line e = refl

no_draws : (race instance row : ℕ) (opening : RowOpening) (lines : List Placed) → None_of (clash (RowAt race instance row opening)) lines → first_given draws_digits lines ≡ None
no_draws race instance row opening [] none = refl
no_draws race instance row opening (line ∷ lines) none =
    let parts = or_parts (clash (RowAt race instance row opening) line) (list_any (clash (RowAt race instance row opening)) lines) none in
    ap (λ (o : Option (List ℕ)). option_map_or Some o (first_given draws_digits lines)) (no_draw line (or_parts (is_before_rows line) (is_row_at race instance row line) parts.0).0)
    ∙ no_draws race instance row opening lines parts.1

module _ (lines : List Placed) (apart : Apart clash lines) (drawn : AreSidesDrawn lines) (public : List ℕ) (is_public : public_bytes lines ≡ Some public) where
  -- the draw stands before each row
  before_row : (front rest : List Placed) (race instance row : ℕ) (opening : RowOpening) → lines ≡ front ++ RowAt race instance row opening ∷ rest → public_bytes front ≡ Some public
  before_row front rest race instance row opening is =
      let behind = apart-behind clash front rest (RowAt race instance row opening) (subst (λ (l : List Placed). Apart clash l) is apart) in
      sym (ap (λ (o : Option (List ℕ)). option_map bytes_of_digits o) (given-before draws_digits front (RowAt race instance row opening ∷ rest) (no_draws race instance row opening rest behind)))
      ∙ (sym (ap public_bytes is) ∙ is_public)

  -- and so each is on the side of its coin
  on_coins : (front rest : List Placed) → lines ≡ front ++ rest → are_on_coins rest (coins_of public rest) ≡ true
  on_coins front [] is = refl
  on_coins front (RowAt race instance row opening ∷ rest) is =
      and_from _ (are_on_coins rest (coins_of public rest)) (drawn.coin front rest race instance row opening public is (before_row front rest race instance row opening is))
      (on_coins (front ++ RowAt race instance row opening ∷ []) rest (is ∙ sym (append_assoc front (RowAt race instance row opening ∷ []) rest)))
  on_coins front (line ∷ rest) is = on_coins (front ++ line ∷ []) rest (is ∙ sym (append_assoc front (line ∷ []) rest))

-- no more does a full draw, which opens each row on both sides
not_full : (line : Placed) → is_before_rows line ≡ false → draws_full line ≡ false
not_full DrawnFull e = cc
not_full line e = refl

module _ (posted : Record) (accepted : IsAccepted posted) where
  abbrev lines : List Placed
  lines = places_in posted

  apart_lines : Apart clash (places_in posted)
  apart_lines = apart posted accepted.words accepted.formed

  drawn_sides : AreSidesDrawn (places_in posted)
  drawn_sides = subst (λ (l : List Placed). AreSidesDrawn l) (placed posted accepted.words accepted.formed) (sides_are_drawn (texts_in posted) (walk_of posted) (fine posted accepted))

  gets : (completion : Completion) (coins : List Side) → OpensNoneTwice (places_in posted) completion → are_on_coins (places_in posted) coins ≡ true → GetsYes (before_draw (places_in posted)) completion coins
  gets completion coins opens on = record {
    posted = posted;
    words = accepted.words;
    formed = accepted.formed;
    begins = refl;
    opens = opens;
    keeps = λ k other. agree posted accepted k;
    sides = on;
  }

  pub all_both : is_full_draw lines ≡ true → (race instance row : ℕ) (opening : RowOpening) → IsAmong lines (RowAt race instance row opening) → is_both opening ≡ true
  all_both full race instance row opening (front, rest, is) =
      let before = sym (none_behind_row draws_full front rest race instance row opening (subst (λ (l : List Placed). Apart clash l) is apart_lines) not_full) in
      drawn_sides.full front rest race instance row opening is (before ∙ (sym (ap (list_any draws_full) is) ∙ full))

pub yes_gets_yes : YesGetsYes
yes_gets_yes posted accepted public is_public completion opens =
    gets posted accepted completion (coins_of public (places_in posted)) opens
    (on_coins (places_in posted) (apart_lines posted accepted) (drawn_sides posted accepted) public is_public [] (places_in posted) refl)

pub full_gets_yes : FullGetsYes
full_gets_yes posted accepted full completion opens coins long =
    gets posted accepted completion coins opens
    (coins_fit (places_in posted) (behind_record posted) (parts posted accepted.words accepted.formed) refl (all_both posted accepted full) coins (long ∙ sym (rows_long posted.plan)))
