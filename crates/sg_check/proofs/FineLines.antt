-- What fine lines are, line by line.
use Rattle.std.proofs.Common.{◌≡◌, ◌≢◌, ℕ, ◌/◌, ◌%◌, ◌<◌, ◌==◌, nat_le, nat_lt, Bool, true, false, ◌&&◌, ◌||◌, cond, List, [], ◌∷◌, ◌++◌, Option, Some, None, refl, sym, ap, ◌∙◌, append_assoc, ◌+◌}
use Rattle.std.proofs.lemmas.Bool.{eq-eqb, eqb-true, lt-ltb, and_from, not-false, leb-false, eqb-false, ne_eqb, or_parts}
use Rattle.std.specs.List.{list_any}
use Rattle.std.specs.Option.{option_map_or}
use Rattle.std.specs.Prelude.{is_some, not}
use Rattle.std.proofs.lemmas.List.Sums.{sum_by_push}
use Rattle.sg_streams.specs.CoinSides.{coin_of, coin_seed}
use Rattle.sg_commit.specs.declared.CommitKind.{CommitKind}
use Rattle.sg_commit.specs.declared.Digest.{Digest}
use Rattle.sg_grammar.specs.Lines.{IsAmong, placed_of}
use Rattle.sg_check.proofs.AllKinds.{none_late}
use Rattle.sg_check.proofs.Judging.{walked-least}
use Rattle.sg_check.proofs.Late.{Fails, IsOfPlaces, fails_at}
use Rattle.sg_check.proofs.OneMore.{fine-all}
use Rattle.sg_check.specs.Facts.{audited_code, audited_entries, both_rows, is_audited, is_both, is_flagged, is_full_draw, is_marked, is_set, half_commitment, opened_on, opens_both, opens_pointer, paper_code, points_to, public_bytes, votes_for}
use Rattle.sg_check.specs.Kinds.{clashes_with, differ, is_on_side, is_there, opens_digest, shows_against, wrong_audit, wrong_number}
use Rattle.sg_check.specs.inside.BySide.{bad_pointer_on, bad_pointer_opening, wrong_flag_on}
use Rattle.sg_check.specs.Laws.{AreCodesKnown, ArePointersOnce, AreSidesDrawn, AreTotalsCounted, CodesAreKnown, DoFlagsAgree, DoOpeningsOpen, DoPathsAgree, DoPrintsAgree, FlagsAgree, IsBefore, IsFineWalk, OpeningsOpen, PathsAgree, PointersStandOnce, PrintsAgree, SidesAreDrawn, TotalsCount}
use Rattle.sg_check.specs.declared.judged.Kind.{Kind}
use Rattle.sg_check.specs.declared.judged.Kind.TheVariants as kind
use Rattle.sg_commit.specs.declared.CommitKind.TheVariants as commit
use Rattle.sg_commit.specs.declared.Opening.{Opening}
use Rattle.sg_forms.specs.declared.line.CodeLine.{CodeLine}
use Rattle.sg_forms.specs.declared.line.RowOpening.{RowOpening}
use Rattle.sg_forms.specs.declared.line.RowOpening.TheVariants as opened
use Rattle.sg_grammar.specs.Placed.{Placed}
use Rattle.sg_grammar.specs.Placed.Placed.{CodeAt, RowAt, TotalAt}
use Rattle.sg_grammar.specs.Walk.{Walked}
use Rattle.sg_grammar.specs.declared.state.Block.{Block}
use Rattle.sg_plan.specs.declared.plan.Side.TheVariants as side
use Rattle.sg_plan.specs.Ballots.{candidates_of, entries_of}
use Rattle.sg_plan.specs.declared.plan.Plan.{Plan}

-- TESTS

not_both : (a b : Bool) → a ≡ true → (a && b) ≡ false → b ≡ false
not_both true b p e = e
not_both false b p e = cc

cond_then : (b x y : Bool) → b ≡ true → cond b x y ≡ false → x ≡ false
cond_then true x y p e = e
cond_then false x y p e = cc

cond_else : (b x y : Bool) → b ≡ false → cond b x y ≡ false → y ≡ false
cond_else true x y p e = cc
cond_else false x y p e = e

same_test : (a b : Bool) → differ a b ≡ false → a ≡ b
same_test true b e = sym (not-false b e)
same_test false b e = sym e

there_is : (found : Option ℕ) (value : ℕ) → is_there found value ≡ true → found ≡ Some value
there_is None value e = cc
there_is (Some f) value e = ap (λ (n : ℕ). Some n) (eqb-true f value e)

-- ONE AMONG OTHERS

any_at : {A : Type 0} (p : A → Bool) (front rest : List A) (x : A) → list_any p (front ++ x ∷ rest) ≡ false → p x ≡ false
any_at p [] rest x e = (or_parts (p x) (list_any p rest) e).0
any_at p (y ∷ front) rest x e = any_at p front rest x (or_parts (p y) (list_any p (front ++ x ∷ rest)) e).1

-- of two lines, the later is judged against the earlier
later_parts : (lines front between rest : List Placed) (line later : Placed) → lines ≡ front ++ line ∷ (between ++ later ∷ rest) → lines ≡ (front ++ line ∷ between) ++ later ∷ rest
later_parts lines front between rest line later is = is ∙ sym (append_assoc front (line ∷ between) (later ∷ rest))

-- CODES

module _ (plan : Plan) (lines : List Placed) (rule : Fails kind.Rule plan lines) where
  -- the later code is not against the earlier one
  against : (block other_block : Block) (ballot race column other_column : ℕ) (code other : CodeLine)
      → IsBefore lines (CodeAt block ballot race column code) (CodeAt other_block ballot race other_column other)
      → cond (column == other_column) (not (code.code == other.code)) (code.code == other.code) ≡ false
  against block other_block ballot race column other_column code other (front, between, rest, is) =
      let good = rule (front ++ CodeAt block ballot race column code ∷ between) rest (CodeAt other_block ballot race other_column other) (later_parts lines front between rest _ _ is) in
      let none = any_at (shows_against ballot race other_column other.code) front between (CodeAt block ballot race column code) (or_parts _ _ good).1 in
      not_both ((ballot == ballot) && (race == race)) _ (and_from (ballot == ballot) (race == race) (eq-eqb ballot ballot refl) (eq-eqb race race refl)) none

  codes_known : AreCodesKnown plan lines
  codes_known = record {
    same = λ block other_block ballot race column code other before.
        eqb-true code.code other.code (not-false (code.code == other.code)
        (cond_then (column == column) _ _ (eq-eqb column column refl) (against block other_block ballot race column column code other before)));
    differ = λ block other_block ballot race column other_column code other before apart.
        eqb-false code.code other.code (cond_else (column == other_column) _ _ (ne_eqb column other_column apart) (against block other_block ballot race column other_column code other before));
  }

-- POINTERS

module _ (plan : Plan) (lines : List Placed) (pointer : Fails kind.Pointer plan lines) where
  left_good : (front rest : List Placed) (race instance row : ℕ) (opening : RowOpening) (left : Opening) → lines ≡ front ++ RowAt race instance row opening ∷ rest → opened_on side.Left opening ≡ Some left
      → (nat_le (entries_of plan race) left.value || list_any (opens_pointer side.Left race instance left.value) front) ≡ false
  left_good front rest race instance row opening left is of =
      sym (ap (bad_pointer_on side.Left plan front race instance) of) ∙ (or_parts _ _ (pointer front rest (RowAt race instance row opening) is)).0

  right_good : (front rest : List Placed) (race instance row : ℕ) (opening : RowOpening) (right : Opening) → lines ≡ front ++ RowAt race instance row opening ∷ rest → opened_on side.Right opening ≡ Some right
      → (nat_le (entries_of plan race) right.value || list_any (opens_pointer side.Right race instance right.value) front) ≡ false
  right_good front rest race instance row opening right is of =
      sym (ap (bad_pointer_on side.Right plan front race instance) of) ∙ (or_parts _ _ (pointer front rest (RowAt race instance row opening) is)).1

  left_below : (race instance row : ℕ) (opening : RowOpening) (left : Opening) → IsAmong lines (RowAt race instance row opening) → opened_on side.Left opening ≡ Some left → left.value < entries_of plan race
  left_below race instance row opening left (front, rest, is) of = leb-false (entries_of plan race) left.value (or_parts _ _ (left_good front rest race instance row opening left is of)).0

  right_below : (race instance row : ℕ) (opening : RowOpening) (right : Opening) → IsAmong lines (RowAt race instance row opening) → opened_on side.Right opening ≡ Some right → right.value < entries_of plan race
  right_below race instance row opening right (front, rest, is) of = leb-false (entries_of plan race) right.value (or_parts _ _ (right_good front rest race instance row opening right is of)).0

  left_differ : (race instance row other_row : ℕ) (opening other : RowOpening) (left other_left : Opening) → IsBefore lines (RowAt race instance row opening) (RowAt race instance other_row other)
      → opened_on side.Left opening ≡ Some left → opened_on side.Left other ≡ Some other_left → left.value ≢ other_left.value
  left_differ race instance row other_row opening other left other_left (front, between, rest, is) of other_of =
      let good = left_good (front ++ RowAt race instance row opening ∷ between) rest race instance other_row other other_left (later_parts lines front between rest _ _ is) other_of in
      let none = any_at (opens_pointer side.Left race instance other_left.value) front between (RowAt race instance row opening) (or_parts _ _ good).1 in
      eqb-false left.value other_left.value
      (sym (ap (points_to other_left.value) of) ∙ not_both ((race == race) && (instance == instance)) _ (and_from (race == race) (instance == instance) (eq-eqb race race refl) (eq-eqb instance instance refl)) none)

  right_differ : (race instance row other_row : ℕ) (opening other : RowOpening) (right other_right : Opening) → IsBefore lines (RowAt race instance row opening) (RowAt race instance other_row other)
      → opened_on side.Right opening ≡ Some right → opened_on side.Right other ≡ Some other_right → right.value ≢ other_right.value
  right_differ race instance row other_row opening other right other_right (front, between, rest, is) of other_of =
      let good = right_good (front ++ RowAt race instance row opening ∷ between) rest race instance other_row other other_right (later_parts lines front between rest _ _ is) other_of in
      let none = any_at (opens_pointer side.Right race instance other_right.value) front between (RowAt race instance row opening) (or_parts _ _ good).1 in
      eqb-false right.value other_right.value
      (sym (ap (points_to other_right.value) of) ∙ not_both ((race == race) && (instance == instance)) _ (and_from (race == race) (instance == instance) (eq-eqb race race refl) (eq-eqb instance instance refl)) none)

  pointers_once : ArePointersOnce plan lines
  pointers_once = record {
    left_below = left_below;
    right_below = right_below;
    left_differ = left_differ;
    right_differ = right_differ;
  }

  -- FLAGS

  module _ (flag : Fails kind.Flag plan lines) where
    left_agrees : (front rest : List Placed) (race instance row : ℕ) (opening : RowOpening) (left : Opening) → lines ≡ front ++ RowAt race instance row opening ∷ rest → opened_on side.Left opening ≡ Some left
        → is_flagged race instance row front ≡ is_marked plan race left.value front
    left_agrees front rest race instance row opening left is of =
        let good = sym (ap (wrong_flag_on side.Left plan front race (is_flagged race instance row front)) of) ∙ (or_parts _ _ (flag front rest (RowAt race instance row opening) is)).0 in
        same_test _ _ (not_both _ _ (lt-ltb left.value (entries_of plan race) (left_below race instance row opening left (front, rest, is) of)) good)

    right_agrees : (front rest : List Placed) (race instance row : ℕ) (opening : RowOpening) (right : Opening) → lines ≡ front ++ RowAt race instance row opening ∷ rest → opened_on side.Right opening ≡ Some right
        → is_flagged race instance row front ≡ is_set race right.value front
    right_agrees front rest race instance row opening right is of =
        let good = sym (ap (wrong_flag_on side.Right plan front race (is_flagged race instance row front)) of) ∙ (or_parts _ _ (flag front rest (RowAt race instance row opening) is)).1 in
        same_test _ _ (not_both _ _ (lt-ltb right.value (entries_of plan race) (right_below race instance row opening right (front, rest, is) of)) good)

    flags_agree : DoFlagsAgree plan lines
    flags_agree = record { left = left_agrees; right = right_agrees }

  -- PATHS

  module _ (path : Fails kind.Path plan lines) where
    -- the later row does not clash with the earlier one
    no_clash : (race instance row other_instance other_row : ℕ) (left right other_left other_right : Opening)
        → IsBefore lines (RowAt race instance row (opened.Both left right)) (RowAt race other_instance other_row (opened.Both other_left other_right))
        → cond (left.value == other_left.value) (not (right.value == other_right.value))
        (left.value / candidates_of plan race == other_left.value / candidates_of plan race && right.value % candidates_of plan race == other_right.value % candidates_of plan race) ≡ false
    no_clash race instance row other_instance other_row left right other_left other_right (front, between, rest, is) =
        let row_at = RowAt race instance row (opened.Both left right) in
        let other_at = RowAt race other_instance other_row (opened.Both other_left other_right) in
        let later = later_parts lines front between rest row_at other_at is in
        let here : IsAmong lines row_at = (front, between ++ other_at ∷ rest, is) in
        let there : IsAmong lines other_at = (front ++ row_at ∷ between, rest, later) in
        let entries = entries_of plan race in
        let low = lt-ltb left.value entries (left_below race instance row (opened.Both left right) left here refl) in
        let high = lt-ltb right.value entries (right_below race instance row (opened.Both left right) right here refl) in
        let other_low = lt-ltb other_left.value entries (left_below race other_instance other_row (opened.Both other_left other_right) other_left there refl) in
        let other_high = lt-ltb other_right.value entries (right_below race other_instance other_row (opened.Both other_left other_right) other_right there refl) in
        let good = path (front ++ row_at ∷ between) rest other_at later in
        let none = any_at (clashes_with plan race other_left.value other_right.value) front between row_at (not_both _ _ (and_from (nat_lt other_left.value entries) (nat_lt other_right.value entries) other_low other_high) good) in
        not_both _ _ (and_from (nat_lt left.value entries) (nat_lt right.value entries) low high) (not_both (race == race) _ (eq-eqb race race refl) none)

    paths_agree : DoPathsAgree plan lines
    paths_agree = record {
      same = λ race instance row other_instance other_row left right other_left other_right before one.
          eqb-true right.value other_right.value (not-false _ (cond_then (left.value == other_left.value) _ _ (eq-eqb left.value other_left.value one) (no_clash race instance row other_instance other_row left right other_left other_right before)));
      differ = λ race instance row other_instance other_row left right other_left other_right before apart ballot.
          eqb-false (right.value % candidates_of plan race) (other_right.value % candidates_of plan race)
          (not_both _ _ (eq-eqb (left.value / candidates_of plan race) (other_left.value / candidates_of plan race) ballot)
          (cond_else (left.value == other_left.value) _ _ (ne_eqb left.value other_left.value apart) (no_clash race instance row other_instance other_row left right other_left other_right before)));
    }

  -- PRINTS

  module _ (print : Fails kind.Print plan lines) where
    drawn : (front rest : List Placed) (race instance row : ℕ) (opening : RowOpening) (public : List ℕ) → lines ≡ front ++ RowAt race instance row opening ∷ rest → public_bytes front ≡ Some public
        → (wrong_audit plan front race opening || wrong_number plan front race instance row opening) ≡ false
    drawn front rest race instance row opening public is of =
        not_both (is_some (public_bytes front)) _ (ap (λ (o : Option (List ℕ)). is_some o) of) (or_parts _ _ (print front rest (RowAt race instance row opening) is)).0

    both_audited : (front rest : List Placed) (race instance row : ℕ) (left right : Opening) (public : List ℕ) → lines ≡ front ++ RowAt race instance row (opened.Both left right) ∷ rest
        → public_bytes front ≡ Some public → is_audited plan race left.value front ≡ true
    both_audited front rest race instance row left right public is of =
        let low = lt-ltb left.value (entries_of plan race) (left_below race instance row (opened.Both left right) left (front, rest, is) refl) in
        not-false _ (not_both (nat_lt left.value (entries_of plan race)) _ low (or_parts _ _ (drawn front rest race instance row (opened.Both left right) public is of)).0)

    one_unaudited : (front rest : List Placed) (race instance row : ℕ) (left : Opening) (public : List ℕ) → lines ≡ front ++ RowAt race instance row (opened.Left left) ∷ rest
        → public_bytes front ≡ Some public → is_audited plan race left.value front ≡ false
    one_unaudited front rest race instance row left public is of =
        let low = lt-ltb left.value (entries_of plan race) (left_below race instance row (opened.Left left) left (front, rest, is) refl) in
        not_both (nat_lt left.value (entries_of plan race)) _ low (or_parts _ _ (drawn front rest race instance row (opened.Left left) public is of)).0

    number_agrees : (front rest : List Placed) (race instance row : ℕ) (opening : RowOpening) (public : List ℕ) → lines ≡ front ++ RowAt race instance row opening ∷ rest
        → public_bytes front ≡ Some public → row + 1 ≡ entries_of plan race → both_rows race instance (front ++ RowAt race instance row opening ∷ []) ≡ audited_entries race front
    number_agrees front rest race instance row opening public is of last =
        let good = not_both (row + 1 == entries_of plan race) _ (eq-eqb (row + 1) (entries_of plan race) last) (or_parts _ _ (drawn front rest race instance row opening public is of)).1 in
        let here : (cond ((race == race && instance == instance) && is_both opening) 1 0) ≡ (cond (is_both opening) 1 0) =
        ap (λ (b : Bool). cond (b && is_both opening) 1 0) (and_from (race == race) (instance == instance) (eq-eqb race race refl) (eq-eqb instance instance refl)) in
        sum_by_push (λ (line : Placed). cond (opens_both race instance line) 1 0) front (RowAt race instance row opening)
        ∙ (ap (λ (n : ℕ). both_rows race instance front + n) here ∙ eqb-true _ _ (not-false _ good))

    paper_agrees : (front rest : List Placed) (race instance row : ℕ) (left right : Opening) (code : ℕ) → lines ≡ front ++ RowAt race instance row (opened.Both left right) ∷ rest
        → audited_code plan race left.value front ≡ Some code → paper_code plan race (left.value / candidates_of plan race) (right.value % candidates_of plan race) front ≡ Some code
    paper_agrees front rest race instance row left right code is of =
        let low = lt-ltb left.value (entries_of plan race) (left_below race instance row (opened.Both left right) left (front, rest, is) refl) in
        let high = lt-ltb right.value (entries_of plan race) (right_below race instance row (opened.Both left right) right (front, rest, is) refl) in
        let found = paper_code plan race (left.value / candidates_of plan race) (right.value % candidates_of plan race) front in
        let good = not_both _ _ (and_from (nat_lt left.value (entries_of plan race)) (nat_lt right.value (entries_of plan race)) low high) (or_parts _ _ (print front rest (RowAt race instance row (opened.Both left right)) is)).1 in
        there_is found code (not-false _ (sym (ap (λ (o : Option ℕ). option_map_or (λ shown. not (is_there found shown)) o false) of) ∙ good))

    prints_agree : DoPrintsAgree plan lines
    prints_agree = record {
      both = both_audited;
      one = one_unaudited;
      number = number_agrees;
      paper = paper_agrees;
    }

-- OPENINGS

opening_there : (digest : Option Digest) (k : CommitKind) (race instance place : ℕ) (opening : Option Opening) (o : Opening) → opening ≡ Some o → bad_pointer_opening digest k race instance place opening ≡ false
    → opens_digest digest k race instance place o ≡ true
opening_there digest k race instance place opening o of good =
    not-false (opens_digest digest k race instance place o) (sym (ap (λ (x : Option Opening). bad_pointer_opening digest k race instance place x) of) ∙ good)

openings_open : (plan : Plan) (lines : List Placed) → Fails kind.Opening plan lines → DoOpeningsOpen plan lines
openings_open plan lines opens = record {
  code = λ front rest block ballot race column code is. not-false _ (opens front rest (CodeAt block ballot race column code) is);
  left = λ front rest race instance row opening left is of.
      opening_there (half_commitment front side.Left race instance row) commit.L race instance row (opened_on side.Left opening) left of (or_parts _ _ (opens front rest (RowAt race instance row opening) is)).0;
  right = λ front rest race instance row opening right is of.
      opening_there (half_commitment front side.Right race instance row) commit.R race instance row (opened_on side.Right opening) right of (or_parts _ _ (opens front rest (RowAt race instance row opening) is)).1;
}

-- SIDES

sides_drawn : (plan : Plan) (lines : List Placed) → Fails kind.Side plan lines → AreSidesDrawn lines
sides_drawn plan lines sided = record {
  full = λ front rest race instance row opening is full.
      not-false (is_both opening) (not_both (is_full_draw front) _ full (or_parts _ _ (sided front rest (RowAt race instance row opening) is)).0);
  coin = λ front rest race instance row opening public is of.
      not-false (is_on_side (coin_of (coin_seed public) race instance row) opening)
      (sym (ap (λ (o : Option (List ℕ)). option_map_or (λ bytes. not (is_on_side (coin_of (coin_seed bytes) race instance row) opening)) o false) of) ∙ (or_parts _ _ (sided front rest (RowAt race instance row opening) is)).1);
}

-- TOTALS

totals_counted : (plan : Plan) (lines : List Placed) → Fails kind.Total plan lines → AreTotalsCounted plan lines
totals_counted plan lines total front rest race candidate count is =
    eqb-true count (votes_for plan race candidate front) (not-false _ (total front rest (TotalAt race candidate count) is))

-- THE LAWS

module _ (lines : List (List ℕ)) (walked : Walked) (fine : IsFineWalk lines walked) where
  good : (k : Kind) → IsOfPlaces k walked.next.plan → Fails k walked.next.plan (placed_of walked.posted)
  good k same = fails_at k walked.next.plan walked.posted same (none_late walked.next.plan walked.posted (sym (walked-least lines walked fine.walks) ∙ fine-all lines fine.fine) k)

pub codes_are_known : CodesAreKnown
codes_are_known lines walked fine = codes_known walked.next.plan (placed_of walked.posted) (good lines walked fine kind.Rule (λ before line. refl))

pub pointers_stand_once : PointersStandOnce
pointers_stand_once lines walked fine = pointers_once walked.next.plan (placed_of walked.posted) (good lines walked fine kind.Pointer (λ before line. refl))

pub do_flags_agree : FlagsAgree
do_flags_agree lines walked fine = flags_agree walked.next.plan (placed_of walked.posted) (good lines walked fine kind.Pointer (λ before line. refl)) (good lines walked fine kind.Flag (λ before line. refl))

pub totals_count : TotalsCount
totals_count lines walked fine = totals_counted walked.next.plan (placed_of walked.posted) (good lines walked fine kind.Total (λ before line. refl))

pub do_paths_agree : PathsAgree
do_paths_agree lines walked fine = paths_agree walked.next.plan (placed_of walked.posted) (good lines walked fine kind.Pointer (λ before line. refl)) (good lines walked fine kind.Path (λ before line. refl))

pub do_openings_open : OpeningsOpen
do_openings_open lines walked fine = openings_open walked.next.plan (placed_of walked.posted) (good lines walked fine kind.Opening (λ before line. refl))

pub sides_are_drawn : SidesAreDrawn
sides_are_drawn lines walked fine = sides_drawn walked.next.plan (placed_of walked.posted) (good lines walked fine kind.Side (λ before line. refl))

pub do_prints_agree : PrintsAgree
do_prints_agree lines walked fine = prints_agree walked.next.plan (placed_of walked.posted) (good lines walked fine kind.Pointer (λ before line. refl)) (good lines walked fine kind.Print (λ before line. refl))
