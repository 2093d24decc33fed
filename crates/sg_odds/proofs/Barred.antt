-- A row that is opened on the side of its coin has the right flag there.
use Rattle.std.proofs.Common.{◌≡◌, ℕ, ◌==◌, nat_lt, Bool, true, false, ◌&&◌, cond, List, Option, Some, None, refl, sym, subst, ap, ◌∙◌}
use Rattle.std.specs.Option.{is_none, option_map_or}
use Rattle.std.proofs.lemmas.Bool.{and_from, eq-eqb, or_parts}
use Rattle.sg_commit.specs.declared.Opening.{Opening}
use Rattle.sg_forms.specs.declared.line.RowOpening.{RowOpening}
use Rattle.sg_forms.specs.declared.line.RowOpening.TheVariants as opened
use Rattle.sg_plan.specs.Ballots.{entries_of}
use Rattle.sg_plan.specs.declared.plan.Plan.{Plan}
use Rattle.sg_plan.specs.declared.plan.Side.{Side}
use Rattle.sg_plan.specs.declared.plan.Side.TheVariants as side
use Rattle.sg_grammar.specs.Lines.{IsAmong}
use Rattle.sg_grammar.specs.Parting.{Apart, clash}
use Rattle.sg_grammar.specs.Placed.{Placed}
use Rattle.sg_grammar.specs.Placed.Placed.{RowAt}
use Rattle.sg_grammar.specs.declared.state.Slot.{Slot}
use Rattle.sg_grammar.specs.declared.state.Slot.TheVariants as slot
use Rattle.sg_check.proofs.BoundLaws.{given_there}
use Rattle.sg_check.proofs.Late.{Fails}
use Rattle.sg_check.proofs.Rows.{one_row, posted_row}
use Rattle.sg_check.specs.Completions.{Completion, OpensNoneTwice, posted_half, posts_half}
use Rattle.sg_check.specs.Facts.{flags_row, is_flagged, is_marked, is_set, opened_on, marks_entry, sets_place}
use Rattle.sg_check.specs.Kinds.{differ, is_on_side}
use Rattle.sg_check.specs.inside.BySide.{wrong_flag_on}
use Rattle.sg_check.specs.declared.judged.Kind.TheVariants as kind
use Rattle.sg_odds.specs.Coins.{before_draw}
use Rattle.sg_odds.specs.Odds.{half_of, no_opening}
use Rattle.sg_odds.proofs.Sections.{flags_early, front_same, marks_early, sets_early}

-- the row's flag isn't right of the half that the completion has on this side
module _ (plan : Plan) (sections : List Placed) (completion : Completion) where
  abbrev pub bars : Slot → Side → Bool
  bars (slot.Row race instance row) on = wrong_flag_on on plan sections race (is_flagged race instance row sections) (Some (half_of completion on race instance row))
  bars due coin = false

-- what is opened on the side of a coin
on_side : (coin : Side) (opening : RowOpening) → is_on_side coin opening ≡ true → (o : Opening) × (opened_on coin opening ≡ Some o)
on_side side.Left (opened.Left o) e = (o, refl)
on_side side.Left (opened.Right o) e = cc
on_side side.Left (opened.Both l r) e = (l, refl)
on_side side.Right (opened.Left o) e = cc
on_side side.Right (opened.Right o) e = (o, refl)
on_side side.Right (opened.Both l r) e = (r, refl)

-- a row's line posts its halves
pub posted_is : (lines : List Placed) → Apart clash lines → (on : Side) (race instance row : ℕ) (opening : RowOpening) (o : Opening) → IsAmong lines (RowAt race instance row opening) → opened_on on opening ≡ Some o
    → posted_half lines on race instance row ≡ Some o
posted_is lines apart on race instance row opening o among of = at_value (posted_half lines on race instance row) refl
  where
    passes : ((race == race && instance == instance) && row == row) ≡ true
    passes = and_from (race == race && instance == instance) (row == row) (and_from (race == race) (instance == instance) (eq-eqb race race refl) (eq-eqb instance instance refl)) (eq-eqb row row refl)

    gives : posts_half on race instance row (RowAt race instance row opening) ≡ Some o
    gives = ap (λ (b : Bool). cond b (opened_on on opening) None) passes ∙ of

    there : is_none (posted_half lines on race instance row) ≡ false
    there =
        subst (λ (l : List Placed). is_none (posted_half l on race instance row) ≡ false) (sym among.2)
        (given_there (posts_half on race instance row) among.0 among.1 (RowAt race instance row opening) (ap (λ (x : Option Opening). is_none x) gives))

    at_value : (x : Option Opening) → posted_half lines on race instance row ≡ x → posted_half lines on race instance row ≡ Some o
    at_value None e = let wrong : true ≡ false = sym (ap (λ (x : Option Opening). is_none x) e) ∙ there in cc
    at_value (Some v) e =
        let found = posted_row lines on race instance row v e in
        let same = one_row lines race instance row opening found.0 apart among found.1 in
        e ∙ (sym found.2 ∙ (ap (opened_on on) (sym same) ∙ of))

module _ (plan : Plan) (lines : List Placed) (completion : Completion) (apart : Apart clash lines) (opens : OpensNoneTwice lines completion)
    (flags : Fails kind.Flag plan lines) where
  -- it is what the completion has there
  half_is : (on : Side) (race instance row : ℕ) (opening : RowOpening) (o : Opening) → IsAmong lines (RowAt race instance row opening) → opened_on on opening ≡ Some o → half_of completion on race instance row ≡ o
  half_is on race instance row opening o among of =
      ap (λ (x : Option Opening). option_map_or (λ (h : Opening). h) x no_opening) (opens on race instance row o (posted_is lines apart on race instance row opening o among of))

  -- so its row is not barred
  pub row_free : (race instance row : ℕ) (opening : RowOpening) (coin : Side) → IsAmong lines (RowAt race instance row opening) → is_on_side coin opening ≡ true
      → bars plan (before_draw lines) completion (slot.Row race instance row) coin ≡ false
  row_free race instance row opening coin among on = at_side coin (on_side coin opening on)
    where
      sections : List Placed
      sections = before_draw lines

      flag : is_flagged race instance row sections ≡ is_flagged race instance row among.0
      flag = sym (front_same (flags_row race instance row) (flags_early race instance row) lines among.0 among.1 race instance row opening apart among.2)

      good : (wrong_flag_on side.Left plan among.0 race (is_flagged race instance row among.0) (opened_on side.Left opening) ≡ false)
          × (wrong_flag_on side.Right plan among.0 race (is_flagged race instance row among.0) (opened_on side.Right opening) ≡ false)
      good = or_parts (wrong_flag_on side.Left plan among.0 race (is_flagged race instance row among.0) (opened_on side.Left opening)) (wrong_flag_on side.Right plan among.0 race (is_flagged race instance row among.0) (opened_on side.Right opening))
          (flags among.0 among.1 (RowAt race instance row opening) among.2)

      at_side : (c : Side) → (o : Opening) × (opened_on c opening ≡ Some o) → bars plan (before_draw lines) completion (slot.Row race instance row) c ≡ false
      at_side side.Left (o, of) =
          let mark = sym (front_same (marks_entry plan race o.value) (marks_early plan race o.value) lines among.0 among.1 race instance row opening apart among.2) in
          ap (λ (h : Opening). wrong_flag_on side.Left plan sections race (is_flagged race instance row sections) (Some h)) (half_is side.Left race instance row opening o among of)
          ∙ (ap (λ (b : Bool). nat_lt o.value (entries_of plan race) && differ b (is_marked plan race o.value sections)) flag
          ∙ (ap (λ (b : Bool). nat_lt o.value (entries_of plan race) && differ (is_flagged race instance row among.0) b) mark
          ∙ (sym (ap (wrong_flag_on side.Left plan among.0 race (is_flagged race instance row among.0)) of) ∙ good.0)))
      at_side side.Right (o, of) =
          let place = sym (front_same (sets_place race o.value) (sets_early race o.value) lines among.0 among.1 race instance row opening apart among.2) in
          ap (λ (h : Opening). wrong_flag_on side.Right plan sections race (is_flagged race instance row sections) (Some h)) (half_is side.Right race instance row opening o among of)
          ∙ (ap (λ (b : Bool). nat_lt o.value (entries_of plan race) && differ b (is_set race o.value sections)) flag
          ∙ (ap (λ (b : Bool). nat_lt o.value (entries_of plan race) && differ (is_flagged race instance row among.0) b) place
          ∙ (sym (ap (wrong_flag_on side.Right plan among.0 race (is_flagged race instance row among.0)) of) ∙ good.1)))
