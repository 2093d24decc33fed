-- The completion is right where each row is.
use Rattle.std.proofs.Common.{◌≡◌, ℕ, ◌<◌, ◌==◌, Bool, true, false, List, bytes_eq, length, Option, Some, None, refl, sym, ap, ◌∙◌}
use Rattle.std.specs.Option.{option_and_then, option_map_or}
use Rattle.std.proofs.lemmas.Bool.{and_from, and_parts, eq-eqb, eqb-true, false_from_ne_true}
use Rattle.std.proofs.lemmas.Slice.Eq.{bytes_eq-Decides}
use Rattle.sg_commit.specs.declared.Opening.{Opening}
use Rattle.sg_plan.specs.declared.plan.Plan.{Plan}
use Rattle.sg_plan.specs.declared.plan.Side.{Side}
use Rattle.sg_plan.specs.declared.plan.Side.TheVariants as side
use Rattle.sg_record.specs.Places.{places_in}
use Rattle.sg_record.specs.declared.record.Record.{Record}
use Rattle.sg_check.specs.Completions.{posted_half}
use Rattle.sg_check.specs.Kinds.{opens_digest, half_kind}
use Rattle.sg_check.specs.Facts.{half_commitment, opened_on}
use Rattle.sg_facts.proofs.Facts.{are_listed}
use Rattle.sg_facts.specs.Items.{row_in}
use Rattle.sg_parts.specs.Faults.{IsFirstWrong, IsRowRight, KeepsPosted, OpensAt}
use Rattle.sg_parts.specs.Given.{completion_of}
use Rattle.sg_parts.specs.declared.checks.At.{At}
use Rattle.sg_parts.specs.declared.looks.Half.{Half}
use Rattle.sg_parts.specs.declared.parts.RowGiven.{RowGiven}
use Rattle.sg_parts.specs.inside.Checks.{half_keeps, half_opens, keeps_opening, opens_half, row_keeps, row_opens, row_right}

-- A HALF OF A ROW

pub on_half : {B : Type 0} (f : Side → ℕ → ℕ → ℕ → B) (half : Half) (on : Side) (at : At) → half.side ≡ on → half.at ≡ at → f half.side half.at.race half.at.instance half.at.row ≡ f on at.race at.instance at.row
on_half f half on at sides ats = ap (λ (s : Side). f s half.at.race half.at.instance half.at.row) sides ∙ ap (λ (a : At). f on a.race a.instance a.row) ats

-- TWO OPENINGS

same_opening : (a b : Opening) → a.key.0 ≡ b.key.0 → a.value ≡ b.value → a ≡ b
same_opening a b keys values =
    ap (λ (k : List ℕ). let o : Opening = record { key = record { 0 = k }; value = a.value } in o) keys ∙ ap (λ (v : ℕ). let o : Opening = record { key = b.key; value = v } in o) values

keeps_true : (given : Option Opening) (posted : Opening) → keeps_opening given posted ≡ true → given ≡ Some posted
keeps_true None posted e = cc
keeps_true (Some given) posted e =
    let parts = and_parts (bytes_eq posted.key.0 given.key.0) (posted.value == given.value) e in
    ap (λ (o : Opening). Some o) (sym (same_opening posted given ((bytes_eq-Decides posted.key.0 given.key.0).0 parts.0) (eqb-true posted.value given.value parts.1)))

true_keeps : (given : Option Opening) (posted : Opening) → given ≡ Some posted → keeps_opening given posted ≡ true
true_keeps given posted is =
    ap (λ (o : Option Opening). keeps_opening o posted) is
    ∙ and_from (bytes_eq posted.key.0 posted.key.0) (posted.value == posted.value) ((bytes_eq-Decides posted.key.0 posted.key.0).1 refl) (eq-eqb posted.value posted.value refl)

module _ (posted : Record) (rows : List (List (List RowGiven))) (race instance row : ℕ) where
  -- OPENING

  half_true : (on : Side) → half_opens posted rows on race instance row ≡ true → (opening : Opening) → completion_of rows on race instance row ≡ Some opening
      → opens_digest (half_commitment (places_in posted) on race instance row) (half_kind on) race instance row opening ≡ true
  half_true on passes opening is =
      ap (λ d. opens_digest d (half_kind on) race instance row opening) ((are_listed posted).commitment on race instance row)
      ∙ (sym (ap (λ (o : Option Opening). option_map_or (opens_half posted on race instance row) o true) is) ∙ passes)

  true_half : (on : Side) → ((opening : Opening) → completion_of rows on race instance row ≡ Some opening → opens_digest (half_commitment (places_in posted) on race instance row) (half_kind on) race instance row opening ≡ true)
      → half_opens posted rows on race instance row ≡ true
  true_half on opens = at_given (completion_of rows on race instance row) refl
    where
      at_given : (o : Option Opening) → completion_of rows on race instance row ≡ o → half_opens posted rows on race instance row ≡ true
      at_given None e = ap (λ (o : Option Opening). option_map_or (opens_half posted on race instance row) o true) e
      at_given (Some opening) e =
          ap (λ (o : Option Opening). option_map_or (opens_half posted on race instance row) o true) e
          ∙ (sym (ap (λ d. opens_digest d (half_kind on) race instance row opening) ((are_listed posted).commitment on race instance row)) ∙ opens opening e)

  pub opens_true : row_opens posted rows race instance row ≡ true → OpensAt (places_in posted) (completion_of rows) race instance row
  opens_true passes side.Left opening is = half_true side.Left (and_parts (half_opens posted rows side.Left race instance row) (half_opens posted rows side.Right race instance row) passes).0 opening is
  opens_true passes side.Right opening is = half_true side.Right (and_parts (half_opens posted rows side.Left race instance row) (half_opens posted rows side.Right race instance row) passes).1 opening is

  pub true_opens : OpensAt (places_in posted) (completion_of rows) race instance row → row_opens posted rows race instance row ≡ true
  true_opens opens = and_from (half_opens posted rows side.Left race instance row) (half_opens posted rows side.Right race instance row) (true_half side.Left (opens side.Left)) (true_half side.Right (opens side.Right))

  -- KEEPING

  kept_true : (on : Side) → half_keeps posted rows on race instance row ≡ true → (o : Opening) → posted_half (places_in posted) on race instance row ≡ Some o → completion_of rows on race instance row ≡ Some o
  kept_true on passes o is =
      keeps_true (completion_of rows on race instance row) o
      (sym (ap (λ (x : Option Opening). option_map_or (keeps_opening (completion_of rows on race instance row)) x true) (sym ((are_listed posted).half on race instance row) ∙ is)) ∙ passes)

  true_kept : (on : Side) → ((o : Opening) → posted_half (places_in posted) on race instance row ≡ Some o → completion_of rows on race instance row ≡ Some o) → half_keeps posted rows on race instance row ≡ true
  true_kept on keeps = at_posted (option_and_then (opened_on on) (row_in posted.rows race instance row)) refl
    where
      at_posted : (x : Option Opening) → option_and_then (opened_on on) (row_in posted.rows race instance row) ≡ x → half_keeps posted rows on race instance row ≡ true
      at_posted None e = ap (λ (x : Option Opening). option_map_or (keeps_opening (completion_of rows on race instance row)) x true) e
      at_posted (Some o) e =
          ap (λ (x : Option Opening). option_map_or (keeps_opening (completion_of rows on race instance row)) x true) e
          ∙ true_keeps (completion_of rows on race instance row) o (keeps o ((are_listed posted).half on race instance row ∙ e))

  keep_true : row_keeps posted rows race instance row ≡ true → KeepsPosted (places_in posted) (completion_of rows) race instance row
  keep_true passes side.Left o is = kept_true side.Left (and_parts (half_keeps posted rows side.Left race instance row) (half_keeps posted rows side.Right race instance row) passes).0 o is
  keep_true passes side.Right o is = kept_true side.Right (and_parts (half_keeps posted rows side.Left race instance row) (half_keeps posted rows side.Right race instance row) passes).1 o is

  true_keep : KeepsPosted (places_in posted) (completion_of rows) race instance row → row_keeps posted rows race instance row ≡ true
  true_keep keeps = and_from (half_keeps posted rows side.Left race instance row) (half_keeps posted rows side.Right race instance row) (true_kept side.Left (keeps side.Left)) (true_kept side.Right (keeps side.Right))

  -- THE ROW

  pub right_true : row_right posted rows race instance row ≡ true → IsRowRight (places_in posted) (completion_of rows) race instance row
  right_true passes =
      let parts = and_parts (row_opens posted rows race instance row) (row_keeps posted rows race instance row) passes in
      record { opens = opens_true parts.0; keeps = keep_true parts.1 }

  pub true_right : IsRowRight (places_in posted) (completion_of rows) race instance row → row_right posted rows race instance row ≡ true
  true_right right = and_from (row_opens posted rows race instance row) (row_keeps posted rows race instance row) (true_opens right.opens) (true_keep right.keeps)

-- the first row that a test fails is the first that isn't so
pub wrong_is : (plan : Plan) (test : ℕ → ℕ → ℕ → Bool) (right : ℕ → ℕ → ℕ → Type 0) (race instance row : ℕ) → ((r i x : ℕ) → r < length plan.races → test r i x ≡ true → right r i x)
    → ((r i x : ℕ) → r < length plan.races → test r i x ≡ false → right r i x → ⊥) → IsFirstWrong plan (λ r i x. test r i x ≡ true) race instance row → IsFirstWrong plan right race instance row
wrong_is plan test right race instance row so not_so first = record {
  within = first.within;
  wrong = not_so race instance row first.within.0 (false_from_ne_true (test race instance row) first.wrong);
  before = λ of on at half earlier. so of on at half.0 (first.before of on at half earlier);
}
