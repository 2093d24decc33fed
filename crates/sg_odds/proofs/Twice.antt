-- A record on which the verdict is yes opens as each full completion of its first two sections does, or a commitment is opened
-- twice.
use Rattle.std.proofs.Common.{◌≡◌, ◌≢◌, ℕ, ◌≤◌, ◌==◌, ◌⊎◌, true, false, inl, inr, List, [], ◌∷◌, ◌++◌, Option, Some, None, refl, sym, subst, ap, ◌∙◌, append_assoc, arith}
use Rattle.std.specs.Str.{bytes_eq}
use Rattle.std.proofs.lemmas.Bool.{cases_Bool, eq-eqb, eqb-true}
use Rattle.std.proofs.lemmas.Option.{none-some}
use Rattle.std.proofs.lemmas.Slice.Eq.{bytes_eq-Decides}
use Rattle.sg_lists.proofs.Each.{EachOf, of-inside, of-into}
use Rattle.sg_commit.specs.declared.Digest.{Digest}
use Rattle.sg_commit.specs.declared.Opening.{Opening}
use Rattle.sg_forms.specs.declared.line.RowOpening.{RowOpening}
use Rattle.sg_plan.specs.declared.plan.Plan.{Plan}
use Rattle.sg_plan.specs.declared.plan.Side.{Side}
use Rattle.sg_plan.specs.declared.plan.Side.TheVariants as side
use Rattle.sg_grammar.specs.Lines.{IsAmong}
use Rattle.sg_grammar.specs.Placed.{Placed}
use Rattle.sg_grammar.specs.Placed.Placed.{RowAt, RowCommitAt}
use Rattle.sg_record.specs.Formed.{is_formed}
use Rattle.sg_record.specs.Laws.{HasWords}
use Rattle.sg_record.specs.Places.{places_in}
use Rattle.sg_record.specs.declared.record.Record.{Record}
use Rattle.sg_check.proofs.Fronts.{given-before}
use Rattle.sg_check.proofs.Rows.{posted_row}
use Rattle.sg_check.specs.Completions.{Completion, IsHalfOf, OpensNoneTwice}
use Rattle.sg_check.specs.Facts.{commits_half, first_given, half_commitment, opened_on}
use Rattle.sg_check.specs.Kinds.{opens_digest, half_kind}
use Rattle.sg_facts.proofs.Finding.{given-of}
use Rattle.sg_facts.proofs.Rising.{all-behind, behind_results, part_of, results-rise}
use Rattle.sg_fronts.proofs.OfRecord.{apart, in_plan}
use Rattle.sg_parts.proofs.Accepting.{bound}
use Rattle.sg_parts.specs.Given.{IsAccepted}
use Rattle.sg_odds.specs.Coins.{before_draw}
use Rattle.sg_odds.specs.Odds.{IsFullCompletion, IsOpenedTwice, YesOpensSo}
use Rattle.sg_odds.proofs.Barred.{posted_is}
use Rattle.sg_odds.proofs.Leading.{has_half}
use Rattle.sg_odds.proofs.SamePlan.{same_plan}
use Rattle.sg_odds.proofs.Sections.{all_are, sections, sections_are}

-- THE COMMITMENTS STAND BEFORE THE DRAW

half_only : (on : Side) (race instance row : ℕ) (line : Placed) → 5 ≤ part_of line → commits_half on race instance row line ≡ None
half_only on race instance row (RowCommitAt of within at left right) late = absurd (omega (arith, late))
half_only on race instance row line late = refl

commitment_early : (posted : Record) (on : Side) (race instance row : ℕ) → half_commitment (places_in posted) on race instance row ≡ half_commitment (before_draw (places_in posted)) on race instance row
commitment_early posted on race instance row =
    let given = commits_half on race instance row in
    let none = of-into (λ (l : Placed). 5 ≤ part_of l) (λ (l : Placed). given l ≡ None) (behind_results posted) (half_only on race instance row) (all-behind 5 (behind_results posted) (results-rise posted)) in
    ap (first_given given) (all_are posted)
    ∙ (given-before given (sections posted) (behind_results posted) (given-of given (behind_results posted) none) ∙ sym (ap (first_given given) (sections_are posted)))

-- TWO OPENINGS

abbrev made : List ℕ → ℕ → Opening
made key value = record { key = record { 0 = key }; value = value }

same_opening : (a b : Opening) → (a ≡ b) ⊎ (a ≢ b)
same_opening a b = elim (cases_Bool (bytes_eq a.key.0 b.key.0)) [
  | inl key ↦ elim (cases_Bool (a.value == b.value)) [
    | inl value ↦ inl (ap (λ (k : List ℕ). made k a.value) ((bytes_eq-Decides a.key.0 b.key.0).0 key) ∙ ap (λ (v : ℕ). made b.key.0 v) (eqb-true a.value b.value value))
    | inr other ↦ inr (λ e. let wrong : true ≡ false = sym (eq-eqb a.value b.value (ap (λ (o : Opening). o.value) e)) ∙ other in cc)
  ]
  | inr other ↦ inr (λ e. let wrong : true ≡ false = sym ((bytes_eq-Decides a.key.0 b.key.0).1 (ap (λ (o : Opening). o.key.0) e)) ∙ other in cc)
]

-- THE LINES OF THE RECORD, one after another

module _ (posted : Record) (words : HasWords posted) (formed : is_formed posted ≡ true) (completion : Completion) (full : IsFullCompletion posted.plan (places_in posted) completion)
    (other : Record) (accepted : IsAccepted other) (begins : before_draw (places_in other) ≡ before_draw (places_in posted)) where
  abbrev lines : List Placed
  lines = places_in other

  row_within : (race instance row : ℕ) (opening : RowOpening) → IsAmong lines (RowAt race instance row opening) → IsHalfOf other.plan race instance row
  row_within race instance row opening among = (in_plan other accepted.words accepted.formed (RowAt race instance row opening) among).placed

  plan_is : other.plan ≡ posted.plan
  plan_is = same_plan other posted accepted.words words accepted.formed formed begins

  -- the commitments are the same
  commitment_is : (on : Side) (race instance row : ℕ) → half_commitment lines on race instance row ≡ half_commitment (places_in posted) on race instance row
  commitment_is on race instance row =
      commitment_early other on race instance row ∙ (ap (λ (l : List Placed). half_commitment l on race instance row) begins ∙ sym (commitment_early posted on race instance row))

  posted_opens : (on : Side) (race instance row : ℕ) (opening : RowOpening) (o : Opening) → IsAmong lines (RowAt race instance row opening) → opened_on on opening ≡ Some o
      → opens_digest (half_commitment (places_in posted) on race instance row) (half_kind on) race instance row o ≡ true
  posted_opens on race instance row opening o among of =
      let has = (bound other accepted).completion in
      let there = has.2 on race instance row o (posted_is lines (apart other accepted.words accepted.formed) on race instance row opening o among of) in
      subst (λ (d : Option Digest). opens_digest d (half_kind on) race instance row o ≡ true) (commitment_is on race instance row)
      (has.1.opens on race instance row o (row_within race instance row opening among) there)

  -- a half is opened as the completion does, or otherwise
  at_half : (on : Side) (race instance row : ℕ) (opening : RowOpening) (o : Opening) → IsAmong lines (RowAt race instance row opening) → opened_on on opening ≡ Some o
      → (completion on race instance row ≡ Some o) ⊎ IsOpenedTwice (places_in posted)
  at_half on race instance row opening o among of =
      let within : IsHalfOf posted.plan race instance row = subst (λ (p : Plan). IsHalfOf p race instance row) plan_is (row_within race instance row opening among) in
      let h = has_half posted.plan completion race instance (full.full race instance within.0 within.1) on row within.2 in
      elim (same_opening o h.opening) [
        | inl same ↦ inl (h.is ∙ ap (λ (x : Opening). Some x) (sym same))
        | inr differ ↦
            inr (record {
              on = on;
              race = race;
              instance = instance;
              row = row;
              one = o;
              other = h.opening;
              differ = differ;
              opens_one = posted_opens on race instance row opening o among of;
              opens_other = full.is_completion.opens on race instance row h.opening within h.is;
            })
      ]

  abbrev Agrees : Placed → Type 0
  Agrees line = (on : Side) (race instance row : ℕ) (opening : RowOpening) (o : Opening) → line ≡ RowAt race instance row opening → opened_on on opening ≡ Some o → completion on race instance row ≡ Some o

  abbrev AgreesOn : Side → ℕ → ℕ → ℕ → RowOpening → Type 0
  AgreesOn on race instance row opening = (o : Opening) → opened_on on opening ≡ Some o → completion on race instance row ≡ Some o

  at_side : (on : Side) (race instance row : ℕ) (opening : RowOpening) → IsAmong lines (RowAt race instance row opening) → AgreesOn on race instance row opening ⊎ IsOpenedTwice (places_in posted)
  at_side on race instance row opening among = by_value (opened_on on opening) refl
    where
      by_value : (x : Option Opening) → opened_on on opening ≡ x → AgreesOn on race instance row opening ⊎ IsOpenedTwice (places_in posted)
      by_value None e = inl (λ o of. absurd (none-some o (sym e ∙ of)))
      by_value (Some v) e = elim (at_half on race instance row opening v among e) [
        | inl is ↦ inl (λ o of. is ∙ (sym e ∙ of))
        | inr twice ↦ inr twice
      ]

  row_parts : (of within at race instance row : ℕ) (a b : RowOpening) → RowAt of within at a ≡ RowAt race instance row b → (of ≡ race) × (within ≡ instance) × (at ≡ row) × (a ≡ b)
  row_parts of within at race instance row a b e = (cc, cc, cc, cc)

  on_sides : (of within at : ℕ) (a : RowOpening) → AgreesOn side.Left of within at a → AgreesOn side.Right of within at a → Agrees (RowAt of within at a)
  on_sides of within at a left right on race instance row opening o is opens =
      let parts = row_parts of within at race instance row a opening is in
      let here : completion on of within at ≡ Some o = at_on on (ap (opened_on on) parts.3 ∙ opens) in
      subst (λ (r : ℕ). completion on r instance row ≡ Some o) parts.0 (subst (λ (i : ℕ). completion on of i row ≡ Some o) parts.1 (subst (λ (x : ℕ). completion on of within x ≡ Some o) parts.2 here))
    where
      at_on : (s : Side) → opened_on s a ≡ Some o → completion s of within at ≡ Some o
      at_on side.Left e = left o e
      at_on side.Right e = right o e

  at_line : (line : Placed) → IsAmong lines line → Agrees line ⊎ IsOpenedTwice (places_in posted)
  at_line (RowAt of within at a) among = elim (at_side side.Left of within at a among) [
    | inl left ↦ elim (at_side side.Right of within at a among) [
      | inl right ↦ inl (on_sides of within at a left right)
      | inr twice ↦ inr twice
    ]
    | inr twice ↦ inr twice
  ]
  at_line line among = inl (λ on race instance row opening o is opens. cc)

  at_lines : (front rest : List Placed) → lines ≡ front ++ rest → EachOf Agrees rest ⊎ IsOpenedTwice (places_in posted)
  at_lines front [] is = inl tt
  at_lines front (line ∷ rest) is = elim (at_line line (front, rest, is)) [
    | inl here ↦ elim (at_lines (front ++ line ∷ []) rest (is ∙ sym (append_assoc front (line ∷ []) rest))) [
      | inl behind ↦ inl (here, behind)
      | inr twice ↦ inr twice
    ]
    | inr twice ↦ inr twice
  ]

  opens_so : OpensNoneTwice lines completion ⊎ IsOpenedTwice (places_in posted)
  opens_so = elim (at_lines [] lines refl) [
    | inl all ↦
        inl (λ on race instance row half there.
        let found = posted_row lines on race instance row half there in
        of-inside Agrees lines found.1.0 found.1.1 (RowAt race instance row found.0) all found.1.2 on race instance row found.0 half refl found.2)
    | inr twice ↦ inr twice
  ]

pub yes_opens_so : YesOpensSo
yes_opens_so posted words formed completion full other accepted begins = opens_so posted words formed completion full other accepted begins
