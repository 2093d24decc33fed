-- The entries of audited ballots.
use Rattle.std.proofs.Common.{◌≡◌, ℕ, ◌/◌, ◌==◌, Bool, true, ◌&&◌, ◌||◌, inl, inr, List, [], ◌∷◌, refl, sym, ap, ◌∙◌}
use Rattle.std.proofs.lemmas.Bool.{and_from, and_parts, cases_Bool, cases_eq, eq-eqb, eqb-true, ne_eqb}
use Rattle.sg_plan.proofs.PlanLaws.{rows_are_one}
use Rattle.sg_plan.specs.Ballots.{ballot_has, ballot_row, candidates_of}
use Rattle.sg_plan.specs.declared.plan.Plan.{Plan}
use Rattle.sg_post.specs.Marks.{is_audit_fate, is_entry_audited, is_entry_of, told_audits}
use Rattle.sg_post.specs.Posting.{is_audited_ballot}
use Rattle.sg_post.specs.declared.story.Told.{Told}

-- the entry is one of just the ballot that has its row
one_ballot : (plan : Plan) (race entry ballot other : ℕ) → ballot_has plan ballot race ≡ true → ballot_row plan race ballot ≡ entry / candidates_of plan race
    → (other == ballot) ≡ is_entry_of plan race entry other
one_ballot plan race entry ballot other has row =
    elim (cases_eq other ballot) [
      | inl same ↦
          eq-eqb other ballot same
          ∙ sym (and_from (ballot_has plan other race) (ballot_row plan race other == entry / candidates_of plan race) (ap (λ (b : ℕ). ballot_has plan b race) same ∙ has)
          (eq-eqb (ballot_row plan race other) (entry / candidates_of plan race) (ap (ballot_row plan race) same ∙ row)))
      | inr differ ↦
          ne_eqb other ballot differ
          ∙ elim (cases_Bool (is_entry_of plan race entry other)) [
            | inl is ↦
                let parts = and_parts (ballot_has plan other race) (ballot_row plan race other == entry / candidates_of plan race) is in
                absurd (differ ((rows_are_one plan race).one other ballot parts.0 has (eqb-true (ballot_row plan race other) (entry / candidates_of plan race) parts.1 ∙ sym row)))
            | inr none ↦ sym none
          ]
    ]

pub audited-entry : (plan : Plan) (fates : List Told) (race entry ballot : ℕ) → ballot_has plan ballot race ≡ true → ballot_row plan race ballot ≡ entry / candidates_of plan race
    → is_audited_ballot fates ballot ≡ is_entry_audited plan fates race entry
unfolding is_entry_audited
audited-entry plan [] race entry ballot has row = refl
audited-entry plan (told ∷ fates) race entry ballot has row =
    ap (λ (b : Bool). (b && is_audit_fate told.fate) || is_audited_ballot fates ballot) (one_ballot plan race entry ballot told.ballot has row)
    ∙ ap (λ (b : Bool). told_audits plan race entry told || b) (audited-entry plan fates race entry ballot has row)
