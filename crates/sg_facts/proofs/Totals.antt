-- The line of a candidate's total.
use Rattle.std.proofs.Common.{◌≡◌, ℕ, ◌==◌, Bool, true, false, ◌&&◌, cond, List, Option, Some, None, refl, sym, subst, ap, ◌∙◌}
use Rattle.std.specs.Option.{is_none, option_map_or}
use Rattle.std.proofs.lemmas.Bool.{and_parts, eq-eqb, eqb-true}
use Rattle.std.proofs.lemmas.Option.{none-some, same_Some}
use Rattle.sg_grammar.specs.Placed.{Placed}
use Rattle.sg_grammar.specs.Placed.Placed.{TotalAt}
use Rattle.sg_check.specs.Facts.{first_given}
use Rattle.sg_grammar.specs.Lines.{IsAmong}
use Rattle.sg_check.proofs.BoundLaws.{given_there}
use Rattle.sg_check.proofs.Rows.{first_given-some}
use Rattle.sg_facts.specs.Totals.{total_of, totals_candidate}

module _ (lines : List Placed) (race candidate : ℕ) where
  -- the line of a candidate's total
  totals_line : (count : ℕ) (line : Placed) → totals_candidate race candidate line ≡ Some count → line ≡ TotalAt race candidate count
  totals_line count (TotalAt of at found) gives = by_test (of == race && at == candidate) refl
    where
      by_test : (b : Bool) → (of == race && at == candidate) ≡ b → TotalAt of at found ≡ TotalAt race candidate count
      by_test false e = absurd (none-some count (sym (ap (λ (b : Bool). cond b (Some found) None) e) ∙ gives))
      by_test true e =
          let parts = and_parts (of == race) (at == candidate) e in
          rw (eqb-true of race parts.0, eqb-true at candidate parts.1, same_Some found count (sym (ap (λ (b : Bool). cond b (Some found) None) e) ∙ gives)) refl
  totals_line count line gives = cc

  pub total_there : (count : ℕ) → IsAmong lines (TotalAt race candidate count) → IsAmong lines (TotalAt race candidate (total_of lines race candidate))
  total_there count (front, rest, is) = by_given (first_given (totals_candidate race candidate) lines) refl
    where
      gives : is_none (totals_candidate race candidate (TotalAt race candidate count)) ≡ false
      gives = rw (eq-eqb race race refl, eq-eqb candidate candidate refl) refl

      by_given : (x : Option ℕ) → first_given (totals_candidate race candidate) lines ≡ x → IsAmong lines (TotalAt race candidate (option_map_or (λ (n : ℕ). n) (first_given (totals_candidate race candidate) lines) 0))
      by_given None e =
          let there = given_there (totals_candidate race candidate) front rest (TotalAt race candidate count) gives in
          let both : true ≡ false = sym (ap is_none (sym (ap (first_given (totals_candidate race candidate)) is) ∙ e)) ∙ there in
          cc
      by_given (Some found) e =
          let line = first_given-some (totals_candidate race candidate) lines found e in
          subst (λ (n : ℕ). IsAmong lines (TotalAt race candidate n)) (sym (ap (λ (x : Option ℕ). option_map_or (λ (n : ℕ). n) x 0) e))
          (subst (λ (l : Placed). IsAmong lines l) (totals_line found line.0 line.2) line.1)
