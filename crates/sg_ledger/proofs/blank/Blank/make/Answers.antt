use Rattle.std.proofs.Common.{ℕ, ◌*◌, false, None, replicate, length, ap, ◌∙◌, arith}
use Rattle.sg_plan.proofs.PlanLaws.{bounds}
use Rattle.sg_plan.specs.declared.plan.Plan.{Plan}
use Rattle.sg_ledger.proofs.blank.Blank.make.Goals as goal

pub overflow_mul-races : goal.overflow_mul-races
overflow_mul-races c = omega (arith, c.len-races.ensures, ap (λ (p : Plan). length p.races) c.plan.ensures.plan, (bounds c.args.index.now c.plan.ensures.good).few_races)

pub overflow_mul-races-2 : goal.overflow_mul-races-2
overflow_mul-races-2 c = omega (arith, c.len-races.ensures, ap (λ (p : Plan). length p.races) c.plan.ensures.plan, (bounds c.args.index.now c.plan.ensures.good).few_races)

pub returns : goal.returns
returns c =
    let entries_are = c.in_ok-sizes.ensures.all in
    let rows_are = c.count_rows-rows.ensures in
    let races_are = c.len-races.ensures ∙ ap (λ (p : Plan). length p.races) c.plan.ensures.plan in
    record {
      sizes = c.in_ok-sizes.ensures;
      codes = c.in_ok-commitments.ensures.codes ∙ ap (λ (n : ℕ). replicate n None) entries_are;
      lefts = c.in_ok-commitments.ensures.lefts ∙ ap (λ (n : ℕ). replicate n None) rows_are;
      rights = c.in_ok-commitments.ensures.rights ∙ ap (λ (n : ℕ). replicate n None) rows_are;
      known = c.in_ok-codes.ensures.known ∙ ap (λ (n : ℕ). replicate n None) entries_are;
      marked = c.in_ok-codes.ensures.marked ∙ ap (λ (n : ℕ). replicate n false) entries_are;
      marks = c.in_ok-codes.ensures.marks ∙ ap (λ (n : ℕ). replicate n 0) entries_are;
      flagged = c.in_ok-bits.ensures.flagged ∙ ap (λ (n : ℕ). replicate n false) rows_are;
      places = c.in_ok-bits.ensures.places ∙ ap (λ (n : ℕ). replicate n false) entries_are;
      votes = c.in_ok-bits.ensures.votes ∙ ap (λ (n : ℕ). replicate (16 * n) 0) races_are;
      seen_lefts = c.in_ok-pointers.ensures.lefts ∙ ap (λ (n : ℕ). replicate n false) rows_are;
      seen_rights = c.in_ok-pointers.ensures.rights ∙ ap (λ (n : ℕ). replicate n false) rows_are;
      paths = c.in_ok-paths.ensures ∙ ap (λ (n : ℕ). replicate n None) entries_are;
      audited = c.in_ok-audits.ensures.audited ∙ ap (λ (n : ℕ). replicate n false) entries_are;
      papers = c.in_ok-audits.ensures.papers ∙ ap (λ (n : ℕ). replicate n None) entries_are;
      audit_counts = c.in_ok-audits.ensures.entries ∙ ap (λ (n : ℕ). replicate n 0) races_are;
      both_counts = c.in_ok-audits.ensures.boths ∙ ap (λ (n : ℕ). replicate (16 * n) 0) races_are;
      totals = c.in_ok-totals.ensures;
    }
