use Rattle.std.proofs.Common.{◌≡◌, ℕ, ◌*◌, sym, ap, ap₂, ◌∙◌, arith}
use Rattle.sg_ledger.proofs.Places.{ballot_within}
use Rattle.sg_plan.proofs.PlanLaws.{ballot_has-true, bounds}
use Rattle.sg_plan.specs.Ballots.{ballot_row, candidates_of}
use Rattle.sg_plan.specs.Limits.{fault_of}
use Rattle.sg_plan.specs.declared.plan.Plan.{Plan}
use Rattle.sg_ledger.proofs.book.Book.first_entry.Goals as goal

pub row-row-requires : goal.row-row-requires
row-row-requires c =
    let is = ballot_has-true c.args.self.now c.args.ballot c.args.race c.requires.has in
    rw c.self.view_is (record { race = c.requires.race; first = is.first; last = is.last })

pub overflow_cast-result : goal.overflow_cast-result
overflow_cast-result c =
    let plan = c.args.self.now in
    let candidates_are = c.candidates.ensures ∙ ap (λ (p : Plan). candidates_of p c.args.race) (c.plan.ensures.plan ∙ c.self.view_is) in
    omega (arith, candidates_are, (bounds plan (ap fault_of (sym c.self.view_is) ∙ c.plan.ensures.good)).few_candidates c.args.race)

pub overflow_mul-result : goal.overflow_mul-result
overflow_mul-result c =
    let plan = c.args.self.now in
    let race = c.args.race in
    let few = bounds plan (ap fault_of (sym c.self.view_is) ∙ c.plan.ensures.good) in
    let row_is : c.row-row.result ≡ ballot_row plan race c.args.ballot = c.row-row.ensures ∙ ap (λ (p : Plan). ballot_row p race c.args.ballot) c.self.view_is in
    let candidates_are = c.candidates.ensures ∙ ap (λ (p : Plan). candidates_of p race) (c.plan.ensures.plan ∙ c.self.view_is) in
    let product = ap₂ (λ (a b : ℕ). a * b) row_is candidates_are in
    omega (arith, product, ballot_within plan race c.args.ballot 0 c.requires.has (omega (arith, few.two_candidates race c.requires.race)), few.few_entries race c.requires.race)

pub returns-clause-first : goal.returns-clause-first
returns-clause-first c =
    let plan = c.args.self.now in
    let race = c.args.race in
    let row_is : c.row-row.result ≡ ballot_row plan race c.args.ballot = c.row-row.ensures ∙ ap (λ (p : Plan). ballot_row p race c.args.ballot) c.self.view_is in
    let candidates_are = c.candidates.ensures ∙ ap (λ (p : Plan). candidates_of p race) (c.plan.ensures.plan ∙ c.self.view_is) in
    let product = ap₂ (λ (a b : ℕ). a * b) row_is candidates_are in
    omega (arith, product)

pub returns-clause-within : goal.returns-clause-within
returns-clause-within c =
    let plan = c.args.self.now in
    let race = c.args.race in
    let few = bounds plan (ap fault_of (sym c.self.view_is) ∙ c.plan.ensures.good) in
    let row_is : c.row-row.result ≡ ballot_row plan race c.args.ballot = c.row-row.ensures ∙ ap (λ (p : Plan). ballot_row p race c.args.ballot) c.self.view_is in
    let candidates_are = c.candidates.ensures ∙ ap (λ (p : Plan). candidates_of p race) (c.plan.ensures.plan ∙ c.self.view_is) in
    let product = ap₂ (λ (a b : ℕ). a * b) row_is candidates_are in
    omega (arith, product, ballot_within plan race c.args.ballot 0 c.requires.has (omega (arith, few.two_candidates race c.requires.race)))
