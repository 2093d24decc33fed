use Rattle.std.proofs.Common.{◌≡◌, ap, sym, subst, ◌∙◌, arith}
use Rattle.std.proofs.lemmas.Option.{same_Some}
use Rattle.sg_plan.proofs.PlanLaws.{bounds, row_place-below}
use Rattle.sg_plan.specs.Ballots.{entries_before, entries_of}
use Rattle.sg_plan.specs.Limits.{fault_of}
use Rattle.sg_plan.specs.declared.plan.Plan.{Plan}
use Rattle.sg_ledger.proofs.Places.{row_place-end}
use Rattle.sg_ledger.specs.inside.Sizes.{AreSizes}
use Rattle.sg_ledger.proofs.book.Book.row_place.Goals as goal

pub overflow_add-result-2 : goal.overflow_add-result-2
overflow_add-result-2 c =
    let sizes = subst (λ (p : Plan). AreSizes p c.self.inside.sizes) c.self.view_is c.self.invariant in
    let plan = c.args.self.now in
    let before : c.get.result.now ≡ entries_before plan c.args.race = same_Some _ _ (sym c.get.ensures.item ∙ sizes.before c.args.race c.requires.race) in
    let count : c.get-2.result.now ≡ entries_of plan c.args.race = same_Some _ _ (sym c.get-2.ensures.item ∙ sizes.count c.args.race c.requires.race) in
    let instances = ap (λ (p : Plan). p.instances) (c.plan.ensures.plan ∙ c.self.view_is) in
    rw (instances, before, count) (omega (arith, row_place-end plan c.args.race c.args.instance c.args.row c.requires.race c.requires.instance c.requires.row, (bounds plan (ap fault_of (sym c.self.view_is) ∙ c.plan.ensures.good)).few_r_rows))

pub returns-clause-within : goal.returns-clause-within
returns-clause-within c = λ below.
    let sizes = subst (λ (p : Plan). AreSizes p c.self.inside.sizes) c.self.view_is c.self.invariant in
    let plan = c.args.self.now in
    let before : c.get.result.now ≡ entries_before plan c.args.race = same_Some _ _ (sym c.get.ensures.item ∙ sizes.before c.args.race c.requires.race) in
    let count : c.get-2.result.now ≡ entries_of plan c.args.race = same_Some _ _ (sym c.get-2.ensures.item ∙ sizes.count c.args.race c.requires.race) in
    let instances = ap (λ (p : Plan). p.instances) (c.plan.ensures.plan ∙ c.self.view_is) in
    rw (instances, before, count) (row_place-below plan c.args.race c.args.instance c.args.row c.requires.race c.requires.instance below)
