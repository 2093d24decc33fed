use Rattle.std.proofs.Common.{◌≡◌, sym, subst, ◌∙◌, arith}
use Rattle.std.proofs.lemmas.Option.{same_Some}
use Rattle.sg_ledger.specs.inside.Sizes.{AreSizes}
use Rattle.sg_plan.proofs.PlanLaws.{entry_place-below}
use Rattle.sg_plan.specs.Ballots.{entries_before}
use Rattle.sg_plan.specs.declared.plan.Plan.{Plan}
use Rattle.sg_ledger.proofs.book.Book.entry_place.Goals as goal

pub returns-clause-within : goal.returns-clause-within
returns-clause-within c = λ below.
    let plan = c.args.self.now in
    let sizes = subst (λ (p : Plan). AreSizes p c.self.inside.sizes) c.self.view_is c.self.invariant in
    let before : c.get.result.now ≡ entries_before plan c.args.race = same_Some _ _ (sym c.get.ensures.item ∙ sizes.before c.args.race c.requires.race) in
    omega (arith, before, entry_place-below plan c.args.race c.args.entry c.requires.race below)
