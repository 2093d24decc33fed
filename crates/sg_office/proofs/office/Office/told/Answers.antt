use Rattle.std.proofs.Common.{sym, subst, All}
use Rattle.sg_histories.specs.declared.kept.Kept.{Kept}
use Rattle.sg_office.proofs.Told.{HasRace, office_claims_have}
use Rattle.sg_office.proofs.office.Office.told.Goals as goal

pub answer_claims-requires-clause-have : goal.answer_claims-requires-clause-have
answer_claims-requires-clause-have c = subst (λ (k : Kept). All (HasRace k.setup.plan) k.claims) (sym c.self.view_is) (office_claims_have c.args.self.now c.office_law.ensures)
