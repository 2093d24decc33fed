use Rattle.std.proofs.Common.{ap, sym, ◌∙◌}
use Rattle.std.proofs.lemmas.Bool.{both_ways}
use Rattle.sg_histories.specs.declared.kept.Kept.{Kept}
use Rattle.sg_histories.specs.Standing.{text_at}
use Rattle.sg_office.proofs.Repeats.{repeat_fits, repeat_other, repeat_same}
use Rattle.sg_office.proofs.office.Office.repeat.Goals as goal

pub body-requires : goal.body-requires
body-requires c =
    repeat_fits c.args.self.now c.office_law.ensures.history c.args.stamp.now c.args.act.now c.in-Some.kept.now c.texts_law.ensures c.office_law.ensures.limits c.requires.numbers c.requires.act c.office_law.ensures.stands
    (ap (λ (k : Kept). text_at c.args.stamp.now.station c.args.stamp.now.number k.dones) (sym c.self.view_is) ∙ sym c.in-Some.ensures)
    (c.equals.ensures.0 c.if-equals.true ∙ c.requires.text)

pub returns-in_ok-body-in-Some : goal.returns-in_ok-body-in-Some
returns-in_ok-body-in-Some c = λ history stands.
    repeat_same c.args.self.now history c.args.stamp.now c.args.act.now c.in-Some.kept.now c.in_ok-body-in-Some.body c.texts_law.ensures c.office_law.ensures.limits c.requires.numbers c.requires.act stands
    (ap (λ (k : Kept). text_at c.args.stamp.now.station c.args.stamp.now.number k.dones) (sym c.self.view_is) ∙ sym c.in-Some.ensures)
    (c.equals.ensures.0 c.if-equals.true ∙ c.requires.text) c.in_ok-body-in-Some.ensures

pub returns-in_ok-copy-in-Some : goal.returns-in_ok-copy-in-Some
returns-in_ok-copy-in-Some c = λ history stands.
    repeat_other c.args.self.now history c.args.stamp.now c.args.act.now c.in-Some.kept.now c.in_ok-copy-in-Some.copy c.texts_law.ensures c.office_law.ensures.limits c.requires.numbers c.requires.act stands
    (ap (λ (k : Kept). text_at c.args.stamp.now.station c.args.stamp.now.number k.dones) (sym c.self.view_is) ∙ sym c.in-Some.ensures)
    (λ same. both_ways c.equals.result c.if-equals.false (c.equals.ensures.1 (same ∙ sym c.requires.text))) c.in_ok-copy-in-Some.ensures
