use Rattle.std.proofs.Common.{◌≡◌, ℕ, ◌+◌, ◌==◌, nat_lt, ◌&&◌, ◌||◌, not, if◌then◌else◌, Bool, false, Option, get_or, sym, ap₂, ◌∙◌, arith}
use Rattle.std.specs.Option.{option_map_or}
use Rattle.sg_check.specs.Facts.{public_bytes}
use Rattle.sg_check.specs.Kinds.{differ, wrong_audit, wrong_number, wrong_paper}
use Rattle.sg_commit.specs.declared.Opening.{Opening}
use Rattle.sg_ledger.proofs.DrawSteps.{public_judged}
use Rattle.sg_ledger.proofs.ShownJudged.{audit_judged, number_judged, paper_judged}
use Rattle.sg_ledger.specs.inside.Tables.{most_marks}
use Rattle.sg_plan.proofs.PlanLaws.{bounds}
use Rattle.sg_plan.specs.Ballots.{entries_of, entry_place}
use Rattle.sg_ledger.proofs.ledger.Ledger.is_row_print_bad.Goals as goal

pub overflow_add-row : goal.overflow_add-row
overflow_add-row c = omega (arith, c.requires.placed.2, (bounds c.args.self.now.book c.plan.ensures.good).few_entries c.args.race c.requires.placed.0)

pub look-requires : goal.look-requires
look-requires c = omega (arith, c.requires.placed.0, c.requires.placed.1, (bounds c.args.self.now.book c.plan.ensures.good).few_instances, c.requires.sized.both_counts)

pub returns : goal.returns
returns c = λ lines tells.
    let plan = c.args.self.now.book in
    let race = c.args.race in
    let instance = c.args.instance in
    let opening = c.args.opening.now in
    let in_plan = c.requires.placed in
    let few = bounds plan c.plan.ensures.good in
    let audits = c.args.self.now.audits in
    let audit : c.is_flag_wrong-audit.result ≡ wrong_audit plan lines race opening =
    c.is_flag_wrong-audit.ensures
    ∙ (ap₂ (λ (b : Bool) (l : Option Opening). option_map_or (λ (o : Opening). nat_lt o.value (entries_of plan race) && differ b (get_or audits.audited (entry_place plan race o.value) false)) l false) c.are_both-is_both.ensures c.left_opening.ensures
    ∙ audit_judged plan audits.audited lines race opening in_plan.0 tells.audits.audited) in
    let boths_are = sym (c.look.ensures 0) ∙ tells.audits.boths race instance in_plan.0 in_plan.1 in
    let audits_are = sym (c.look-2.ensures 0) ∙ tells.audits.entries race in_plan.0 in
    let number : c.is_number_wrong-number.result ≡ wrong_number plan lines race instance c.args.row opening =
    c.is_number_wrong-number.ensures
    ∙ (ap₂ (λ (n : ℕ) (b : Bool). c.args.row + 1 == n && not (c.look.result + (if b then 1 else 0) == c.look-2.result)) c.entries.ensures c.are_both-is_both.ensures
    ∙ number_judged most_marks plan lines race instance c.args.row c.look.result c.look-2.result opening (omega (arith, few.few_entries race in_plan.0)) boths_are audits_are (tells.audits.few race instance in_plan.0 in_plan.1)) in
    let paper : c.is_paper_wrong-paper.result ≡ wrong_paper plan lines race opening =
    c.is_paper_wrong-paper.ensures
    ∙ paper_judged plan audits.audited audits.papers c.args.self.now.codes.known lines race opening in_plan.0 (omega (arith, few.two_candidates race in_plan.0)) tells.audits.audited tells.audits.papers tells.codes.known in
    let public = c.is_public.ensures ∙ public_judged c.args.self.now.drawn.coins (public_bytes lines) tells.drawn.coins in
    c.is_print_bad.ensures ∙ ap₂ (λ (first last : Bool). first || last) (ap₂ (λ (p r : Bool). p && r) public (ap₂ (λ (a n : Bool). a || n) audit number)) paper
