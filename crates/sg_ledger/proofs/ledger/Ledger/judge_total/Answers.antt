use Rattle.std.proofs.Common.{◌≡◌, ℕ, ◌==◌, min, if◌then◌else◌, Bool, Some, None, sym, ap, ◌∙◌, arith}
use Rattle.sg_check.specs.Facts.{votes_for}
use Rattle.sg_check.specs.declared.judged.Kind.TheVariants as kind
use Rattle.sg_ledger.proofs.Judged.{total_judged, total_kind}
use Rattle.sg_ledger.specs.inside.Tables.{most_votes}
use Rattle.sg_plan.proofs.PlanLaws.{bounds}
use Rattle.sg_ledger.proofs.ledger.Ledger.judge_total.Goals as goal

pub look-votes-requires : goal.look-votes-requires
look-votes-requires c = omega (arith, c.requires.placed.0, c.requires.placed.1, (bounds c.args.self.now.book c.plan.ensures.good).few_candidates c.args.race, c.requires.sized.votes)

pub returns : goal.returns
returns c = λ lines tells.
    let votes = votes_for c.args.self.now.book c.args.race c.args.candidate lines in
    let votes_are : c.look-votes.result ≡ min votes most_votes = sym (c.look-votes.ensures 0) ∙ tells.bits.votes c.args.race c.args.candidate c.requires.placed.0 c.requires.placed.1 in
    let same : (c.look-votes.result == c.args.count) ≡ (c.args.count == votes) =
    ap (λ (v : ℕ). v == c.args.count) votes_are ∙ total_judged votes most_votes c.args.count (omega arith) in
    c.kind_of_total.ensures ∙ (ap (λ (b : Bool). if b then None else Some kind.Total) same ∙ total_kind (c.args.count == votes))
