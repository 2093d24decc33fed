use Rattle.std.proofs.Common.{◌≡◌, ◌+◌, ◌==◌, ◌||◌, Bool, not, true, refl, sym, ap, ◌∙◌, arith}
use Rattle.sg_grammar.specs.Lines.{is_dispute}
use Rattle.sg_check.specs.Facts.{last_claim}
use Rattle.sg_check.specs.Kinds.{is_right}
use Rattle.sg_ledger.proofs.Places.{ballot_within, entry_place-end}
use Rattle.sg_ledger.proofs.ShownJudged.{answer_judged, posted_judged}
use Rattle.sg_plan.proofs.PlanLaws.{bounds}
use Rattle.sg_plan.specs.Ballots.{candidates_of, entry_at}
use Rattle.sg_ledger.proofs.ledger.Ledger.is_answer_wrong.Goals as goal

pub is_posted-marked-requires-clause-few : goal.is_posted-marked-requires-clause-few
is_posted-marked-requires-clause-few c =
    let plan = c.args.self.now.book in
    let in_plan = c.requires.placed in
    let end = entry_place-end plan c.args.race (entry_at plan c.args.race c.args.ballot 0 + candidates_of plan c.args.race) in_plan.0 (ballot_within plan c.args.race c.args.ballot c.args.column in_plan.3 in_plan.4) in
    omega (arith, c.requires.at, c.candidates-candidates.ensures, (bounds plan c.plan.ensures.good).few_all_entries, end)

pub is_posted-marked-requires-clause-known : goal.is_posted-marked-requires-clause-known
is_posted-marked-requires-clause-known c =
    let plan = c.args.self.now.book in
    let in_plan = c.requires.placed in
    let end = entry_place-end plan c.args.race (entry_at plan c.args.race c.args.ballot 0 + candidates_of plan c.args.race) in_plan.0 (ballot_within plan c.args.race c.args.ballot c.args.column in_plan.3 in_plan.4) in
    omega (arith, c.requires.at, c.candidates-candidates.ensures, c.requires.sized.known, end)

pub is_posted-marked-requires-clause-marked : goal.is_posted-marked-requires-clause-marked
is_posted-marked-requires-clause-marked c =
    let plan = c.args.self.now.book in
    let in_plan = c.requires.placed in
    let end = entry_place-end plan c.args.race (entry_at plan c.args.race c.args.ballot 0 + candidates_of plan c.args.race) in_plan.0 (ballot_within plan c.args.race c.args.ballot c.args.column in_plan.3 in_plan.4) in
    omega (arith, c.requires.at, c.candidates-candidates.ensures, c.requires.sized.marked, end)

pub returns : goal.returns
returns c = λ lines tells.
    let plan = c.args.self.now.book in
    let race = c.args.race in
    let in_plan = c.requires.placed in
    let kept = c.args.self.now.codes in
    let claim = c.in-Some.claim in
    let is : is_dispute c.args.block ≡ true = sym c.is_dispute.ensures ∙ c.if-not-is_dispute.false in
    let last : c.args.column + 1 ≡ candidates_of plan race = omega (arith, c.if-column-candidates.false, c.candidates-candidates.ensures) in
    let found = rw c.candidates-candidates.ensures at c.is_posted-marked.ensures.some in
    let none = rw c.candidates-candidates.ensures at c.is_posted-marked.ensures.none in
    let marked = posted_judged plan kept.marked kept.known lines c.args.ballot race claim.code c.args.at c.is_posted-marked.result in_plan.0 in_plan.3 tells.placed tells.codes.marked tells.codes.known c.requires.at found none in
    let wrong : not c.is_right.result ≡ not (is_right claim.answer c.is_posted-marked.result (claim.shown || c.args.code.now.code == claim.code)) =
    ap (λ (b : Bool). not b) (c.is_right.ensures ∙ ap (λ (b : Bool). is_right claim.answer c.is_posted-marked.result b) c.is_either-shown.ensures) in
    answer_judged plan lines c.args.block c.args.ballot race c.args.column c.args.code.now (last_claim lines) claim c.is_posted-marked.result (not c.is_right.result) is last refl (sym c.in-Some.is ∙ tells.claim) marked wrong
