-- The record's verdict is yes, and its plan is good.
use Rattle.std.proofs.Common.{◌≡◌, true, ap, subst, sym, ◌∙◌}
use Rattle.sg_record.specs.Formed.{is_formed}
use Rattle.sg_record.specs.declared.record.Record.{Record}
use Rattle.sg_parts.proofs.Accepting.{good_plan}
use Rattle.sg_parts.specs.Given.{IsAccepted}
use Rattle.sg_recount.proofs.findings.find.Goals as goal

pub marked_codes-requires-clause-formed : goal.marked_codes-requires-clause-formed
marked_codes-requires-clause-formed c = subst (λ (r : Record). is_formed r ≡ true) (sym c.posted-posted.ensures.posted) c.posted-posted.ensures.parts.accepted.formed

pub marked_codes-requires-clause-index : goal.marked_codes-requires-clause-index
marked_codes-requires-clause-index c = c.index.ensures ∙ ap (λ (r : Record). r.plan) (sym c.posted-posted.ensures.posted)

pub find_in-requires : goal.find_in-requires
find_in-requires c =
    let accepted = subst (λ (r : Record). IsAccepted r) (sym c.posted-posted.ensures.posted) c.posted-posted.ensures.parts.accepted in
    record { good = good_plan c.posted-posted.result.now accepted; accepted = accepted; table = c.in_ok-marked.ensures }
