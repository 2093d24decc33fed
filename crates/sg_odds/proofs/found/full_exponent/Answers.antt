-- The table is that of the parts' record.
use Rattle.std.proofs.Common.{◌≡◌, true, ap, subst, sym, ◌∙◌}
use Rattle.sg_record.specs.Formed.{is_formed}
use Rattle.sg_record.specs.Places.{places_in}
use Rattle.sg_record.specs.declared.record.Record.{Record}
use Rattle.sg_check.specs.Printings.{marked_code}
use Rattle.sg_facts.specs.Tables.{HasTable}
use Rattle.sg_odds.proofs.found.full_exponent.Goals as goal

pub marked_codes-requires-clause-formed : goal.marked_codes-requires-clause-formed
marked_codes-requires-clause-formed c = subst (λ (r : Record). is_formed r ≡ true) (sym c.posted.ensures.posted) c.posted.ensures.parts.accepted.formed

pub marked_codes-requires-clause-index : goal.marked_codes-requires-clause-index
marked_codes-requires-clause-index c = c.index.ensures ∙ ap (λ (r : Record). r.plan) (sym c.posted.ensures.posted)

pub race_exponent-requires-clause-table : goal.race_exponent-requires-clause-table
race_exponent-requires-clause-table c =
    subst (λ (r : Record). HasTable r.plan c.in_ok-marked.marked (λ race entry. marked_code r.plan race entry (places_in r))) c.posted.ensures.posted c.in_ok-marked.ensures
