-- What is kept of nothing is an office's.
use Rattle.std.proofs.Common.{◌∙◌, ap}
use Rattle.std.specs.Prelude.{replicate}
use Rattle.sg_office.proofs.NothingKept.{fresh_office, unused_slot}
use Rattle.sg_office.proofs.fresh.nothing_kept.Goals as goal

pub returns-clause-office : goal.returns-clause-office
returns-clause-office c =
    rw (c.new.ensures, c.new-2.ensures)
    (fresh_office c.args.setup c.in_ok-slots.slots c.requires (c.in_ok-slots.ensures ∙ ap (λ n. replicate n unused_slot) c.ballots.ensures))
