-- The half is posted, or has no opening, or has one.
use Rattle.std.proofs.Common.{sym, ◌∙◌}
use Rattle.sg_recount.proofs.Halving.{altered_given, altered_none, altered_posted}
use Rattle.sg_recount.proofs.altered.half_altered.Goals as goal

pub returns-then-is_some : goal.returns-then-is_some
returns-then-is_some c = sym (altered_posted c.args.basis.now.posted.now c.args.basis.now.rows.now c.args.half.side c.args.half.at.race c.args.half.at.instance c.args.half.at.row c.posted_half.result c.posted_half.ensures (sym c.is_some.ensures ∙ c.if-is_some.true))

pub returns-in-None : goal.returns-in-None
returns-in-None c =
    sym (altered_none c.args.basis.now.posted.now c.args.basis.now.rows.now c.args.half.side c.args.half.at.race c.args.half.at.instance c.args.half.at.row c.posted_half.result c.posted_half.ensures (sym c.is_some.ensures ∙ c.if-is_some.false)
    (sym c.given_half.ensures ∙ c.in-None.is))

pub returns-in-Some : goal.returns-in-Some
returns-in-Some c =
    c.wrong_pointer.ensures
    ∙ sym (altered_given c.args.basis.now.posted.now c.args.basis.now.rows.now c.args.half.side c.args.half.at.race c.args.half.at.instance c.args.half.at.row c.in-Some.opening c.posted_half.result c.posted_half.ensures (sym c.is_some.ensures ∙ c.if-is_some.false)
    (sym c.given_half.ensures ∙ c.in-Some.is))
