use Rattle.std.proofs.Common.{Some, refl, sym, subst, ap, ◌∙◌}
use Rattle.sg_judge.proofs.Advancing.{kept_plan, kept_some, kind_advances, line_advances, made_stands, seal_advances}
use Rattle.sg_judge.proofs.Placing.{taken-falls}
use Rattle.sg_judge.proofs.FirstSeal.{next_seal-at}
use Rattle.sg_judge.proofs.Reading.{room_left, taken-digits}
use Rattle.sg_judge.proofs.taking.advance_there.Goals as goal
use Rattle.sg_judge.specs.inside.Taking.{or_seal}
use Rattle.sg_plan.specs.declared.plan.Plan.{Plan}
use Rattle.sg_grammar.specs.Coordinates.{IsPlacedIn, placed}

pub returns-then-is_bad_seal-clause-goes_on : goal.returns-then-is_bad_seal-clause-goes_on
returns-then-is_bad_seal-clause-goes_on c =
    seal_advances c.args.expect.now c.args.sealer.now (Some c.args.ledger.now) c.args.bytes.now _ c.requires.there.taken refl
    (λ before taken. sym c.if-is_bad_seal.true ∙ c.is_bad_seal.ensures before taken)

pub judge_and_keep-requires-clause-placed : goal.judge_and_keep-requires-clause-placed
judge_and_keep-requires-clause-placed c =
    subst (λ (p : Plan). IsPlacedIn p (placed c.args.line.now)) (sym (kept_plan c.args.expect.now c.args.sealer.now c.args.ledger.now c.requires.stands)) c.requires.there.placed

pub judge_and_keep-requires-clause-digits : goal.judge_and_keep-requires-clause-digits
judge_and_keep-requires-clause-digits c = taken-digits c.args.expect.now c.args.bytes.now _ c.requires.there.taken

pub judge_and_keep-requires-clause-some : goal.judge_and_keep-requires-clause-some
judge_and_keep-requires-clause-some c = kept_some c.args.expect.now c.args.sealer.now c.args.ledger.now c.requires.stands

pub judge_and_keep-requires-clause-room : goal.judge_and_keep-requires-clause-room
judge_and_keep-requires-clause-room c = room_left c.args.expect.now c.args.sealer.now c.args.ledger.now c.requires.stands.0 c.args.bytes.now _ c.requires.stands.1 c.requires.there.taken

pub returns-in-Some-clause-goes_on : goal.returns-in-Some-clause-goes_on
returns-in-Some-clause-goes_on c =
    kind_advances c.args.expect.now c.args.sealer.now c.args.ledger.now c.args.bytes.now _ c.judge_and_keep.result c.in-Some.kind c.requires.there.taken refl
    (λ before taken. sym c.if-is_bad_seal.false ∙ c.is_bad_seal.ensures before taken) c.judge_and_keep.ensures.judges c.in-Some.is

pub returns-in-None-clause-goes_on : goal.returns-in-None-clause-goes_on
returns-in-None-clause-goes_on c =
    rw c.go_on.ensures (line_advances c.args.expect.now c.args.sealer.now c.add.new.self c.args.ledger.now c.judge_and_keep.new.ledger c.args.bytes.now _ c.judge_and_keep.result c.requires.there.taken refl
    (λ before taken. sym c.if-is_bad_seal.false ∙ c.is_bad_seal.ensures before taken) c.judge_and_keep.ensures.judges (c.judge_and_keep.ensures.keeps c.in-None.is) c.in-None.is c.add.ensures)

pub returns-in-None-clause-falls : goal.returns-in-None-clause-falls
returns-in-None-clause-falls c = λ good.
    rw c.go_on.ensures (taken-falls c.args.expect.now c.args.bytes.now _ (made_stands c.args.expect.now c.args.sealer.now (Some c.args.ledger.now) c.requires.stands.0 c.requires.stands.1) c.requires.there.taken)

pub returns-in-None-clause-seal : goal.returns-in-None-clause-seal
returns-in-None-clause-seal c = λ good.
    c.note_seal.ensures ∙ ap (or_seal c.args.seal.now) (sym (next_seal-at c.args.expect.now c.args.bytes.now _ c.requires.there.taken))
