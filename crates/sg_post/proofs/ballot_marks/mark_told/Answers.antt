-- A ballot that is not cast marks nothing.
use Rattle.std.proofs.Common.{ap}
use Rattle.sg_plan.specs.declared.plan.Fate.{Fate}
use Rattle.sg_tables.specs.Posts.{fate_marks}
use Rattle.sg_post.proofs.RowMarking.{fate-none}
use Rattle.sg_post.proofs.ballot_marks.mark_told.Goals as goal

pub returns-in-Unused : goal.returns-in-Unused
returns-in-Unused c =
    fate-none c.args.tables.now.plan c.args.tables.now.seed c.args.race c.args.told.now c.args.bits.now c.requires.bits
    (λ candidate. ap (λ (f : Fate). fate_marks c.args.tables.now.plan c.args.race candidate f) c.in-Unused.is)

pub returns-in-Spoiled : goal.returns-in-Spoiled
returns-in-Spoiled c =
    fate-none c.args.tables.now.plan c.args.tables.now.seed c.args.race c.args.told.now c.args.bits.now c.requires.bits
    (λ candidate. ap (λ (f : Fate). fate_marks c.args.tables.now.plan c.args.race candidate f) c.in-Spoiled.is)

pub returns-in-Audited : goal.returns-in-Audited
returns-in-Audited c =
    fate-none c.args.tables.now.plan c.args.tables.now.seed c.args.race c.args.told.now c.args.bits.now c.requires.bits
    (λ candidate. ap (λ (f : Fate). fate_marks c.args.tables.now.plan c.args.race candidate f) c.in-Audited.is)

pub returns-in-Voided : goal.returns-in-Voided
returns-in-Voided c =
    fate-none c.args.tables.now.plan c.args.tables.now.seed c.args.race c.args.told.now c.args.bits.now c.requires.bits
    (λ candidate. ap (λ (f : Fate). fate_marks c.args.tables.now.plan c.args.race candidate f) c.in-Voided.is)
