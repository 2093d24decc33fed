-- The setup is added where none is kept.
use Rattle.sg_clerk.proofs.Beginning.{adds_keeps, none_kept}
use Rattle.sg_clerk.proofs.begun.keep.Goals as goal

pub returns-in-Ok-false-clause-keeps : goal.returns-in-Ok-false-clause-keeps
returns-in-Ok-false-clause-keeps g c =
    adds_keeps c.begin.result c.args.setup.now (g.K.Keeper.tells c.args.keeper.now) (g.K.Keeper.tells c.is_begun.new.keeper)
    (g.K.Keeper.rows c.args.keeper.now) (g.K.Keeper.rows c.is_begun.new.keeper) (g.K.Keeper.rows c.begin.new.keeper)
    (g.K.Keeper.faults c.args.keeper.now) (g.K.Keeper.faults c.is_begun.new.keeper) (g.K.Keeper.faults c.begin.new.keeper)
    c.in-Ok-false.ensures.told c.in-Ok-false.ensures.same c.in-Ok-false.ensures.cause.later
    (λ was. none_kept c.in-Ok-false.field-0 _ (c.in-Ok-false.ensures.begun was) c.in-Ok-false.field-0-test) c.begin.ensures.adds
