-- The lines follow one another.
use Rattle.std.proofs.Common.{ap, refl, ◌∷◌, [], map, arith}
use Rattle.sg_lists.proofs.Tests.{All-slice_get}
use Rattle.sg_forms.specs.Spelling.{FitsForm}
use Rattle.sg_record.proofs.Putting.{items_end, items_fault, items_next, left_all}
use Rattle.sg_record.proofs.one_line.put_lines.Goals as goal

pub loop-at-init : goal.loop-at-init
loop-at-init g c = left_all _ _

pub returns-in_err-put : goal.returns-in_err-put
returns-in_err-put g c =
    items_fault _ _ _ _ _ (map g.T.OneLine.told) c.args.items.now c.loop-at.at (g.T.OneLine.told c.get.result.now ∷ []) c.loop-at.invariant (ap (map g.T.OneLine.told) c.get.ensures.rest) c.from_residual.ensures.0 c.in_err-put.ensures

pub loop-at-preserved : goal.loop-at-preserved
loop-at-preserved g c =
    items_next _ _ _ _ (map g.T.OneLine.told) c.args.items.now c.loop-at.at (g.T.OneLine.told c.get.result.now ∷ []) c.loop-at.invariant (ap (map g.T.OneLine.told) c.get.ensures.rest) c.in_ok-put.ensures

pub returns : goal.returns
returns g c = items_end _ _ _ (map g.T.OneLine.told) c.args.items.now c.loop-at.at refl c.loop-at.invariant (omega arith)

pub put-requires : goal.put-requires
put-requires g c =
    record { fits = rw c.loop-at.invariant.puts.version (All-slice_get (λ item. FitsForm c.args.pen.now.version (g.T.OneLine.told item)) c.args.items.now c.loop-at.at c.get.result.now c.requires.fits c.get.ensures.item) }
