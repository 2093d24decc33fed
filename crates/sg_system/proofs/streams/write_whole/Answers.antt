-- One piece more is written.
use Rattle.std.proofs.Common.{◌++◌, take}
use Rattle.sg_outside.proofs.StreamLemmas.{Appends-trans}
use Rattle.sg_system.proofs.Writing.{next_rest}
use Rattle.sg_system.proofs.streams.write_whole.Goals as goal

pub loop-rest-preserved : goal.loop-rest-preserved
loop-rest-preserved g c =
    let l = c.loop-rest in
    let piece = take c.in_ok-count.count l.rest.now in (
      l.invariant.0 ++ piece,
      next_rest l.invariant.0 l.rest.now c.args.bytes.now c.in_ok-count.count c.in_ok-count.ensures.bound l.invariant.1,
      Appends-trans _ _ _ l.invariant.0 piece l.invariant.2 c.in_ok-count.ensures.bytes,
    )
