-- What a failed put appended is the front of its piece that the count names.
use Rattle.std.proofs.Common.{take, drop, sym, take-append-drop, arith}
use Rattle.std.proofs.lemmas.Grind.{common_steps}
use Rattle.sg_outside.proofs.memory.PageSink.put.Goals as goal

pub returns-then-is_listed-2-clause-bytes : goal.returns-then-is_listed-2-clause-bytes
returns-then-is_listed-2-clause-bytes c =
    let count = c.if-is_listed.count in
    let piece = c.args.bytes.now in
    (take count piece, drop count piece, sym (take-append-drop count piece), grind (arith, common_steps))
