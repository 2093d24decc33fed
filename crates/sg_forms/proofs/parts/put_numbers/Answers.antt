-- One number more is written.
use Rattle.std.proofs.Common.{drop, ap, arith}
use Rattle.std.specs.Prelude.{map}
use Rattle.std.proofs.lemmas.List.{drop_more}
use Rattle.sg_lines.specs.Words.{decimal}
use Rattle.sg_forms.proofs.Overwriting.{way_step}
use Rattle.sg_forms.proofs.parts.put_numbers.Goals as goal

pub loop-number-preserved : goal.loop-number-preserved
loop-number-preserved c =
    let l = c.loop-number in
    let put = c.put_part-end in
    way_step _ _ _ l.end (map decimal (drop l.number-index c.args.numbers.now)) l.out _ _ put.result put.new.out
    l.invariant (ap (map decimal) (drop_more c.args.numbers.now l.number-index 0 (omega arith))) (omega arith) put.ensures.end (omega arith) put.ensures.written
