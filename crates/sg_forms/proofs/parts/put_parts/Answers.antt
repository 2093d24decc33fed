-- One part more is written.
use Rattle.std.proofs.Common.{drop, ap, arith, subst}
use Rattle.std.specs.Prelude.{map}
use Rattle.std.proofs.lemmas.List.{drop_more}
use Rattle.sg_forms.specs.inside.Writing.{part_word, AreParts}
use Rattle.sg_forms.proofs.Overwriting.{way_step}
use Rattle.sg_forms.proofs.parts.put_parts.Goals as goal

pub loop-part-preserved : goal.loop-part-preserved
loop-part-preserved c =
    let l = c.loop-part in
    let put = c.put_part-end in
    let spell = part_word c.args.version in
    let next = drop_more c.args.parts.now l.part-index _ (omega arith) in
    record {
      way =
          way_step _ _ _ l.end (map spell (drop l.part-index c.args.parts.now)) l.out _ _ put.result put.new.out
          l.invariant.way (ap (map spell) next) (omega arith) put.ensures.end (omega arith) put.ensures.written;
      fit = (subst (AreParts c.args.version) next l.invariant.fit).1;
    }
