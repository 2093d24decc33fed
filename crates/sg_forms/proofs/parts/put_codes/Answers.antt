-- One code more is written.
use Rattle.std.proofs.Common.{drop, ap, arith}
use Rattle.std.specs.Prelude.{map}
use Rattle.std.proofs.lemmas.List.{drop_more}
use Rattle.sg_lines.specs.Words.{code_word}
use Rattle.sg_forms.proofs.Overwriting.{way_step}
use Rattle.sg_forms.proofs.parts.put_codes.Goals as goal

pub loop-code-preserved : goal.loop-code-preserved
loop-code-preserved c =
    let l = c.loop-code in
    let put = c.put_part-end in
    let spell = code_word c.args.version in
    way_step _ _ _ l.end (map spell (drop l.code-index c.args.codes.now)) l.out _ _ put.result put.new.out
    l.invariant (ap (map spell) (drop_more c.args.codes.now l.code-index 0 (omega arith))) (omega arith) put.ensures.end (omega arith) put.ensures.written
