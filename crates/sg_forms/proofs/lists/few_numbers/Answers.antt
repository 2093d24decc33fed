-- One number more is read.
use Rattle.sg_lines.specs.Words.{decimal_of}
use Rattle.sg_forms.proofs.Few.{read_more}
use Rattle.sg_forms.proofs.lists.few_numbers.Goals as goal

pub loop-word-preserved : goal.loop-word-preserved
loop-word-preserved c =
    read_more decimal_of 32 c.loop-word.numbers c.loop-word.count c.in_ok-numbers.field-0 c.in-Some.word.now c.word.new.self c.loop-word.words c.args.words
    c.loop-word.invariant c.in-Some.ensures c.in_ok-numbers.ensures.exact c.if-count-eq-MOST_RACES.false
