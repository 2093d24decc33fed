-- One code more is read.
use Rattle.sg_lines.specs.Words.{code_of}
use Rattle.sg_forms.proofs.Few.{read_more}
use Rattle.sg_forms.proofs.lists.few_codes.Goals as goal

pub loop-word-preserved : goal.loop-word-preserved
loop-word-preserved c =
    read_more (code_of c.args.version) 16 c.loop-word.codes c.loop-word.count c.in_ok-codes.field-0 c.in-Some.word.now c.word.new.self c.loop-word.words c.args.words
    c.loop-word.invariant c.in-Some.ensures c.in_ok-codes.ensures.exact c.if-count-eq-MOST_CANDIDATES.false
