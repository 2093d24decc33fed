-- So far the front of the array is what is read, and the words that are left give the rest.
use Rattle.std.proofs.Common.{length}
use Rattle.sg_lines.specs.Words.{decimal_of}
use Rattle.sg_forms.proofs.Few.{IsReadTo}
use Rattle.sg_forms.proofs.lists.few_numbers.Given as goal

abbrev pub invariant-loop-word : goal.invariant-loop-word
invariant-loop-word l = IsReadTo decimal_of 32 l.numbers l.count l.words l.fn.words

abbrev pub decreases-loop-word : goal.decreases-loop-word
decreases-loop-word l = length l.words
