-- So far the front of the array is what is read, and the words that are left give the rest.
use Rattle.std.proofs.Common.{length}
use Rattle.sg_lines.specs.Words.{code_of}
use Rattle.sg_forms.proofs.Few.{IsReadTo}
use Rattle.sg_forms.proofs.lists.few_codes.Given as goal

abbrev pub invariant-loop-word : goal.invariant-loop-word
invariant-loop-word l = IsReadTo (code_of l.version) 16 l.codes l.count l.words l.fn.words

abbrev pub decreases-loop-word : goal.decreases-loop-word
decreases-loop-word l = length l.words
