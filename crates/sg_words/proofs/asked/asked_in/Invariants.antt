-- The forms so far do not have the name.
use Rattle.std.proofs.Common.{◌≡◌, drop, map}
use Rattle.sg_words.specs.Command.{asked_in}
use Rattle.sg_words.specs.inside.Table.{words_of}
use Rattle.sg_words.proofs.asked.asked_in.Given as goal

abbrev pub invariant-loop-form : goal.invariant-loop-form
invariant-loop-form l = asked_in (map words_of (drop l.form-index l.forms)) l.name l.words ≡ asked_in (map words_of l.forms) l.name l.words
