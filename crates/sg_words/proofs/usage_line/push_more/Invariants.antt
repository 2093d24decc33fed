-- The words so far are there, and those that are left give all of them.
use Rattle.std.proofs.Common.{◌≡◌, ◌++◌, drop, map, string_bytes}
use Rattle.sg_words.specs.Usage.{shown_more}
use Rattle.sg_words.specs.inside.Table.{words_of}
use Rattle.sg_words.proofs.usage_line.push_more.Given as goal

abbrev pub invariant-loop-form : goal.invariant-loop-form
invariant-loop-form l =
    string_bytes l.text ++ shown_more (map words_of (drop l.form-index l.forms)) ≡ string_bytes l.fn.text ++ shown_more (map words_of l.forms)
