-- One more code is read, or none is.
use Rattle.std.proofs.Common.{true, false, sym, ◌∙◌, arith}
use Rattle.sg_sheet.proofs.Cutting.{words_end, words_none, words_step}
use Rattle.sg_sheet.proofs.reading.read_words.Goals as goal

pub returns-in_default : goal.returns-in_default
returns-in_default c =
    words_none c.args.version c.args.count c.loop-at._at c.args.bytes.now c.loop-at.rest.now c.loop-at.list (omega (arith, c.loop-at-test.true)) c.in_default.ensures c.loop-at.invariant

pub loop-at-preserved : goal.loop-at-preserved
loop-at-preserved c =
    words_step c.args.version c.args.count c.loop-at._at c.args.bytes.now c.loop-at.rest.now c.behind-rest.result.now c.loop-at.list c.push.new.self c.in-Some.code (omega (arith, c.loop-at-test.true))
    c.in-Some.ensures c.in_ok-push.ensures.ok c.behind-rest.ensures c.loop-at.invariant

pub returns-then-is_same : goal.returns-then-is_same
returns-then-is_same c =
    words_end c.args.version c.args.count c.loop-at._at c.args.bytes.now c.loop-at.rest.now c.loop-at.list true (omega (arith, c.loop-at-test.false)) (sym c.is_same.ensures ∙ c.if-is_same.true) c.loop-at.invariant

pub returns-else-is_same : goal.returns-else-is_same
returns-else-is_same c =
    words_end c.args.version c.args.count c.loop-at._at c.args.bytes.now c.loop-at.rest.now c.loop-at.list false (omega (arith, c.loop-at-test.false)) (sym c.is_same.ensures ∙ c.if-is_same.false) c.loop-at.invariant
