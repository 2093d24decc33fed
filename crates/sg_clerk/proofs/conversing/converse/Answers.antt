-- One more ask was replied to, or the talk ends.
use Rattle.std.proofs.Common.{◌∙◌, refl, arith}
use Rattle.sg_clerk.proofs.TalkGoes.{talking-ends, talking-on, talking-start}
use Rattle.sg_clerk.proofs.conversing.converse.Goals as goal

pub loop-ending-init : goal.loop-ending-init
loop-ending-init g c = record {
  goes = λ history stands. talking-start g.A.Asker.exchanging (g.A.Asker.came c.args.asker.now c.args.input.now c.args.asker.now c.args.input.now) _ _ _ _ _ _ history stands c.requires.none;
  ready = c.requires.ready;
  setup = refl;
  told = λ was. was;
  write_later = omega arith;
}

pub loop-ending-preserved : goal.loop-ending-preserved
loop-ending-preserved g c =
    let kept = c.loop-ending.invariant in
    record {
      goes = λ history stands.
          let goes = kept.goes history stands in
          talking-on g.A.Asker.exchanging (g.A.Asker.came c.args.asker.now c.args.input.now c.loop-ending.asker c.loop-ending.input) (g.A.Asker.came c.args.asker.now c.args.input.now c.reply_next.new.asker c.reply_next.new.input)
          (g.A.Asker.over c.args.asker.now c.args.input.now c.reply_next.new.asker c.reply_next.new.input) _ _ _ _ _ _ _ _ _ _ _ _ _ _ _ _ kept.setup kept.told c.in-Ok.ensures.keeper_later goes
          (c.in-Ok.ensures.replies goes.next c.args.asker.now c.args.input.now goes.exchanges goes.stands goes.came);
      ready = c.in-Ok.ensures.ready;
      setup = c.in-Ok.ensures.setup ∙ kept.setup;
      told = λ was. c.in-Ok.ensures.told (kept.told was);
      write_later = omega (arith, kept.write_later, c.in-Ok.ensures.later);
    }

pub returns-in-Err-clause-talks : goal.returns-in-Err-clause-talks
returns-in-Err-clause-talks g c = λ history stands.
    let kept = c.loop-ending.invariant in
    let goes = kept.goes history stands in
    talking-ends g.A.Asker.exchanging (g.A.Asker.came c.args.asker.now c.args.input.now c.loop-ending.asker c.loop-ending.input) (g.A.Asker.came c.args.asker.now c.args.input.now c.reply_next.new.asker c.reply_next.new.input)
    (g.A.Asker.over c.args.asker.now c.args.input.now c.reply_next.new.asker c.reply_next.new.input) _ _ _ _ _ _ _ _ _ _ _ _ _ _ _ _ _ kept.setup kept.told c.in-Err.ensures.keeper_later kept.write_later goes
    (c.in-Err.ensures.replies goes.next c.args.asker.now c.args.input.now goes.exchanges goes.stands goes.came)
