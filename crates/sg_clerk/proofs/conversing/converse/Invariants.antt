-- The asks so far were replied to, and the lines of the replies written.
use Rattle.std.proofs.Common.{◌≡◌, ◌≤◌, List}
use Rattle.sg_outside.specs.Streams.{seen}
use Rattle.sg_histories.specs.Histories.{Entry}
use Rattle.sg_histories.specs.Standing.{StandsFor}
use Rattle.sg_clerk.proofs.TalkGoes.{Talking}
use Rattle.sg_clerk.proofs.conversing.converse.Given as goal

abbrev pub invariant-loop-ending : goal.invariant-loop-ending
invariant-loop-ending g l = record {
  goes : (history : List Entry) → StandsFor l.fn.office history
      → Talking g.A.Asker.exchanging (g.A.Asker.came l.fn.asker l.fn.input l.asker l.input) l.office (g.K.Keeper.tells l.fn.keeper) (g.K.Keeper.rows l.fn.keeper) (g.K.Keeper.rows l.keeper)
      (g.K.Keeper.faults l.fn.keeper) (g.K.Keeper.faults l.keeper) (seen (g.O.Sink.written l.fn.out) (g.O.Sink.faults l.fn.out)) (seen (g.O.Sink.written l.out) (g.O.Sink.faults l.out))
      l.fn.office.setup history;
  ready : g.A.Asker.is_ready l.asker l.input;
  setup : l.office.setup ≡ l.fn.office.setup;
  told : g.K.Keeper.tells l.fn.keeper → g.K.Keeper.tells l.keeper;
  write_later : g.O.Sink.faults l.fn.out ≤ g.O.Sink.faults l.out;
}

abbrev pub decreases-loop-ending : goal.decreases-loop-ending
decreases-loop-ending g l = g.A.Asker.left_in l.asker l.input
