-- How a run of `do` ends, by how its talk did.
use Rattle.std.proofs.Common.{◌≡◌, ℕ, List, [], ◌∷◌, Some, None, inl, inr, refl, sym, subst, append-nil, arith}
use Rattle.std.specs.Prelude.{Option}
use Rattle.sg_outside.specs.Cutting.{Cutting}
use Rattle.sg_outside.specs.Streams.{Seen}
use Rattle.sg_outside.specs.TextLines.{lines_of}
use Rattle.sg_outside.proofs.StreamLemmas.{Appends-nil}
use Rattle.sg_keeper.specs.declared.rows.Rows.{Rows}
use Rattle.sg_keeper.specs.declared.setup.Setup.{Setup}
use Rattle.sg_talk.specs.Talk.{Exchange, stores_in}
use Rattle.sg_histories.specs.Histories.{Entry}
use Rattle.sg_clerk.specs.Outside.{Outside, input_at, output_at}
use Rattle.sg_clerk.specs.Asking.{EndsAfter, EndsBy, TalkBy, TalkedBy, stores_by}
use Rattle.sg_clerk.specs.Does.{Does, EndsLines, LineTalk, lines_in, texts_in}
use Rattle.sg_clerk.specs.Ends.{HasFailed, MissesLast}
use Rattle.sg_clerk.specs.Lines.{AreFirstLines, EndsSo}
use Rattle.sg_clerk.specs.Talks.{KeeperFollows}
use Rattle.sg_clerk.specs.inside.LineAsks.{IsStopped, LinesCame, LinesOver, by_lines}
use Rattle.sg_clerk.specs.declared.asker.Stop.{Stop}
use Rattle.sg_clerk.specs.declared.asker.Stop.TheVariants as stop
use Rattle.sg_clerk.specs.declared.ended.Ending.{Ending}
use Rattle.sg_clerk.specs.declared.ended.Ending.TheVariants as ending
use Rattle.sg_clerk.proofs.TalkGoes.{cut-misses}
use Rattle.sg_clerk.proofs.Follows.{follows-none}
use Rattle.sg_clerk.proofs.LineAsks.{came-first, came-took}
use Rattle.sg_clerk.proofs.TalkGrows.{misses-none}
use Rattle.sg_clerk.proofs.Taking.{took-nothing}

-- THE TALK

line_talk : (setup : Setup) (exchanges : List Exchange) (history next : List Entry) → TalkBy by_lines setup exchanges history next → LineTalk setup exchanges history next
line_talk setup [] history next talk = talk
line_talk setup (one ∷ others) history next talk = (talk.0, talk.1, line_talk setup others talk.0 next talk.2)

line_stores : (exchanges : List Exchange) → stores_by by_lines exchanges ≡ stores_in exchanges
line_stores [] = refl
line_stores (one ∷ others) = let ih = line_stores others in omega (arith, ih)

-- THE END

-- where no more lines came
over_ends : (why : Stop) (how : Ending) (lines texts : List (List ℕ)) (input input' out out' : Seen) → IsStopped why input input' lines → EndsAfter why how texts out out'
    → HasFailed how input.faults input'.faults out.faults out'.faults × EndsSo how lines texts input.bytes input'.bytes out.bytes out'.bytes
over_ends why how lines texts input input' out out' stopped ends = by_stop why stopped ends
  where
    Is : Ending → Type 0
    Is h = HasFailed h input.faults input'.faults out.faults out'.faults × EndsSo h lines texts input.bytes input'.bytes out.bytes out'.bytes

    by_stop : (w : Stop) → IsStopped w input input' lines → EndsAfter w how texts out out' → Is how
    by_stop stop.Done stopped ends = subst Is (sym ends.0) (tt, (stopped, ends.1))
    by_stop stop.ReadFault stopped ends = subst Is (sym ends.0) (stopped.0, (stopped.1, ends.1))
    by_stop stop.LinkFault stopped ends = absurd stopped
    by_stop (stop.Unfit unfit) stopped ends =
        elim ends [
          | inl told ↦ subst Is (sym told.0) (tt, (stopped, told.1))
          | inr cut ↦ subst Is (sym cut.0) (cut.1, (stopped, cut-misses out.bytes out'.bytes _ cut.2))
        ]
    by_stop stop.NoMemory stopped ends = subst Is (sym ends.0) (tt, misses-none out.bytes out'.bytes texts ends.1)

lines_end : (cutter : Cutting) (room : ℕ) (how : Ending) (setup : Setup) (exchanges : List Exchange) (input input' out out' : Seen)
    → EndsBy by_lines (LinesCame cutter room input input') (λ why. LinesOver why input input') how out out' setup exchanges → EndsLines input input' out out' how setup exchanges
lines_end cutter room how setup exchanges input input' out out' (inl over) =
    let ends = over_ends over.why how (lines_in exchanges) (texts_in setup.plan.version exchanges) input input' out out' over.over.stops over.ends in
    record { lines = over.over.lines; few = over.over.few; took = over.over.took; cause = ends.0; ends = ends.1 }
lines_end cutter room how setup exchanges input input' out out' (inr cut) =
    let misses = cut-misses out.bytes out'.bytes (texts_in setup.plan.version exchanges) cut.cut in
    elim cut.cause [
      | inl failed ↦ ends_at (ending.WriteFault None) failed.1 (tt, subst (λ (l : List (List ℕ)). MissesLast out.bytes out'.bytes l) (sym (append-nil (texts_in setup.plan.version exchanges))) misses) failed.0
      | inr memory ↦ ends_at ending.NoMemory tt misses memory
    ]
  where
    ends_at : (h : Ending) → HasFailed h input.faults input'.faults out.faults out'.faults → EndsSo h (lines_in exchanges) (texts_in setup.plan.version exchanges) input.bytes input'.bytes out.bytes out'.bytes
        → how ≡ h → EndsLines input input' out out' how setup exchanges
    ends_at h cause ends is = subst (λ (e : Ending). EndsLines input input' out out' e setup exchanges) (sym is) (record {
      lines = came-first cutter room input input' exchanges cut.came;
      few = omega (arith, cut.came.counted);
      took = came-took cutter room input input' exchanges cut.came;
      cause = cause;
      ends = ends;
    })

-- the talk over the lines
pub does-talk : (cutter : Cutting) (room : ℕ) (how : Ending) (setup : Setup) (start : List Entry) (tells : Type 0) (rows after : Rows) (before now : Outside)
    → TalkedBy by_lines (LinesCame cutter room (input_at before) (input_at now)) (λ why. LinesOver why (input_at before) (input_at now)) how (output_at before) (output_at now)
    setup start tells rows after before.keep_faults now.keep_faults
    → Does how setup start tells rows after before now
does-talk cutter room how setup start tells rows after before now talked = record {
  exchanges = talked.exchanges;
  next = talked.next;
  talk = line_talk setup talked.exchanges start talked.next talked.talk;
  keeper = subst (λ (n : ℕ). KeeperFollows setup start talked.next n tells rows after before.keep_faults now.keep_faults) (line_stores talked.exchanges) talked.keeper;
  ends = lines_end cutter room how setup talked.exchanges (input_at before) (input_at now) (output_at before) (output_at now) talked.ends;
}

-- memory was wanted before the first line
no-lines : (known : Option (List ℕ)) → AreFirstLines known []
no-lines None = tt
no-lines (Some bytes) = (lines_of bytes, refl)

pub does-nothing : (tells : Type 0) (rows : Rows) (setup : Setup) (start : List Entry) (before : Outside) → Does ending.NoMemory setup start tells rows rows before before
does-nothing tells rows setup start before = record {
  exchanges = [];
  next = start;
  talk = refl;
  keeper = follows-none setup start tells rows before.keep_faults;
  ends = record {
    lines = no-lines before.left;
    few = omega arith;
    took = took-nothing before.left;
    cause = tt;
    ends = misses-none before.written before.written [] (Appends-nil before.written);
  };
}
