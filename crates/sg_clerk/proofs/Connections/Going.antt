-- A run over connections goes on, and ends.
use Rattle.std.proofs.Common.{◌≡◌, ℕ, ◌+◌, ◌-◌, ◌^◌, ◌<◌, ◌≤◌, List, [], ◌∷◌, ◌++◌, None, length, inl, inr, refl, sym, subst, length-append, arith}
use Rattle.std.specs.Prelude.{Option, option_map}
use Rattle.sg_outside.specs.Faults.{Rose}
use Rattle.sg_outside.proofs.StreamLemmas.{Rose-later}
use Rattle.sg_links.specs.Board.{Board, accepts}
use Rattle.sg_keeper.specs.declared.rows.Rows.{Rows}
use Rattle.sg_keeper.specs.declared.setup.Setup.{Setup}
use Rattle.sg_histories.specs.Histories.{Entry}
use Rattle.sg_histories.specs.declared.kept.Kept.{Kept}
use Rattle.sg_http.specs.Visits.{Serves}
use Rattle.sg_http.specs.declared.serving.Served.{Served}
use Rattle.sg_http.specs.declared.serving.Served.TheVariants as served
use Rattle.sg_clerk.specs.Outside.{Outside, output_at}
use Rattle.sg_clerk.specs.Asking.{EndsAfter, EndsBy, RepliesNext, TalkedBy}
use Rattle.sg_clerk.specs.Ends.{HasFailed}
use Rattle.sg_clerk.specs.declared.asker.Stop.{Stop}
use Rattle.sg_clerk.specs.declared.asker.Stop.TheVariants as stop
use Rattle.sg_clerk.specs.declared.ended.Ending.{Ending}
use Rattle.sg_clerk.specs.declared.ended.Ending.TheVariants as ending
use Rattle.sg_clerk.specs.calls.Calls.{Call, TakesKnown, by_calls, failed, failures_in, lines_in}
use Rattle.sg_clerk.specs.calls.Serves.{CallsEnd, EndsSo, ServesCalls, one_more}
use Rattle.sg_clerk.specs.calls.inside.Steps.{CallsCame, CallsOver, IsShut}
use Rattle.sg_clerk.proofs.Connections.Growing.{failed-counted, failures-push, takes-none, takes-one, takes-push}

-- WHAT CAME

-- at first none did
pub calls-none : (count : ℕ) (board : Option Board) (faults : ℕ) → CallsCame count count board board faults faults []
calls-none count board faults = record { counted = omega arith; later = omega arith; failures = λ low. omega arith; takes = takes-none board }

-- one more did
calls-push : (count left left' : ℕ) (a b c : Option Board) (faults faults' faults'' : ℕ) (calls : List Call) (call : Call) → left ≡ left' + 1 → faults' ≤ faults''
    → (faults'' < 2 ^ 64 - 1 → faults' + failed call.how ≤ faults'') → TakesKnown (call ∷ []) b c → CallsCame count left a b faults faults' calls
    → CallsCame count left' a c faults faults'' (calls ++ call ∷ [])
calls-push count left left' a b c faults faults' faults'' calls call fewer later on takes came = record {
  counted = omega (arith, came.counted, fewer, length-append calls (call ∷ []));
  later = omega (arith, came.later, later);
  failures = λ low. let next = on low in omega (arith, failures-push calls call, came.failures (omega (arith, next, low)), next);
  takes = takes-push calls call a b c came.takes takes;
}

-- a connection was accepted and served
pub calls-next : (how : Served) (setup : Setup) (office : Kept) (tells : Type 0) (rows after : Rows) (keeps keeps' : ℕ) (history : List Entry)
    (count left left' : ℕ) (a b mid c : Option Board) (faults faults' middle faults'' : ℕ) (calls : List Call) → left ≡ left' + 1
    → mid ≡ option_map accepts b → faults' ≤ middle → (s : Serves how setup office history tells rows after mid c keeps keeps')
    → (how ≡ served.ReadFailed → Rose middle faults'') → (how ≡ served.WriteFailed → Rose middle faults'') → middle ≤ faults''
    → CallsCame count left a b faults faults' calls
    → RepliesNext by_calls (CallsCame count left' a c faults faults'') how setup office tells rows after keeps keeps' history calls
calls-next how setup office tells rows after keeps keeps' history count left left' a b mid c faults faults' middle faults'' calls fewer accepted order s read write later came =
    let call : Call = record { how = how; taken = s.taken; is_ended = s.is_ended; sent = s.sent; said = s.said } in
    record {
      one = call;
      next = s.next;
      turn = (s.few, s.ends);
      reply_is = refl;
      stands = s.stands;
      keeper = record { kept = s.kept; counted = s.stores };
      came = calls-push count left left' a b c faults faults' faults'' calls call fewer (omega (arith, order, later))
          (λ low. failed-counted how faults' middle faults'' order read write later low) (takes-one call b mid c accepted s.came s.board) came;
    }

-- WHERE NO MORE COMES

-- all came
pub calls-all : (count left : ℕ) (board board' : Option Board) (faults faults' : ℕ) (calls : List Call) → left ≡ 0 → CallsCame count left board board' faults faults' calls
    → CallsOver stop.Done count board board' faults faults' calls
calls-all count left board board' faults faults' calls none came =
    record { shut = (omega (arith, came.counted, none), came.failures); takes = came.takes }

-- the links failed
pub calls-fault : (count left left' : ℕ) (a b c : Option Board) (faults faults' faults'' : ℕ) (calls : List Call) → left ≡ left' + 1 → c ≡ b → Rose faults' faults''
    → CallsCame count left a b faults faults' calls → CallsOver stop.LinkFault count a c faults faults'' calls
calls-fault count left left' a b c faults faults' faults'' calls fewer same rose came = record {
  shut = (
    omega (arith, came.counted, fewer),
    Rose-later faults faults' faults'' came.later rose,
    λ low. omega (arith, rose, low, came.failures (omega (arith, rose, low))),
  );
  takes = subst (λ (b : Option Board). TakesKnown calls a b) (sym same) came.takes;
}

-- HOW THE RUN ENDS

-- the connections were served by a talk, behind the port that was listened on
pub serves-calls : (how : Ending) (setup : Setup) (start : List Entry) (count left first : ℕ) (board : Option Board) (tells : Type 0) (rows after : Rows) (before now : Outside)
    → board ≡ before.board → before.link_faults ≤ first
    → TalkedBy by_calls (CallsCame count left board now.board first now.link_faults) (λ why. CallsOver why count board now.board first now.link_faults) how
    (output_at before) (output_at now) setup start tells rows after before.keep_faults now.keep_faults
    → ServesCalls how setup start count tells rows after before now
serves-calls how setup start count left first board tells rows after before now listened order talked = record {
  exchanges = talked.exchanges;
  next = talked.next;
  talk = talked.talk;
  keeper = talked.keeper;
  ends = by_end talked.ends;
}
  where
    calls : List Call
    calls = talked.exchanges

    ends_at : (h : Ending) → TakesKnown calls board now.board → (now.link_faults < 2 ^ 64 - 1 → first + (failures_in calls + one_more h) ≤ now.link_faults)
        → HasFailed h before.link_faults now.link_faults before.write_faults now.write_faults → EndsSo h count calls before.written now.written → how ≡ h → CallsEnd count before now how setup calls
    ends_at h takes failures cause ends is = subst (λ (e : Ending). CallsEnd count before now e setup calls) (sym is) (record {
      failures = λ low. omega (arith, order, failures low);
      takes = subst (λ (b : Option Board). TakesKnown calls b now.board) listened takes;
      cause = cause;
      ends = ends;
    })

    by_stop : (why : Stop) → TakesKnown calls board now.board → IsShut why count first now.link_faults calls → EndsAfter why how (lines_in calls) (output_at before) (output_at now)
        → CallsEnd count before now how setup calls
    by_stop stop.Done takes shut ends = ends_at ending.Done takes (λ low. omega (arith, shut.1 low)) tt (shut.0, ends.1) ends.0
    by_stop stop.LinkFault takes shut ends = ends_at ending.LinkFault takes shut.2 (Rose-later before.link_faults first now.link_faults order shut.1) (shut.0, ends.1) ends.0
    by_stop stop.ReadFault takes shut ends = absurd shut
    by_stop (stop.Unfit why) takes shut ends = absurd shut
    by_stop stop.NoMemory takes shut ends = absurd shut

    by_end : EndsBy by_calls (CallsCame count left board now.board first now.link_faults) (λ why. CallsOver why count board now.board first now.link_faults) how
        (output_at before) (output_at now) setup calls → CallsEnd count before now how setup calls
    by_end (inl over) = by_stop over.why over.over.takes over.over.shut over.ends
    by_end (inr cut) =
        let few : length calls ≤ count = omega (arith, cut.came.counted) in
        elim cut.cause [
          | inl failed ↦ ends_at (ending.WriteFault None) cut.came.takes (λ low. omega (arith, cut.came.failures low)) failed.1 (few, cut.cut) failed.0
          | inr memory ↦ ends_at ending.NoMemory cut.came.takes (λ low. omega (arith, cut.came.failures low)) tt (few, cut.cut) memory
        ]
