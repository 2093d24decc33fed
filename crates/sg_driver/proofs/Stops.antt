-- Where a judge that was fed lines stops, by the last answer of the cutter.
use Rattle.std.proofs.Common.{◌≡◌, ℕ, ◌+◌, ◌*◌, ◌<◌, ◌≤◌, inl, inr, List, [], ◌∷◌, ◌++◌, length, refl, sym, subst, ap, ◌∙◌, append_assoc, append-nil, length-append, arith}
use Rattle.std.specs.Prelude.{◌⊎◌, Option, Some}
use Rattle.std.specs.List.{concat}
use Rattle.std.specs.Io.KnownBytes.{Consumes, IsAtEnd}
use Rattle.sg_lists.proofs.Lists.{concat-push}
use Rattle.sg_outside.specs.Cutting.{Cutting, to_come}
use Rattle.sg_outside.specs.Streams.{Seen}
use Rattle.sg_outside.proofs.LineLemmas.{AreLines-append}
use Rattle.sg_outside.proofs.StreamLemmas.{Consumes-front, Consumes-trans, IsAtEnd-held, Rose-later}
use Rattle.sg_driver.specs.Judging.{Judging}
use Rattle.sg_driver.specs.Says.{HasRead}
use Rattle.sg_driver.specs.Taken.{TookLines, TookOneMore, TookUnended}
use Rattle.sg_driver.specs.inside.Stopping.{AtEnd, AtNoLine, AtSettled, Cuts, CutsEnd, CutsFault, CutsLine, CutsNoLine, IsFed, Stops}
use Rattle.sg_driver.specs.declared.hearing.Stop.{Stop}
use Rattle.sg_driver.specs.declared.hearing.Stop.TheVariants as stop
use Rattle.sg_driver.proofs.Cut.{end-cut, few-behind, few-of_all, line-cut, line-some, open-cut, some_then}

-- one more short line
short-push : (done : List (List ℕ)) (line : List ℕ) → length (concat done) ≤ length done * 16384 → length line ≤ 16384 → length (concat (done ++ line ∷ [])) ≤ length (done ++ line ∷ []) * 16384
short-push done line short few = omega (arith, short, few, ap length (concat-push done line), length-append (concat done) line, length-append done (line ∷ []))

-- a refusal took little
refused-read : {Answer : Type 0} (judging : Judging Answer) (answer : Answer) (before now : Option (List ℕ)) → judging.Refuses answer
    → TookOneMore judging.Unsettled before now → HasRead judging answer before now
refused-read judging answer before now refuses took = record { took = took; ended = λ other. absurd (other refuses) }

module _ {Answer : Type 0} (judging : Judging Answer) (Stands : List (List ℕ) → Type 0) (old new : Cutting) (first before now : Seen) (fed : IsFed judging Stands old first before) where
  -- lines were taken, the text of the answer, and what is held behind it
  taken-in_all : (text : List ℕ) → Consumes (to_come old before.bytes) (to_come new now.bytes) text → Consumes first.bytes now.bytes ((concat fed.done ++ text) ++ new.ahead)
  taken-in_all text cut =
      Consumes-trans first.bytes (to_come new now.bytes) now.bytes (concat fed.done ++ text) new.ahead
      (Consumes-trans first.bytes (to_come old before.bytes) (to_come new now.bytes) (concat fed.done) text fed.taken cut) (Consumes-front new.ahead now.bytes)

  -- lines of this kind, and the bytes of one more
  took-lines : (Are : List (List ℕ) → Type 0) (text : List ℕ) → Are fed.done → Consumes (to_come old before.bytes) (to_come new now.bytes) text
      → length text + length new.ahead ≤ 16384 → TookLines Are first.bytes now.bytes
  took-lines Are text are cut few = record {
    done = fed.done;
    rest = text ++ new.ahead;
    lines = fed.are_lines;
    are = are;
    short = fed.short;
    few = omega (arith, few, length-append text new.ahead);
    taken = subst (λ (bytes : List ℕ). Consumes first.bytes now.bytes bytes) (append_assoc (concat fed.done) text new.ahead) (taken-in_all text cut);
  }

  -- ONE MORE LINE

  pub fed-line : (Next : List (List ℕ) → Type 0) → CutsLine old new before now → Next (fed.done ++ new.text ∷ []) → judging.Unsettled (fed.done ++ new.text ∷ [])
      → IsFed judging Next new first now
  fed-line Next line stands unsettled = record {
    done = fed.done ++ new.text ∷ [];
    stands = stands;
    unsettled = unsettled;
    are_lines = AreLines-append fed.done (new.text ∷ []) fed.are_lines (line.is_line, tt);
    short = short-push fed.done new.text fed.short (omega (arith, line.few, line.limit, fed.limit));
    taken = subst (λ (bytes : List ℕ). Consumes first.bytes (to_come new now.bytes) bytes) (sym (concat-push fed.done new.text))
        (Consumes-trans first.bytes (to_come old before.bytes) (to_come new now.bytes) (concat fed.done) new.text fed.taken line.cut);
    goes_on = line.goes_on;
    limit = line.limit ∙ fed.limit;
    later = omega (arith, fed.later, line.later);
  }

  -- it settles an answer
  pub stop-settled : (IsSettled : List (List ℕ) → Type 0) → CutsLine old new before now → IsSettled (fed.done ++ new.text ∷ []) → AtSettled judging IsSettled first now
  unfolding took-lines
  stop-settled IsSettled line settled =
      let some = line-some new.text line.is_line in
      let cut = line-cut first.bytes (to_come old before.bytes) (to_come new now.bytes) fed.done new.text fed.are_lines line.is_line fed.taken line.cut in
      let few : length new.text + length new.ahead ≤ 16384 = omega (arith, line.few, line.limit, fed.limit) in
      record {
        done = fed.done ++ new.text ∷ [];
        settled = settled;
        heard = λ answer is refuses. record {
          lines = (fed.done ++ new.text ∷ []) ++ [];
          are = is [];
          answers =
              some_then first.bytes cut
              (λ bytes has. subst (λ (lines : List (List ℕ)). judging.IsAnswer lines answer) (append_assoc fed.done (new.text ∷ []) has.0 ∙ sym has.1) (is has.0));
          read = refused-read judging answer first.bytes now.bytes refuses
              (record {
                took = took-lines judging.Unsettled new.text fed.unsettled line.cut few;
                up_to = record {
                  front = (concat fed.done ++ new.text) ++ new.ahead;
                  taken = taken-in_all new.text line.cut;
                  few = some_then first.bytes cut (λ bytes has. few-behind bytes fed.done new.text new.text new.ahead has (omega arith) (omega (arith, few, some)));
                };
              });
        };
      }

  -- memory was wanted at it
  pub stop-memory : CutsLine old new before now → judging.Wants fed.done → TookLines judging.Wants first.bytes now.bytes
  stop-memory line wants = took-lines judging.Wants new.text wants line.cut (omega (arith, line.few, line.limit, fed.limit))

  -- WHERE NO LINE WAS CUT

  -- bytes without a line feed have a byte, and they are as many as a line has, or the last
  open-ends : CutsNoLine old new before now → (0 < length new.text) × ((length new.text ≡ 16384) ⊎ IsAtEnd (to_come new now.bytes))
  open-ends cut =
      let limit = cut.limit ∙ fed.limit in
      elim cut.ends [
        | inl full ↦ (omega (arith, full, limit), inl (full ∙ limit))
        | inr part ↦ (part.0, inr part.1)
      ]

  stop-no_line : CutsNoLine old new before now → AtNoLine judging Stands first now
  unfolding took-lines
  stop-no_line none =
      let ends = open-ends none in
      let cut = open-cut first.bytes (to_come old before.bytes) (to_come new now.bytes) fed.done new.text fed.are_lines none.unended ends.0 ends.1 fed.taken none.cut in
      let few : length new.text + length new.ahead ≤ 16384 = omega (arith, none.few, none.limit, fed.limit) in
      record {
        done = fed.done;
        stands = fed.stands;
        wanted = λ wants. took-lines judging.Wants new.text wants none.cut few;
        heard = λ answer is refuses. record {
          lines = fed.done ++ new.text ∷ [];
          are = is [] new.text (record { front = new.text; more = []; whole = sym (append-nil new.text); unended = none.unended; ends = inl refl });
          answers = some_then first.bytes cut (λ bytes has. subst (λ (lines : List (List ℕ)). judging.IsAnswer lines answer) (sym has.has.1) (is has.has.0 has.line has.is_none));
          read = refused-read judging answer first.bytes now.bytes refuses
              (record {
                took = took-lines judging.Unsettled new.text fed.unsettled none.cut few;
                up_to = record {
                  front = (concat fed.done ++ new.text) ++ new.ahead;
                  taken = taken-in_all new.text none.cut;
                  few = some_then first.bytes cut (λ bytes has. few-behind bytes fed.done has.line new.text new.ahead has.has has.front (omega (arith, few, ends.0)));
                };
              });
        };
      }

  stop-end : CutsEnd old new before now → AtEnd judging Stands first now
  unfolding took-lines
  stop-end end =
      let cut = end-cut first.bytes (to_come old before.bytes) (to_come new now.bytes) fed.done fed.are_lines (IsAtEnd-held new.ahead now.bytes end.no_more end.ended) fed.taken end.cut in
      record {
        done = fed.done;
        stands = fed.stands;
        wanted = λ wants. took-lines judging.Wants [] wants end.cut (omega (arith, ap length end.no_more));
        heard = λ answer is. record {
          lines = fed.done;
          are = is;
          answers = some_then first.bytes cut (λ bytes has. subst (λ (lines : List (List ℕ)). judging.IsAnswer lines answer) (sym has) is);
          read = record {
            took = record {
              took = took-lines judging.Unsettled [] fed.unsettled end.cut (omega (arith, ap length end.no_more));
              up_to = record {
                front = (concat fed.done ++ []) ++ new.ahead;
                taken = taken-in_all [] end.cut;
                few = some_then first.bytes cut (λ bytes has. few-of_all bytes fed.done new.ahead has end.no_more);
              };
            };
            ended = λ _. end.ended;
          };
        };
      }

  stop-fault : CutsFault old new before now → TookUnended judging.Unsettled first.bytes now.bytes
  stop-fault fault = record {
    took = record {
      done = fed.done;
      rest = new.ahead;
      lines = fed.are_lines;
      are = fed.unsettled;
      short = fed.short;
      few = omega (arith, fault.few, fault.limit, fed.limit);
      taken = subst (λ (bytes : List ℕ). Consumes first.bytes now.bytes bytes) (ap (λ l. l ++ new.ahead) (append-nil (concat fed.done))) (taken-in_all [] fault.cut);
    };
    unended = fault.unended;
    fewer = omega (arith, fault.few, fault.limit, fed.limit);
  }

  pub stop-cut : (IsSettled : List (List ℕ) → Type 0) (how : Stop) → Cuts (Some how) old new before now → Stops judging Stands IsSettled how first now
  stop-cut IsSettled stop.NoLine cut = stop-no_line cut
  stop-cut IsSettled stop.Settled cut = absurd cut
  stop-cut IsSettled stop.End cut = stop-end cut
  stop-cut IsSettled stop.Fault cut = (Rose-later first.faults before.faults now.faults fed.later cut.cause, stop-fault cut)
  stop-cut IsSettled stop.NoMemory cut = absurd cut
