-- What the next bytes of an input are to an office that lines are asked of, by what the cutter gave.
use Rattle.std.proofs.Common.{◌≡◌, ℕ, ◌+◌, ◌<◌, ◌≤◌, List, [], ◌∷◌, ◌++◌, length, None, Some, inl, inr, refl, sym, subst, ap, append-nil, length-append, arith}
use Rattle.std.proofs.lemmas.Bool.Decides.{nat_tests}
use Rattle.std.specs.Prelude.{◌⊎◌, Option, true, false, ◌==◌}
use Rattle.std.specs.List.{concat}
use Rattle.std.specs.Io.KnownBytes.{Consumes, IsAtEnd}
use Rattle.sg_lists.proofs.Lists.{concat-push}
use Rattle.sg_plan.specs.Limits.{longest_ask, most_asks}
use Rattle.sg_outside.specs.Cutting.{Cutting, to_come}
use Rattle.sg_outside.specs.Faults.{Rose}
use Rattle.sg_outside.specs.Streams.{Seen}
use Rattle.sg_outside.specs.declared.cutter.Got.TheVariants as got
use Rattle.sg_outside.specs.TextLines.{AreLines, HasNoFeed, IsLine}
use Rattle.sg_outside.proofs.LineLemmas.{AreLines-append}
use Rattle.sg_outside.proofs.StreamLemmas.{Consumes-front, Consumes-trans, IsAtEnd-held, Rose-later}
use Rattle.sg_keeper.specs.declared.rows.Rows.{Rows}
use Rattle.sg_keeper.specs.declared.setup.Setup.{Setup}
use Rattle.sg_talk.specs.declared.answered.Answered.{Answered}
use Rattle.sg_talk.specs.Talk.{Answers, Exchange}
use Rattle.sg_histories.specs.declared.kept.Kept.{Kept}
use Rattle.sg_histories.specs.Histories.{Entry}
use Rattle.sg_talk.specs.Turns.{AskTurn, CountsStore, HasAnswered}
use Rattle.sg_clerk.specs.Asking.{RepliesNext}
use Rattle.sg_clerk.specs.Does.{lines_in}
use Rattle.sg_clerk.specs.Lines.{AreAllLines, AreFirstLines, IsRefusedFor}
use Rattle.sg_clerk.specs.Taken.{AreShort, TookLines}
use Rattle.sg_clerk.specs.inside.LineAsks.{CutsOne, LinesCame, LinesOver, by_lines}
use Rattle.sg_clerk.specs.declared.asker.Stop.TheVariants as stop
use Rattle.sg_clerk.specs.declared.ended.Unfit.{Unfit}
use Rattle.sg_clerk.specs.declared.ended.Unfit.TheVariants as unfit
use Rattle.sg_clerk.proofs.TalkGrows.{all-lines, all-lines_part, first-lines, first-of_all, lines-length, lines-push, refused-stands}
use Rattle.sg_clerk.proofs.Taking.{CutBehind, short-push, took-behind}

-- WHAT CAME

-- at first none did
pub came-none : (cutter : Cutting) (now : Seen) → cutter ≡ record { limit = 65536; text = []; ahead = []; is_over = false } → LinesCame cutter most_asks now now []
came-none cutter now fresh = subst (λ (c : Cutting). LinesCame c most_asks now now []) (sym fresh) (record {
  short = tt;
  taken = none-held now.bytes;
  held = omega arith;
  counted = refl;
  later = omega arith;
  are = inl (refl, tt);
})
  where
    none-held : (known : Option (List ℕ)) → Consumes known (to_come (record { limit = 65536; text = []; ahead = []; is_over = false }) known) []
    none-held None = tt
    none-held (Some bytes) = refl

-- as many more may come, in other words
pub came-at : (cutter : Cutting) (room other : ℕ) (before now : Seen) (exchanges : List Exchange) → room ≡ other → LinesCame cutter room before now exchanges → LinesCame cutter other before now exchanges
came-at cutter room other before now exchanges is came = subst (λ (n : ℕ). LinesCame cutter n before now exchanges) is came

-- these are first lines of the input
pub came-first : (cutter : Cutting) (room : ℕ) (before now : Seen) (exchanges : List Exchange) → LinesCame cutter room before now exchanges → AreFirstLines before.bytes (lines_in exchanges)
came-first cutter room before now exchanges came =
    elim came.are [
      | inl more ↦ first-lines before.bytes (to_come cutter now.bytes) (lines_in exchanges) more.1 came.taken
      | inr all ↦ first-of_all before.bytes (lines_in exchanges) all.1.all
    ]

-- they were taken, and little more
pub came-took : (cutter : Cutting) (room : ℕ) (before now : Seen) (exchanges : List Exchange) → LinesCame cutter room before now exchanges → TookLines (lines_in exchanges) before.bytes now.bytes
came-took cutter room before now exchanges came = took-behind (lines_in exchanges) [] before.bytes now.bytes (record {
  ahead = cutter.ahead;
  short = came.short;
  cut = subst (λ (l : List ℕ). Consumes before.bytes (to_come cutter now.bytes) l) (sym (append-nil (concat (lines_in exchanges)))) came.taken;
  few = omega (arith, came.held);
})

-- where more bytes are cut, they are whole lines
goes-on : (cutter : Cutting) (room : ℕ) (before now : Seen) (exchanges : List Exchange) → (cutter.is_over ≡ true → ⊥) → LinesCame cutter room before now exchanges
    → (cutter.is_over ≡ false) × AreLines (lines_in exchanges)
goes-on cutter room before now exchanges running came =
    elim came.are [
      | inl more ↦ more
      | inr all ↦ absurd (running all.0)
    ]

-- and what was cut was taken behind them
abbrev behind : (cutter more : Cutting) (text : List ℕ) (room : ℕ) (before now then : Seen) (exchanges : List Exchange) → LinesCame cutter room before now exchanges
    → Consumes (to_come cutter now.bytes) (to_come more then.bytes) text → length text + length more.ahead ≤ longest_ask → CutBehind (lines_in exchanges) text before.bytes then.bytes
behind cutter more text room before now then exchanges came cut few = record {
  ahead = more.ahead;
  short = came.short;
  cut = Consumes-trans before.bytes (to_come cutter now.bytes) (to_come more then.bytes) (concat (lines_in exchanges)) text came.taken cut;
  few = few;
}

-- ONE MORE LINE

-- the cutter gave it
pub record GivesText (cutter more : Cutting) (now then : Seen) : Type 0 where
  pub running : cutter.is_over ≡ true → ⊥
  pub cut : cutter.is_over ≡ false → Consumes (to_come cutter now.bytes) (to_come more then.bytes) more.text
  pub few : length more.text + length more.ahead ≤ longest_ask
  pub later : now.faults ≤ then.faults

pub gives-text : (cutter more : Cutting) (now then : Seen) → (cutter.is_over ≡ true → ⊥) → (cutter.is_over ≡ false → Consumes (to_come cutter now.bytes) (to_come more then.bytes) more.text)
    → length more.text + length more.ahead ≤ more.limit → more.limit ≡ cutter.limit → cutter.limit ≡ longest_ask → now.faults ≤ then.faults → GivesText cutter more now then
gives-text cutter more now then running cut few same limit later = record { running = running; cut = cut; few = omega (arith, few, same, limit); later = later }

-- where it was over, it gives no more
pub line-open : got.Line ≡ got.End → ⊥
line-open is = cc

pub part-open : got.Part ≡ got.End → ⊥
part-open is = cc

pub long-open : got.Long ≡ got.End → ⊥
long-open is = cc

pub fault-open : got.ReadFault ≡ got.End → ⊥
fault-open is = cc

-- it came
one-came : (cutter more : Cutting) (room : ℕ) (before now then : Seen) (exchanges : List Exchange) (answer : Answered) → GivesText cutter more now then
    → LinesCame cutter (room + 1) before now exchanges
    → ((more.is_over ≡ false) × AreLines (lines_in exchanges ++ more.text ∷ [])) ⊎ ((more.is_over ≡ true) × AreAllLines before.bytes then.bytes (lines_in exchanges ++ more.text ∷ []))
    → LinesCame more room before then (exchanges ++ record { bytes = more.text; answer = answer } ∷ [])
one-came cutter more room before now then exchanges answer gives came are =
    let x : Exchange = record { bytes = more.text; answer = answer } in
    let lines = sym (lines-push exchanges x) in
    let still = goes-on cutter (room + 1) before now exchanges gives.running came in
    record {
      short = subst AreShort lines (short-push (lines_in exchanges) more.text came.short (omega (arith, gives.few)));
      taken = subst (λ (l : List (List ℕ)). Consumes before.bytes (to_come more then.bytes) (concat l)) lines
          (subst (λ (l : List ℕ). Consumes before.bytes (to_come more then.bytes) l) (sym (concat-push (lines_in exchanges) more.text))
          (Consumes-trans before.bytes (to_come cutter now.bytes) (to_come more then.bytes) (concat (lines_in exchanges)) more.text came.taken (gives.cut still.0)));
      held = omega (arith, gives.few);
      counted = omega (arith, came.counted, length-append exchanges (x ∷ []));
      later = omega (arith, came.later, gives.later);
      are = subst (λ (l : List (List ℕ)). ((more.is_over ≡ false) × AreLines l) ⊎ ((more.is_over ≡ true) × AreAllLines before.bytes then.bytes l)) lines are;
    }

-- memory was wanted for its answer
lost : (cutter more : Cutting) (room : ℕ) (before now then : Seen) (exchanges : List Exchange) → GivesText cutter more now then
    → LinesCame cutter (room + 1) before now exchanges → LinesOver stop.NoMemory before then exchanges
lost cutter more room before now then exchanges gives came =
    let still = goes-on cutter (room + 1) before now exchanges gives.running came in
    record {
      lines = came-first cutter (room + 1) before now exchanges came;
      few = omega (arith, came.counted);
      took = took-behind (lines_in exchanges) more.text before.bytes then.bytes (behind cutter more more.text (room + 1) before now then exchanges came (gives.cut still.0) gives.few);
      stops = tt;
    }

pub cuts-line : (cutter more : Cutting) (room : ℕ) (before now then : Seen) (exchanges : List Exchange) → GivesText cutter more now then → more.is_over ≡ false
    → (cutter.is_over ≡ false → IsLine more.text) → LinesCame cutter (room + 1) before now exchanges → CutsOne more room before then exchanges
cuts-line cutter more room before now then exchanges gives running found came =
    let still = goes-on cutter (room + 1) before now exchanges gives.running came in
    record {
      came = λ answer. one-came cutter more room before now then exchanges answer gives came
          (inl (running, AreLines-append (lines_in exchanges) (more.text ∷ []) still.1 (found still.0, tt)));
      lost = lost cutter more room before now then exchanges gives came;
    }

pub cuts-part : (cutter more : Cutting) (room : ℕ) (before now then : Seen) (exchanges : List Exchange) → GivesText cutter more now then → more.is_over ≡ true
    → (cutter.is_over ≡ false → HasNoFeed more.text × (0 < length more.text) × (length more.text < more.limit) × (more.ahead ≡ []) × IsAtEnd then.bytes)
    → LinesCame cutter (room + 1) before now exchanges → CutsOne more room before then exchanges
cuts-part cutter more room before now then exchanges gives over found came =
    let still = goes-on cutter (room + 1) before now exchanges gives.running came in
    let part = found still.0 in
    record {
      came = λ answer. one-came cutter more room before now then exchanges answer gives came
          (inr (
            over,
            all-lines_part before.bytes (to_come more then.bytes) then.bytes (lines_in exchanges) more.text still.1 part.0 part.1
                (Consumes-trans before.bytes (to_come cutter now.bytes) (to_come more then.bytes) (concat (lines_in exchanges)) more.text came.taken (gives.cut still.0))
                (IsAtEnd-held more.ahead then.bytes part.3 part.4) part.4,
          ));
      lost = lost cutter more room before now then exchanges gives came;
    }

-- and was answered
pub line-replied : (more : Cutting) (room : ℕ) (before then : Seen) (text : List ℕ) (answer : Answered) (setup : Setup) (office : Kept) (tells : Type 0) (rows after : Rows) (faults faults' : ℕ)
    (history : List Entry) (exchanges : List Exchange) → text ≡ more.text → HasAnswered setup office tells rows after text answer history → CountsStore faults faults' answer
    → CutsOne more room before then exchanges → RepliesNext by_lines (LinesCame more room before then) answer setup office tells rows after faults faults' history exchanges
line-replied more room before then text answer setup office tells rows after faults faults' history exchanges is answered stores cuts = record {
  one = record { bytes = more.text; answer = answer };
  next = answered.next;
  turn = subst (λ (b : List ℕ). Answers (AskTurn setup) setup.plan.version b answer history answered.next) is answered.answers;
  reply_is = refl;
  stands = answered.stands;
  keeper = record { kept = answered.kept; counted = stores };
  came = cuts.came answer;
}

-- NO MORE LINES

-- at the end of the input, or behind it
pub over-end : (cutter more : Cutting) (room : ℕ) (before now then : Seen) (exchanges : List Exchange)
    → (cutter.is_over ≡ true → then ≡ now) → (cutter.is_over ≡ false → Consumes (to_come cutter now.bytes) (to_come more then.bytes) [])
    → (cutter.is_over ≡ false → (more.ahead ≡ []) × IsAtEnd then.bytes) → LinesCame cutter room before now exchanges → LinesOver stop.Done before then exchanges
over-end cutter more room before now then exchanges same cut found came =
    elim came.are [
      | inl still ↦ let at = found still.0 in
          let none : length more.ahead ≡ 0 = ap (λ (l : List ℕ). length l) at.0 in
          let cuts = behind cutter more [] room before now then exchanges came (cut still.0) (omega (arith, none)) in
          record {
            lines = came-first cutter room before now exchanges came;
            few = omega (arith, came.counted);
            took = took-behind (lines_in exchanges) [] before.bytes then.bytes cuts;
            stops = all-lines before.bytes (to_come more then.bytes) then.bytes (lines_in exchanges) still.1
                (subst (λ (l : List ℕ). Consumes before.bytes (to_come more then.bytes) l) (append-nil (concat (lines_in exchanges)))
                (Consumes-trans before.bytes (to_come cutter now.bytes) (to_come more then.bytes) (concat (lines_in exchanges)) [] came.taken (cut still.0)))
                (IsAtEnd-held more.ahead then.bytes at.0 at.1) at.1;
          }
      | inr all ↦ subst (λ (s : Seen). LinesOver stop.Done before s exchanges) (sym (same all.0)) (record {
        lines = came-first cutter room before now exchanges came;
        few = omega (arith, came.counted);
        took = came-took cutter room before now exchanges came;
        stops = all.1;
      })
    ]

-- at a failed read
pub over-fault : (cutter more : Cutting) (room : ℕ) (before now then : Seen) (exchanges : List Exchange) → (cutter.is_over ≡ true → ⊥)
    → (cutter.is_over ≡ false → Consumes (to_come cutter now.bytes) (to_come more then.bytes) []) → (cutter.is_over ≡ false → HasNoFeed more.ahead × (length more.ahead < more.limit))
    → more.limit ≡ longest_ask → Rose now.faults then.faults → (room ≡ 0 → more.ahead ≡ []) → LinesCame cutter room before now exchanges → LinesOver stop.ReadFault before then exchanges
over-fault cutter more room before now then exchanges running cut found limit rose none_more came =
    let still = goes-on cutter room before now exchanges running came in
    let at = found still.0 in
    let cuts = behind cutter more [] room before now then exchanges came (cut still.0) (omega (arith, at.1, limit)) in
    record {
      lines = came-first cutter room before now exchanges came;
      few = omega (arith, came.counted);
      took = took-behind (lines_in exchanges) [] before.bytes then.bytes cuts;
      stops = (
        Rose-later before.faults now.faults then.faults came.later rose,
        record {
          rest = more.ahead;
          whole = still.1;
          unended = at.0;
          few = omega (arith, at.1, limit);
          none_more = λ full. none_more (omega (arith, full, lines-length exchanges, came.counted));
          taken = subst (λ (l : List ℕ). Consumes before.bytes then.bytes (l ++ more.ahead)) (append-nil (concat (lines_in exchanges)))
              (Consumes-trans before.bytes (to_come more then.bytes) then.bytes (concat (lines_in exchanges) ++ []) more.ahead cuts.cut (Consumes-front more.ahead then.bytes));
        },
      );
    }

-- at bytes that are refused
over-refused : (why : Unfit) (next text : List ℕ) (rest : Option (List ℕ)) (cutter more : Cutting) (room : ℕ) (before now then : Seen) (exchanges : List Exchange)
    → (whole : (cutter.is_over ≡ false) × AreLines (lines_in exchanges)) → Consumes (to_come cutter now.bytes) (to_come more then.bytes) text → length text + length more.ahead ≤ longest_ask
    → Consumes (to_come cutter now.bytes) rest next → IsRefusedFor why (lines_in exchanges) next → LinesCame cutter room before now exchanges → LinesOver (stop.Unfit why) before then exchanges
over-refused why next text rest cutter more room before now then exchanges whole cut few stands due came = record {
  lines = came-first cutter room before now exchanges came;
  few = omega (arith, came.counted);
  took = took-behind (lines_in exchanges) text before.bytes then.bytes (behind cutter more text room before now then exchanges came cut few);
  stops = record {
    next = next;
    whole = whole.1;
    cause = due;
    stands = refused-stands before.bytes rest (lines_in exchanges) next (Consumes-trans before.bytes (to_come cutter now.bytes) rest (concat (lines_in exchanges)) next came.taken stands);
  };
}

-- a line that is too long
pub over-long : (cutter more : Cutting) (room : ℕ) (before now then : Seen) (exchanges : List Exchange) → GivesText cutter more now then
    → (cutter.is_over ≡ false → HasNoFeed more.text × (length more.text ≡ more.limit) × (more.ahead ≡ [])) → more.limit ≡ longest_ask
    → LinesCame cutter (room + 1) before now exchanges → LinesOver (stop.Unfit unfit.Line) before then exchanges
over-long cutter more room before now then exchanges gives found limit came =
    let still = goes-on cutter (room + 1) before now exchanges gives.running came in
    let at = found still.0 in
    over-refused unfit.Line more.text more.text (to_come more then.bytes) cutter more (room + 1) before now then exchanges still (gives.cut still.0) gives.few (gives.cut still.0)
    (at.0, omega (arith, at.1, limit), omega (arith, lines-length exchanges, came.counted)) came

-- a text behind as many lines as may be answered
pub over-more : (cutter more : Cutting) (before now then : Seen) (exchanges : List Exchange) → GivesText cutter more now then → (cutter.is_over ≡ false → 0 < length more.text)
    → LinesCame cutter 0 before now exchanges → LinesOver (stop.Unfit unfit.Count) before then exchanges
over-more cutter more before now then exchanges gives some came =
    let still = goes-on cutter 0 before now exchanges gives.running came in
    over-refused unfit.Count more.text more.text (to_come more then.bytes) cutter more 0 before now then exchanges still (gives.cut still.0) gives.few (gives.cut still.0)
    (some still.0, omega (arith, lines-length exchanges, came.counted)) came

-- and bytes that are held there, where a read fails
pub over-held : (cutter more : Cutting) (before now then : Seen) (exchanges : List Exchange) → (cutter.is_over ≡ true → ⊥)
    → (cutter.is_over ≡ false → Consumes (to_come cutter now.bytes) (to_come more then.bytes) []) → (cutter.is_over ≡ false → HasNoFeed more.ahead × (length more.ahead < more.limit))
    → more.limit ≡ longest_ask → 0 < length more.ahead → LinesCame cutter 0 before now exchanges → LinesOver (stop.Unfit unfit.Count) before then exchanges
over-held cutter more before now then exchanges running cut found limit some came =
    let still = goes-on cutter 0 before now exchanges running came in
    let at = found still.0 in
    over-refused unfit.Count more.ahead [] then.bytes cutter more 0 before now then exchanges still (cut still.0) (omega (arith, at.1, limit))
    (Consumes-trans (to_come cutter now.bytes) (to_come more then.bytes) then.bytes [] more.ahead (cut still.0) (Consumes-front more.ahead then.bytes))
    (some, omega (arith, lines-length exchanges, came.counted)) came

-- WHAT IS HELD

pub line-some : (line : List ℕ) → IsLine line → 0 < length line
line-some [] is_line = absurd is_line
line-some (x ∷ xs) is_line = omega arith

-- whether bytes are held
pub none-held : (held ahead : List ℕ) → held ≡ ahead → true ≡ (length held == 0) → ahead ≡ []
none-held [] ahead same empty = sym same
none-held (x ∷ xs) ahead same empty = absurd (grind (arith, nat_tests, empty))

pub some-held : (held ahead : List ℕ) → held ≡ ahead → false ≡ (length held == 0) → 0 < length ahead
some-held [] ahead same empty = absurd (grind (arith, nat_tests, empty))
some-held (x ∷ xs) ahead same empty = omega (arith, ap (λ l. length l) same)
