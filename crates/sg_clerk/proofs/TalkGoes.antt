-- How far a talk with an asker has come, and how it ends.
use Rattle.std.proofs.Common.{◌≡◌, ℕ, ◌+◌, ◌≤◌, List, [], ◌∷◌, ◌++◌, length, inl, inr, refl, sym, subst, ap, ◌∙◌, append_assoc, length-append, arith}
use Rattle.std.specs.Prelude.{Option, Result, Ok, Err}
use Rattle.std.specs.List.{concat}
use Rattle.std.specs.Io.KnownBytes.{Appends}
use Rattle.sg_lists.proofs.Lists.{concat-push}
use Rattle.sg_outside.specs.Streams.{AppendsFront, Seen}
use Rattle.sg_outside.proofs.StreamLemmas.{Appends-nil, Appends-trans, Rose-later}
use Rattle.sg_keeper.specs.declared.rows.Rows.{Rows}
use Rattle.sg_keeper.specs.declared.setup.Setup.{Setup}
use Rattle.sg_histories.specs.declared.kept.Kept.{Kept}
use Rattle.sg_histories.specs.Histories.{Entry}
use Rattle.sg_histories.specs.Standing.{StandsFor}
use Rattle.sg_clerk.specs.Asking.{EndsAfter, Exchanging, TalkBy, TalkedBy, stores_by, texts_by}
use Rattle.sg_clerk.specs.Ends.{CutsLast, MissesLast, refused_line}
use Rattle.sg_clerk.specs.Talks.{KeeperFollows}
use Rattle.sg_clerk.specs.inside.Asking.{EndsThere, HasReplied, RepliesOne, Stops}
use Rattle.sg_clerk.specs.declared.asker.Stop.{Stop}
use Rattle.sg_clerk.specs.declared.asker.Stop.TheVariants as stop
use Rattle.sg_clerk.specs.declared.ended.Ending.{Ending}
use Rattle.sg_clerk.proofs.Follows.{follows-none, follows-on, follows-still}
use Rattle.sg_clerk.proofs.TalkGrows.{last-push}

-- LISTS THAT GROW BY ONE MORE

talk-push : {X Reply : Type 0} (kind : Exchanging X Reply) (setup : Setup) (exchanges : List X) (one : X) (before middle after : List Entry)
    → TalkBy kind setup exchanges before middle → kind.Turn setup one middle after → TalkBy kind setup (exchanges ++ one ∷ []) before after
talk-push kind setup [] one before middle after talked turn = (after, subst (λ (m : List Entry). kind.Turn setup one m after) talked turn, refl)
talk-push kind setup (x ∷ xs) one before middle after talked turn = (talked.0, talked.1, talk-push kind setup xs one talked.0 middle after talked.2 turn)

stores-push : {X Reply : Type 0} (kind : Exchanging X Reply) (exchanges : List X) (one : X) → stores_by kind (exchanges ++ one ∷ []) ≡ stores_by kind exchanges + kind.store one
stores-push kind [] one = omega arith
stores-push kind (x ∷ xs) one = let others = stores-push kind xs one in omega (arith, others)

texts-push : {X Reply : Type 0} (kind : Exchanging X Reply) (version : ℕ) (exchanges : List X) (one : X)
    → texts_by kind version (exchanges ++ one ∷ []) ≡ texts_by kind version exchanges ++ kind.line version (kind.reply one) ∷ []
texts-push kind version [] one = refl
texts-push kind version (x ∷ xs) one = ap (λ l. kind.line version (kind.reply x) ∷ l) (texts-push kind version xs one)

-- THE LAST LINE

-- the last line was cut
cuts-last : (before mid now : Option (List ℕ)) (texts : List (List ℕ)) (text : List ℕ) → Appends before mid (concat texts) → AppendsFront mid now text
    → CutsLast before now (texts ++ text ∷ [])
cuts-last before mid now texts text done more = record {
  whole = texts;
  last = text;
  front = more.0;
  rest = more.1;
  lines_are = refl;
  last_is = more.2;
  written = Appends-trans before mid now (concat texts) more.0 done more.3;
}

-- so at most the last is missing or cut
pub cut-misses : (before now : Option (List ℕ)) (texts : List (List ℕ)) → CutsLast before now texts → MissesLast before now texts
cut-misses before now texts cut =
    subst (λ (l : List (List ℕ)). MissesLast before now l) (sym cut.lines_are) (record {
      front = concat cut.whole ++ cut.front;
      rest = cut.rest;
      due_is = concat-push cut.whole cut.last ∙ (ap (λ l. concat cut.whole ++ l) cut.last_is ∙ sym (append_assoc (concat cut.whole) cut.front cut.rest));
      few = omega (arith, ap (λ l. length l) cut.last_is, length-append cut.front cut.rest, ap (λ l. length l) (last-push cut.whole cut.last));
      appended = cut.written;
    })

-- HOW FAR IT HAS COME

-- these were replied to, and the lines of the replies written
pub record Talking {X Reply : Type 0} (kind : Exchanging X Reply) (Came : List X → Type 0) (office : Kept) (tells : Type 0) (rows after : Rows) (faults faults' : ℕ)
    (out out' : Seen) (setup : Setup) (start : List Entry) : Type 0 where
  pub exchanges : List X
  pub next : List Entry
  pub talk : TalkBy kind setup exchanges start next
  pub stands : StandsFor office next
  pub keeper : KeeperFollows setup start next (stores_by kind exchanges) tells rows after faults faults'
  pub written : Appends out.bytes out'.bytes (concat (texts_by kind setup.plan.version exchanges))
  pub came : Came exchanges

-- at first none was
pub talking-start : {X Reply : Type 0} (kind : Exchanging X Reply) (Came : List X → Type 0) (office : Kept) (tells : Type 0) (rows : Rows) (faults : ℕ) (out : Seen)
    (setup : Setup) (start : List Entry) → StandsFor office start → Came [] → Talking kind Came office tells rows rows faults faults out out setup start
talking-start kind Came office tells rows faults out setup start stands came = record {
  exchanges = [];
  next = start;
  talk = refl;
  stands = stands;
  keeper = follows-none setup start tells rows faults;
  written = Appends-nil out.bytes;
  came = came;
}

-- what one more reply makes of the keeper
keeper-push : {X Reply : Type 0} (kind : Exchanging X Reply) (setup : Setup) (start middle next : List Entry) (exchanges : List X) (one : X) (tells still : Type 0) (rows rows' rows'' : Rows)
    (faults faults' faults'' : ℕ) → (tells → still) → faults' ≤ faults'' → KeeperFollows setup start middle (stores_by kind exchanges) tells rows rows' faults faults'
    → KeeperFollows setup middle next (kind.store one) still rows' rows'' faults' faults'' → KeeperFollows setup start next (stores_by kind (exchanges ++ one ∷ [])) tells rows rows'' faults faults''
keeper-push kind setup start middle next exchanges one tells still rows rows' rows'' faults faults' faults'' told later so_far on =
    subst (λ (n : ℕ). KeeperFollows setup start next n tells rows rows'' faults faults'') (sym (stores-push kind exchanges one))
    (follows-on setup start middle next (stores_by kind exchanges) (kind.store one) tells still rows rows' rows'' faults faults' faults'' told later so_far on)

-- what is well is no error
ok-err : {T E : Type 0} (x : T) (e : E) → Ok x ≡ Err e → ⊥
ok-err x e is = cc

err-same : (result : Result Unit Ending) (a b : Ending) → result ≡ Err a → result ≡ Err b → a ≡ b
err-same result a b is same = cc

-- one more was replied to, and its line written
pub talking-on : {X Reply : Type 0} (kind : Exchanging X Reply) (Came Come : List X → Type 0) (Over : Stop → List X → Type 0) (office new : Kept) (tells still : Type 0) (rows middle after : Rows)
    (faults faults' faults'' : ℕ) (out out' out'' : Seen) (setup said : Setup) (start : List Entry) → said ≡ setup → (tells → still) → faults' ≤ faults''
    → (goes : Talking kind Came office tells rows middle faults faults' out out' setup start)
    → HasReplied kind Come Over (Ok tt) said new still middle after faults' faults'' out' out'' goes.next goes.exchanges
    → Talking kind Come new tells rows after faults faults'' out out'' setup start
talking-on {X} {Reply} kind Came Come Over office new tells still rows middle after faults faults' faults'' out out' out'' setup said start same told later goes replied =
    by_reply (subst (λ (s : Setup). HasReplied kind Come Over (Ok tt) s new still middle after faults' faults'' out' out'' goes.next goes.exchanges) same replied)
  where
    version : ℕ
    version = setup.plan.version

    by_one : RepliesOne kind Come (Ok tt) setup new still middle after faults' faults'' out' out'' goes.next goes.exchanges → Talking kind Come new tells rows after faults faults'' out out'' setup start
    by_one said_so =
        let replies = said_so.replies in
        let line : List ℕ = kind.line version (kind.reply replies.one) in
        record {
          exchanges = goes.exchanges ++ replies.one ∷ [];
          next = replies.next;
          talk = talk-push kind setup goes.exchanges replies.one start goes.next replies.next goes.talk replies.turn;
          stands = replies.stands;
          keeper = keeper-push kind setup start goes.next replies.next goes.exchanges replies.one tells still rows middle after faults faults' faults'' told later goes.keeper replies.keeper;
          written = subst (λ (l : List (List ℕ)). Appends out.bytes out''.bytes (concat l)) (sym (texts-push kind version goes.exchanges replies.one))
              (subst (λ (l : List ℕ). Appends out.bytes out''.bytes l) (sym (concat-push (texts_by kind version goes.exchanges) line))
              (Appends-trans out.bytes out'.bytes out''.bytes (concat (texts_by kind version goes.exchanges)) line goes.written
              (subst (λ (r : Reply). Appends out'.bytes out''.bytes (kind.line version r)) (sym replies.reply_is) said_so.wrote)));
          came = replies.came;
        }

    by_reply : HasReplied kind Come Over (Ok tt) setup new still middle after faults' faults'' out' out'' goes.next goes.exchanges → Talking kind Come new tells rows after faults faults'' out out'' setup start
    by_reply (inl one) = by_one one
    by_reply (inr there) = absurd (ok-err _ _ there.result_is)

-- HOW IT ENDS

-- where no more came
ends-after : (why : Stop) (how : Ending) (texts : List (List ℕ)) (out out' out'' : Seen) → out.faults ≤ out'.faults → Appends out.bytes out'.bytes (concat texts) → Stops why how out' out''
    → EndsAfter why how texts out out''
ends-after stop.Done how texts out out' out'' later written stops = (stops.0, subst (λ (s : Seen). Appends out.bytes s.bytes (concat texts)) (sym stops.1) written)
ends-after stop.ReadFault how texts out out' out'' later written stops = (stops.0, subst (λ (s : Seen). Appends out.bytes s.bytes (concat texts)) (sym stops.1) written)
ends-after stop.LinkFault how texts out out' out'' later written stops = (stops.0, subst (λ (s : Seen). Appends out.bytes s.bytes (concat texts)) (sym stops.1) written)
ends-after (stop.Unfit why) how texts out out' out'' later written stops =
    elim stops [
      | inl told ↦ inl (told.0, Appends-trans out.bytes out'.bytes out''.bytes (concat texts) (refused_line why) written told.1)
      | inr cut ↦ inr (cut.0, Rose-later out.faults out'.faults out''.faults later cut.1, cuts-last out.bytes out'.bytes out''.bytes texts (refused_line why) written cut.2)
    ]
ends-after stop.NoMemory how texts out out' out'' later written stops = (stops.0, subst (λ (s : Seen). Appends out.bytes s.bytes (concat texts)) (sym stops.1) written)

pub talking-ends : {X Reply : Type 0} (kind : Exchanging X Reply) (Came Come : List X → Type 0) (Over : Stop → List X → Type 0) (how : Ending) (office new : Kept) (tells still : Type 0) (rows middle after : Rows)
    (faults faults' faults'' : ℕ) (out out' out'' : Seen) (setup said : Setup) (start : List Entry) → said ≡ setup → (tells → still) → faults' ≤ faults'' → out.faults ≤ out'.faults
    → (goes : Talking kind Came office tells rows middle faults faults' out out' setup start)
    → HasReplied kind Come Over (Err how) said new still middle after faults' faults'' out' out'' goes.next goes.exchanges
    → TalkedBy kind Come Over how out out'' setup start tells rows after faults faults''
talking-ends {X} {Reply} kind Came Come Over how office new tells still rows middle after faults faults' faults'' out out' out'' setup said start same told later write_later goes replied =
    by_reply (subst (λ (s : Setup). HasReplied kind Come Over (Err how) s new still middle after faults' faults'' out' out'' goes.next goes.exchanges) same replied)
  where
    version : ℕ
    version = setup.plan.version

    by_one : RepliesOne kind Come (Err how) setup new still middle after faults' faults'' out' out'' goes.next goes.exchanges → TalkedBy kind Come Over how out out'' setup start tells rows after faults faults''
    by_one said_so =
        let replies = said_so.replies in
        let line : List ℕ = kind.line version (kind.reply replies.one) in
        let front = subst (λ (r : Reply). AppendsFront out'.bytes out''.bytes (kind.line version r)) (sym replies.reply_is) said_so.wrote.front in
        record {
          exchanges = goes.exchanges ++ replies.one ∷ [];
          next = replies.next;
          talk = talk-push kind setup goes.exchanges replies.one start goes.next replies.next goes.talk replies.turn;
          keeper = keeper-push kind setup start goes.next replies.next goes.exchanges replies.one tells still rows middle after faults faults' faults'' told later goes.keeper replies.keeper;
          ends = inr (record {
            came = replies.came;
            cause = elim said_so.wrote.cause [
              | inl failed ↦ inl (failed.0, Rose-later out.faults out'.faults out''.faults write_later failed.1)
              | inr memory ↦ inr memory
            ];
            cut = subst (λ (l : List (List ℕ)). CutsLast out.bytes out''.bytes l) (sym (texts-push kind version goes.exchanges replies.one))
                (cuts-last out.bytes out'.bytes out''.bytes (texts_by kind version goes.exchanges) line goes.written front);
          });
        }

    by_end : EndsThere Over (Err how) new middle after faults' faults'' out' out'' goes.next goes.exchanges → TalkedBy kind Come Over how out out'' setup start tells rows after faults faults''
    by_end there = record {
      exchanges = goes.exchanges;
      next = goes.next;
      talk = goes.talk;
      keeper = follows-still setup start goes.next (stores_by kind goes.exchanges) tells rows middle after faults faults' faults'' there.asks.rows_are there.asks.counts goes.keeper;
      ends = inl (record {
        why = there.why;
        over = there.asks.over;
        ends = ends-after there.why how (texts_by kind version goes.exchanges) out out' out'' write_later goes.written
            (subst (λ (h : Ending). Stops there.why h out' out'') (err-same (Err how) there.how how there.result_is refl) there.stops);
      });
    }

    by_reply : HasReplied kind Come Over (Err how) setup new still middle after faults' faults'' out' out'' goes.next goes.exchanges → TalkedBy kind Come Over how out out'' setup start tells rows after faults faults''
    by_reply (inl one) = by_one one
    by_reply (inr there) = by_end there
