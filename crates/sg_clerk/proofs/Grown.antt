-- What `record` writes of told rows only grows, with each command.
use Rattle.std.proofs.Common.{◌≡◌, ℕ, List, [], ◌++◌, None, inl, inr, refl, ap, sym, subst, ◌∙◌, append-nil}
use Rattle.std.proofs.lemmas.Option.{same_Some}
use Rattle.sg_outside.specs.Streams.{Seen}
use Rattle.sg_outside.specs.declared.outcome.Outcome.{Outcome}
use Rattle.sg_outside.specs.declared.outcome.Outcome.TheVariants as outcome
use Rattle.sg_keeper.specs.SetupText.{setup_text}
use Rattle.sg_keeper.specs.declared.rows.Rows.{Rows}
use Rattle.sg_keeper.specs.declared.setup.Setup.{Setup}
use Rattle.sg_talk.specs.Talk.{stores_in}
use Rattle.sg_histories.specs.Histories.{Entry}
use Rattle.sg_histories.specs.KeptRows.{rows_of}
use Rattle.sg_histories.specs.Lawful.{Lawful}
use Rattle.sg_histories.specs.Opens.{OpenTo, Whole}
use Rattle.sg_histories.proofs.BackAll.{setup_kept}
use Rattle.sg_histories.proofs.Opening.{lawful_rows_open, no_text, one_setup, open_rows_are_lawful}
use Rattle.sg_clerk.specs.Outside.{Outside}
use Rattle.sg_clerk.specs.Asked.{DoSays}
use Rattle.sg_clerk.specs.Begun.{Beginning, InitEnds, InitSays, IsCut, Refusing}
use Rattle.sg_clerk.specs.Does.{LineTalk, LinesEnd}
use Rattle.sg_clerk.specs.Laws.{KeepsPosted, KeepsRecord, PostedGrows}
use Rattle.sg_clerk.specs.Shown.{posted_of}
use Rattle.sg_clerk.specs.Talks.{Talks}
use Rattle.sg_clerk.specs.declared.ended.Ending.{Ending}
use Rattle.sg_clerk.proofs.Keeping.{talks_keep_record}

-- ROWS OF ONE SETUP

-- the rows of a later history of the setup that rows open to open to it
later_whole : (setup : Setup) (rows rows' : Rows) (text : List ℕ) (history next : List Entry) → OpenTo rows (Whole setup) → rows ≡ rows_of setup text history → rows' ≡ rows_of setup text next
    → Lawful setup next → OpenTo rows' (Whole setup)
later_whole setup rows rows' text history next whole is is' lawful =
    let own : text ≡ setup_text setup
    = same_Some text whole.text (sym (ap (λ (r : Rows). r.setup) is ∙ setup_kept setup text history) ∙ whole.kept) ∙ whole.setup_is.2 in
    subst (λ (r : Rows). OpenTo r (Whole setup)) (sym (is' ∙ ap (λ (t : List ℕ). rows_of setup t next) own)) (lawful_rows_open setup next whole.setup_is.0 whole.setup_is.1 lawful)

-- WHAT GROWS

-- what is posted of rows before a talk is a front of what is posted of those behind it
talk_grows : (setup : Setup) (start next : List Entry) (rows rows' : Rows) → OpenTo rows (Whole setup) → Lawful setup start → (text : List ℕ) → rows ≡ rows_of setup text start → rows' ≡ rows_of setup text next
    → KeepsRecord setup start next → KeepsPosted rows rows'
talk_grows setup start next rows rows' whole lawful text is is' keeps other opens =
    subst (λ (s : Setup). PostedGrows s rows rows') (one_setup rows setup other None None whole opens) (record {
      whole = later_whole setup rows rows' text start next whole is is' keeps.lawful;
      front = λ due due' first last.
          let early : due ≡ posted_of setup start = first text start lawful is in
          let late : due' ≡ posted_of setup next = last text next keeps.lawful is' in
          (keeps.posted.0, late ∙ (keeps.posted.1 ∙ ap (λ (p : List ℕ). p ++ keeps.posted.0) (sym early)));
    })

-- of the same rows it is the same
pub same_grows : (rows rows' : Rows) → rows' ≡ rows → KeepsPosted rows rows'
same_grows rows rows' same setup opens =
    let found = open_rows_are_lawful setup rows opens in
    record {
      whole = subst (λ (r : Rows). OpenTo r (Whole setup)) (sym same) opens;
      front = λ due due' first last.
          let early : due ≡ posted_of setup found.history = first (setup_text setup) found.history found.lawful found.rows_are in
          let late : due' ≡ posted_of setup found.history = last (setup_text setup) found.history found.lawful (same ∙ found.rows_are) in
          ([], late ∙ (sym early ∙ sym (append-nil due)));
    }

-- of no rows nothing is said
none_grows : (rows rows' : Rows) → rows.setup ≡ None → KeepsPosted rows rows'
none_grows rows rows' none setup opens = absurd (no_text rows opens.text none opens.kept)

-- a talk of the kept office
pub talks_grow : {X : Type 0} (Talk : Setup → List X → List Entry → List Entry → Type 0) (stores : List X → ℕ) (Ends : Ending → Setup → List X → Type 0) (result : Outcome) (tells : Type 0) (rows rows' : Rows) (faults faults' : ℕ)
    → ((setup : Setup) (exchanges : List X) (history next : List Entry) → Lawful setup history → Talk setup exchanges history next → KeepsRecord setup history next)
    → Talks Talk stores Ends result tells rows rows' faults faults' → tells → KeepsPosted rows rows'
talks_grow Talk stores Ends result tells rows rows' faults faults' keeps talks told =
    let from = talks.from told in
    let does = talks.does in
    talk_grows talks.setup talks.start does.next rows rows' (talks.whole told) talks.lawful from.0 from.1 (does.keeper.kept told from.0 from.1)
    (keeps talks.setup does.exchanges talks.start does.next talks.lawful does.talk)

-- `do`
pub do_grows : (result : Outcome) (tells : Type 0) (rows rows' : Rows) (before now : Outside) → DoSays result tells rows rows' before now → tells → KeepsPosted rows rows'
do_grows result tells rows rows' before now (inl talks) told =
    talks_grow LineTalk stores_in (LinesEnd before now) result tells rows rows' before.keep_faults now.keep_faults talks_keep_record talks told
do_grows result tells rows rows' before now (inr closed) told = same_grows rows rows' (closed.same told)

-- `init`
pub init_grows : (result : Outcome) (input input' : Seen) (tells : Type 0) (rows rows' : Rows) (faults faults' : ℕ) (out out' : Seen) → InitSays result input input' tells rows rows' faults faults' out out' → tells → KeepsPosted rows rows'
init_grows result input input' tells rows rows' faults faults' out out' ended told = by_end result ended.says
  where
    by_line : IsCut input tells rows rows' out out' → KeepsPosted rows rows'
    by_line (Beginning set_up front) = none_grows rows rows' (set_up.fresh told)
    by_line (Refusing why cause same front) = same_grows rows rows' (same told)

    by_end : (how : Outcome) → InitEnds how input input' tells rows rows' faults faults' out out' → KeepsPosted rows rows'
    by_end outcome.Done ends = none_grows rows rows' (ends.set_up.fresh told)
    by_end outcome.ReadFailed ends = same_grows rows rows' (ends.same told)
    by_end outcome.WriteFailed ends = by_line ends.cut
    by_end outcome.KeeperFailed ends = same_grows rows rows' (ends.same told)
    by_end outcome.Refused ends = same_grows rows rows' (ends.same told)
    by_end outcome.NoMemory ends = same_grows rows rows' (ends.same told)
    by_end _ ends = absurd ends
