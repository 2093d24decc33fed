-- How the lines of a record part: lines before the results, the lines that fill these, and those of disputes.
use Rattle.std.proofs.Common.{◌≡◌, ℕ, ◌+◌, ◌-◌, ◌==◌, ◌⊎◌, nat_lt, Bool, true, false, ◌&&◌, cond, inl, inr, List, [], ◌∷◌, ◌++◌, length, Some, refl, sym, subst, ap, ◌∙◌}
use Rattle.std.specs.List.{list_any}
use Rattle.std.proofs.lemmas.Bool.{or_from, or_parts}
use Rattle.std.proofs.lemmas.Option.{cond_some, same_Some}
use Rattle.sg_lists.proofs.Options.{option_map-some}
use Rattle.sg_plan.specs.Limits.{most_claims}
use Rattle.sg_plan.specs.Ballots.{ballot_has, candidates_of, entries_of}
use Rattle.sg_plan.specs.declared.plan.ClaimWord.{ClaimWord}
use Rattle.sg_plan.specs.declared.plan.Plan.{Plan}
use Rattle.sg_forms.specs.Said.{Said}
use Rattle.sg_forms.specs.Said.Said.{Audited, Ballots, Cast, Code, Dispute, Spoiled, Voided}
use Rattle.sg_grammar.proofs.CastLines.{cast-claim}
use Rattle.sg_grammar.proofs.Claims.{if_then-claim}
use Rattle.sg_grammar.proofs.FirstLines.{take_bytes-line, walk-first}
use Rattle.sg_grammar.specs.Due.{due_audit, ballot_codes, ballot_paper, code_commit, code_line, commits, each, instance_row_commits, race_code_commits, race_codes, race_row_commits, results, row_commit}
use Rattle.sg_grammar.specs.Head.{head_line}
use Rattle.sg_grammar.specs.Placed.{Placed}
use Rattle.sg_grammar.specs.Placed.Placed.{Begun, CodeAt, Disputed, DrawnFull, DrawnPublic, PlacesAt, RowAt, TotalAt}
use Rattle.sg_grammar.specs.Walk.{Next, Taken, Walked, after_block, after_dispute, after_run, begins, behind, body_line, first_taken, headed, in_cast, in_head, is_later, is_whole, is_whole_at, place, take_at, take_line, took, walk, walked_on}
use Rattle.sg_grammar.specs.declared.state.Block.TheVariants as block
use Rattle.sg_grammar.specs.declared.state.Head.{Head}
use Rattle.sg_grammar.specs.declared.state.Head.TheVariants as head
use Rattle.sg_grammar.specs.declared.state.Part.{Part}
use Rattle.sg_grammar.specs.declared.state.Part.TheVariants as part
use Rattle.sg_grammar.specs.declared.state.Slot.{Slot}
use Rattle.sg_grammar.specs.declared.state.Slot.TheVariants as slot
use Rattle.sg_grammar.specs.Lines.{is_dispute, placed_of}
use Rattle.sg_grammar.specs.Parting.{Apart, None_of, clash}
use Rattle.sg_grammar.proofs.Filling.{Fills, FillsSlot, fills_apart, is_bar, slot_bars, slot_clash, stands_as, apart_left, results_apart}
use Rattle.sg_grammar.proofs.Lists.{Cross, apart-append, none-all, none-append, none-numbered}

-- FREE LINES

-- the line bars nothing behind it
abbrev pub BarsNone : Placed → Type 0
BarsNone line = (later : Placed) → clash line later ≡ false

abbrev pub AreFree : List Placed → Type 0
AreFree [] = Unit {0}
AreFree (line ∷ lines) = BarsNone line × AreFree lines

-- the line is of a dispute
abbrev pub is_disputed : Placed → Bool
is_disputed (Disputed ballot race code word) = true
is_disputed (CodeAt kind ballot race column code) = is_dispute kind
is_disputed line = false

abbrev pub IsOfDispute : Placed → Type 0
IsOfDispute line = is_disputed line ≡ true

abbrev pub AreOfDisputes : List Placed → Type 0
AreOfDisputes [] = Unit {0}
AreOfDisputes (line ∷ lines) = IsOfDispute line × AreOfDisputes lines

-- such a line may stand behind any
unbarred : (earlier line : Placed) → is_disputed line ≡ true → clash earlier line ≡ false
unbarred (RowAt r i x opening) (CodeAt block.Dispute ballot race column code) e = refl
unbarred (TotalAt r j n) (CodeAt kind ballot race column code) e = refl
unbarred (PlacesAt r from bits) (CodeAt kind ballot race column code) e = refl
unbarred DrawnFull (CodeAt block.Dispute ballot race column code) e = refl
unbarred (DrawnPublic digits) (CodeAt block.Dispute ballot race column code) e = refl
unbarred DrawnFull (Disputed ballot race code word) e = refl
unbarred (DrawnPublic digits) (Disputed ballot race code word) e = refl
unbarred (RowAt r i x opening) (Disputed ballot race code word) e = refl
unbarred (TotalAt r j n) (Disputed ballot race code word) e = refl
unbarred (PlacesAt r from bits) (Disputed ballot race code word) e = refl
unbarred (RowAt r i x opening) line e = cc
unbarred (TotalAt r j n) line e = cc
unbarred (PlacesAt r from bits) line e = cc
unbarred DrawnFull line e = cc
unbarred (DrawnPublic digits) line e = cc
unbarred earlier line e = refl

bars_slot_none : (s : Slot) (later : Placed) → is_bar s ≡ false → slot_bars s later ≡ false
bars_slot_none (slot.Row race instance row) later e = cc
bars_slot_none slot.Draw later e = cc
bars_slot_none (slot.Total race candidate) later e = cc
bars_slot_none (slot.Places race line count) later e = cc
bars_slot_none s later e = refl

free_slot : (s : Slot) (said : Said) (line : Placed) → is_bar s ≡ false → place s said ≡ Some line → BarsNone line
free_slot s said line e there = λ later. (stands_as s said line there).0 later ∙ bars_slot_none s later e

-- THE LINES BEHIND THE BALLOTS

pub record Ends (plan : Plan) (due : List Slot) (lines : List Placed) (next : Next) : Type 0 where
  pub filled : List Slot
  pub left : List Slot
  pub middle : List Placed
  pub last : List Placed
  pub lines_are : lines ≡ middle ++ last
  pub due_is : due ≡ filled ++ left
  pub fills : Fills filled middle
  pub disputes : AreOfDisputes last
  pub plan_is : next.plan ≡ plan
  pub ended : is_whole next ≡ true → left ≡ []

ends_now : (plan : Plan) (due : List Slot) (count : ℕ) → Ends plan due [] (behind plan due (part.Disputes count))
ends_now plan due count = record {
  filled = [];
  left = due;
  middle = [];
  last = [];
  lines_are = refl;
  due_is = refl;
  fills = tt;
  disputes = tt;
  plan_is = refl;
  ended = none_due due;
}
  where
    none_due : (slots : List Slot) → is_whole (behind plan slots (part.Disputes count)) ≡ true → slots ≡ []
    none_due [] whole = refl
    none_due (s ∷ slots) whole = cc

ends_filled : (plan : Plan) (s : Slot) (due : List Slot) (line : Placed) (lines : List Placed) (next : Next) → FillsSlot s line → Ends plan due lines next → Ends plan (s ∷ due) (line ∷ lines) next
ends_filled plan s due line lines next fits rest = record {
  filled = s ∷ rest.filled;
  left = rest.left;
  middle = line ∷ rest.middle;
  last = rest.last;
  lines_are = ap (λ (l : List Placed). line ∷ l) rest.lines_are;
  due_is = ap (λ (l : List Slot). s ∷ l) rest.due_is;
  fills = (fits, rest.fills);
  disputes = rest.disputes;
  plan_is = rest.plan_is;
  ended = rest.ended;
}

-- the codes of a dispute are barred by nothing
abbrev is_not_dispute : Slot → Bool
is_not_dispute (slot.Code block.Dispute ballot race column) = false
is_not_dispute s = true

unbarred_code : (s : Slot) (said : Said) (line : Placed) → is_not_dispute s ≡ false → place s said ≡ Some line → IsOfDispute line
unbarred_code (slot.Code block.Dispute ballot race column) (Code code) line e there =
    if_then-claim IsOfDispute (code.race == race && code.column == column) (CodeAt block.Dispute ballot race column code) line (λ ok. refl) there
unbarred_code (slot.Code block.Dispute ballot race column) said line e there = cc
unbarred_code s said line e there = cc

unbarred_codes : (slots left : List Slot) (lines : List Placed) → Fills slots lines → None_of is_not_dispute (slots ++ left) → AreOfDisputes lines
unbarred_codes [] left [] fills none = tt
unbarred_codes [] left (line ∷ lines) fills none = absurd fills
unbarred_codes (s ∷ slots) left [] fills none = absurd fills
unbarred_codes (s ∷ slots) left (line ∷ lines) fills none =
    let parts = or_parts (is_not_dispute s) (list_any is_not_dispute (slots ++ left)) none in
    (unbarred_code s fills.0.0 line parts.0 fills.0.1, unbarred_codes slots left lines fills.1 parts.1)

unbarred-append : (xs ys : List Placed) → AreOfDisputes xs → AreOfDisputes ys → AreOfDisputes (xs ++ ys)
unbarred-append [] ys ux uy = uy
unbarred-append (x ∷ xs) ys ux uy = (ux.0, unbarred-append xs ys ux.1 uy)

ends_disputed : (plan : Plan) (ballot race code : ℕ) (word : ClaimWord) (lines : List Placed) (next : Next)
    → Ends plan (race_codes plan block.Dispute ballot race) lines next → Ends plan [] (Disputed ballot race code word ∷ lines) next
ends_disputed plan ballot race code word lines next rest = record {
  filled = [];
  left = [];
  middle = [];
  last = Disputed ballot race code word ∷ (rest.middle ++ rest.last);
  lines_are = ap (λ (l : List Placed). Disputed ballot race code word ∷ l) rest.lines_are;
  due_is = refl;
  fills = tt;
  disputes = (
    refl,
    unbarred-append rest.middle rest.last (unbarred_codes rest.filled rest.left rest.middle rest.fills (subst (λ (l : List Slot). None_of is_not_dispute l) rest.due_is all_codes)) rest.disputes,
  );
  plan_is = rest.plan_is;
  ended = λ whole. refl;
}
  where
    all_codes : None_of is_not_dispute (race_codes plan block.Dispute ballot race)
    all_codes = none-numbered is_not_dispute (code_line block.Dispute ballot race) 0 (candidates_of plan race - 0) (λ k. refl)

-- a further dispute
pub record Disputes (plan : Plan) (count : ℕ) (t : Taken) : Type 0 where
  pub ballot : ℕ
  pub race : ℕ
  pub code : ℕ
  pub word : ClaimWord
  pub is : took (Disputed ballot race code word) (behind plan (race_codes plan block.Dispute ballot race) (part.Disputes (count + 1))) ≡ t

dispute_begun : (plan : Plan) (count : ℕ) (said : Said) (t : Taken) → after_dispute plan count said ≡ Some t → Disputes plan count t
dispute_begun plan count (Dispute ballot race code word) t e =
    record { ballot = ballot; race = race; code = code; word = word; is = (cond_some (nat_lt count most_claims && (nat_lt race (length plan.races) && ballot_has plan ballot race)) _ t e).1 }
dispute_begun plan count said t e = cc

walk_from : (t : Taken) (next : Next) (lines : List (List ℕ)) (w : Walked) → next ≡ t.next → walk t.next lines ≡ Some w → walk next lines ≡ Some w
walk_from t next lines w is e = ap (λ (n : Next). walk n lines) is ∙ e

next_of : (t : Taken) (line : Placed) (next : Next) → took line next ≡ t → next ≡ t.next
next_of t line next is = ap (λ (u : Taken). u.next) is

-- the first line is put before the others
onto : (plan : Plan) (due : List Slot) (bytes : List ℕ) (t : Taken) (rest w : Walked) (line : Placed) (next : Next) → took line next ≡ t → walked_on bytes t rest ≡ w
    → Ends plan due (line ∷ placed_of rest.posted) rest.next → Ends plan due (placed_of w.posted) w.next
onto plan due bytes t rest w line next from is done =
    subst (λ (x : Walked). Ends plan due (placed_of x.posted) x.next) is (subst (λ (u : Taken). Ends plan due (u.placed ∷ placed_of rest.posted) rest.next) from done)

pub ends : (plan : Plan) (due : List Slot) (count : ℕ) (lines : List (List ℕ)) (w : Walked) → walk (behind plan due (part.Disputes count)) lines ≡ Some w → Ends plan due (placed_of w.posted) w.next
unfolding walk take_line
ends plan due count [] w e =
    subst (λ (x : Walked). Ends plan due (placed_of x.posted) x.next) (same_Some (record { posted = []; next = behind plan due (part.Disputes count) }) w e) (ends_now plan due count)
ends plan (s ∷ due) count (bytes ∷ lines) w e =
    let next = behind plan due (part.Disputes count) in
    let on = walk-first (behind plan (s ∷ due) (part.Disputes count)) bytes lines w e in
    let line = take_bytes-line (behind plan (s ∷ due) (part.Disputes count)) bytes on.taken on.first in
    let from = option_map-some (λ (x : Placed). took x next) (place s line.0) on.taken line.2 in
    let rest = ends plan due count lines on.rest (walk_from on.taken next lines on.rest (next_of on.taken from.0 next from.2) on.others) in
    onto plan (s ∷ due) bytes on.taken on.rest w from.0 next from.2 on.is (ends_filled plan s due from.0 (placed_of on.rest.posted) on.rest.next (line.0, from.1) rest)
ends plan [] count (bytes ∷ lines) w e =
    let on = walk-first (behind plan [] (part.Disputes count)) bytes lines w e in
    let line = take_bytes-line (behind plan [] (part.Disputes count)) bytes on.taken on.first in
    let from = dispute_begun plan count line.0 on.taken line.2 in
    let codes = race_codes plan block.Dispute from.ballot from.race in
    let next = behind plan codes (part.Disputes (count + 1)) in
    let more = ends plan codes (count + 1) lines on.rest (walk_from on.taken next lines on.rest (next_of on.taken (Disputed from.ballot from.race from.code from.word) next from.is) on.others) in
    onto plan [] bytes on.taken on.rest w (Disputed from.ballot from.race from.code from.word) next from.is on.is
    (ends_disputed plan from.ballot from.race from.code from.word (placed_of on.rest.posted) on.rest.next more)

-- THE LINES BEFORE THE RESULTS

abbrev pub IsEarlyPart : Part → Type 0
IsEarlyPart (part.Disputes count) = ⊥
IsEarlyPart may_begin = Unit {0}

abbrev pub IsEarlyAt : Head → List Slot → Part → Type 0
IsEarlyAt head.Whole due may_begin = None_of is_bar due × IsEarlyPart may_begin
IsEarlyAt stage due may_begin = Unit {0}

-- no line of the results has come
abbrev pub IsEarly : Next → Type 0
IsEarly next = IsEarlyAt next.head next.due next.part

-- the line is free, and no line of the results has come with it
abbrev GoesOn : Taken → Type 0
GoesOn t = IsEarly t.next × BarsNone t.placed

-- the line is the first of the results
pub record Begins (t : Taken) : Type 0 where
  pub plan : Plan
  pub slot : Slot
  pub due : List Slot
  pub results_are : results plan ≡ slot ∷ due
  pub fills : FillsSlot slot t.placed
  pub next_is : behind plan due (part.Disputes 0) ≡ t.next

abbrev Steps : Taken → Type 0
Steps t = GoesOn t ⊎ Begins t

first_taken-steps : (plan : Plan) (slots : List Slot) (said : Said) (t : Taken) → results plan ≡ slots → first_taken plan slots said ≡ Some t → Steps t
first_taken-steps plan [] said t is e = cc
first_taken-steps plan (s ∷ due) said t is e =
    let from = option_map-some (λ (x : Placed). took x (behind plan due (part.Disputes 0))) (place s said) t e in
    subst Steps from.2 (inr (record { plan = plan; slot = s; due = due; results_are = is; fills = (said, from.1); next_is = refl }))

commits_free : (plan : Plan) → None_of is_bar (commits plan)
commits_free plan =
    none-append is_bar (each (race_code_commits plan) 0 (length plan.races)) (each (race_row_commits plan) 0 (length plan.races) ++ slot.Seal 1 ∷ [])
    (none-numbered is_bar (race_code_commits plan) 0 (length plan.races - 0) (λ race. none-numbered is_bar (code_commit race) 0 (entries_of plan race - 0) (λ k. refl)))
    (none-append is_bar (each (race_row_commits plan) 0 (length plan.races)) (slot.Seal 1 ∷ [])
    (none-numbered is_bar (race_row_commits plan) 0 (length plan.races - 0) (λ race.
    none-numbered is_bar (instance_row_commits plan race) 0 (plan.instances - 0) (λ instance. none-numbered is_bar (row_commit race instance) 0 (entries_of plan race - 0) (λ k. refl))))
    refl)

audit_free : (plan : Plan) (ballot : ℕ) → None_of is_bar (due_audit plan ballot)
audit_free plan ballot =
    none-append is_bar (each (ballot_paper plan ballot) 0 (length plan.races)) (each (ballot_codes plan ballot) 0 (length plan.races))
    (none-numbered is_bar (ballot_paper plan ballot) 0 (length plan.races - 0) (λ race. paper (ballot_has plan ballot race) race))
    (none-numbered is_bar (ballot_codes plan ballot) 0 (length plan.races - 0) (λ race. codes (ballot_has plan ballot race) race))
  where
    paper : (b : Bool) (race : ℕ) → None_of is_bar (cond b (slot.Paper ballot race (candidates_of plan race) ∷ []) [])
    paper true race = refl
    paper false race = refl

    codes : (b : Bool) (race : ℕ) → None_of is_bar (cond b (race_codes plan block.Audited ballot race) [])
    codes true race = none-numbered is_bar (code_line block.Audited ballot race) 0 (candidates_of plan race - 0) (λ k. refl)
    codes false race = refl

after_block-steps : (plan : Plan) (last : ℕ) (said : Said) (t : Taken) → after_block plan last said ≡ Some t → Steps t
after_block-steps plan last (Cast ballot) t e =
    if_then-claim Steps (is_later plan last ballot) (took (Begun ballot) (behind plan [] (part.Cast ballot 0 0))) t (λ ok. inl ((refl, tt), (λ later. refl))) e
after_block-steps plan last (Spoiled ballot) t e =
    if_then-claim Steps (is_later plan last ballot) (took (Begun ballot) (behind plan [] (part.Ballots ballot))) t (λ ok. inl ((refl, tt), (λ later. refl))) e
after_block-steps plan last (Audited ballot) t e =
    if_then-claim Steps (is_later plan last ballot) (took (Begun ballot) (behind plan (due_audit plan ballot) (part.Ballots ballot))) t
    (λ ok. inl ((audit_free plan ballot, tt), (λ later. refl))) e
after_block-steps plan last (Voided ballot) t e =
    if_then-claim Steps (plan.version == 2 && is_later plan last ballot) (took (Begun ballot) (behind plan [] (part.Ballots ballot))) t (λ ok. inl ((refl, tt), (λ later. refl))) e
after_block-steps plan last said t e = first_taken-steps plan (results plan) said t refl e

in_cast-steps : (plan : Plan) (ballot race column : ℕ) (said : Said) (t : Taken) → in_cast plan ballot race column said ≡ Some t → Steps t
in_cast-steps plan ballot race column said t e =
    cast-claim plan ballot race column said t Steps (after_block-steps plan ballot said t) (λ line. inl ((refl, tt), line.free)) e

begins-steps : (plan : Plan) (may_begin : Part) (said : Said) (t : Taken) → IsEarlyPart may_begin → begins plan may_begin said ≡ Some t → Steps t
begins-steps plan (part.Ballots last) said t early e = after_block-steps plan last said t e
begins-steps plan (part.Cast ballot race column) said t early e = in_cast-steps plan ballot race column said t e
begins-steps plan (part.Disputes count) said t early e = absurd early

body_line-steps : (plan : Plan) (due : List Slot) (may_begin : Part) (said : Said) (t : Taken) → None_of is_bar due → IsEarlyPart may_begin → body_line plan due may_begin said ≡ Some t → Steps t
body_line-steps plan [] may_begin said t none early e = begins-steps plan may_begin said t early e
body_line-steps plan (s ∷ due) may_begin said t none early e =
    let parts = or_parts (is_bar s) (list_any is_bar due) none in
    let from = option_map-some (λ (x : Placed). took x (behind plan due may_begin)) (place s said) t e in
    subst Steps from.2 (inl ((parts.1, early), free_slot s said from.0 parts.0 from.1))

in_head-steps : (plan : Plan) (stage : Head) (said : Said) (t : Taken) → in_head plan stage said ≡ Some t → Steps t
in_head-steps plan stage said t e =
    let from = option_map-some (headed said) (head_line plan stage said) t e in
    subst Steps from.2 (inl (early_start from.0.head, (λ later. refl)))
  where
    early_start : (h : Head) → IsEarlyAt h [] (part.Ballots 0)
    early_start head.Whole = (refl, tt)
    early_start h = tt

after_run-steps : (plan : Plan) (said : Said) (t : Taken) → after_run plan said ≡ Some t → Steps t
after_run-steps plan (Ballots style count) t e = in_head-steps plan head.Runs (Ballots style count) t e
after_run-steps plan said t e = body_line-steps plan (commits plan) (part.Ballots 0) said t (commits_free plan) tt e

take_at-steps : (plan : Plan) (stage : Head) (due : List Slot) (may_begin : Part) (said : Said) (t : Taken) → IsEarlyAt stage due may_begin → take_at plan stage due may_begin said ≡ Some t → Steps t
take_at-steps plan head.Whole due may_begin said t early e = body_line-steps plan due may_begin said t early.0 early.1 e
take_at-steps plan head.Runs due may_begin said t early e = after_run-steps plan said t e
take_at-steps plan stage due may_begin said t early e = in_head-steps plan stage said t e

take_line-steps : (next : Next) (said : Said) (t : Taken) → IsEarly next → take_line next said ≡ Some t → Steps t
unfolding take_line
take_line-steps next said t early e = take_at-steps next.plan next.head next.due next.part said t early e

-- THE WHOLE

-- lines that bar none, and behind them the first of the results, all of them where the record is whole, and disputes
pub record Parted (lines : List Placed) (next : Next) : Type 0 where
  pub before : List Placed
  pub rest : List Placed
  pub lines_are : lines ≡ before ++ rest
  pub free : AreFree before
  pub ends : Ends next.plan (results next.plan) rest next

parted_now : (next : Next) → IsEarly next → Parted [] next
parted_now next early = record {
  before = [];
  rest = [];
  lines_are = refl;
  free = tt;
  ends = record {
    filled = [];
    left = results next.plan;
    middle = [];
    last = [];
    lines_are = refl;
    due_is = refl;
    fills = tt;
    disputes = tt;
    plan_is = refl;
    ended = λ whole. absurd (not_whole next.head next.due next.part early whole);
  };
}
  where
    not_whole : (stage : Head) (due : List Slot) (may_begin : Part) → IsEarlyAt stage due may_begin → is_whole_at stage due may_begin ≡ true → ⊥
    not_whole head.Whole [] (part.Disputes count) e whole = absurd e.1
    not_whole head.Whole [] (part.Ballots last) e whole = cc
    not_whole head.Whole [] (part.Cast ballot race column) e whole = cc
    not_whole head.Whole (s ∷ due) may_begin e whole = cc
    not_whole head.Version due may_begin e whole = cc
    not_whole head.Election due may_begin e whole = cc
    not_whole head.Instances due may_begin e whole = cc
    not_whole head.Races due may_begin e whole = cc
    not_whole (head.Candidates left) due may_begin e whole = cc
    not_whole head.Styles due may_begin e whole = cc
    not_whole head.Runs due may_begin e whole = cc

parted_on : (line : Placed) (lines : List Placed) (next : Next) → BarsNone line → Parted lines next → Parted (line ∷ lines) next
parted_on line lines next free rest = record {
  before = line ∷ rest.before;
  rest = rest.rest;
  lines_are = ap (λ (l : List Placed). line ∷ l) rest.lines_are;
  free = (free, rest.free);
  ends = rest.ends;
}

parted_begun : (plan : Plan) (s : Slot) (due : List Slot) (line : Placed) (lines : List Placed) (next : Next) → results plan ≡ s ∷ due → FillsSlot s line → Ends plan due lines next → Parted (line ∷ lines) next
parted_begun plan s due line lines next is fits rest = record {
  before = [];
  rest = line ∷ lines;
  lines_are = refl;
  free = tt;
  ends =
      subst (λ (p : Plan). Ends p (results p) (line ∷ lines) next) (sym rest.plan_is)
      (subst (λ (l : List Slot). Ends plan l (line ∷ lines) next) (sym is) (ends_filled plan s due line lines next fits rest));
}

pub parted : (next : Next) (lines : List (List ℕ)) (w : Walked) → IsEarly next → walk next lines ≡ Some w → Parted (placed_of w.posted) w.next
unfolding walk
parted next [] w early e =
    subst (λ (x : Walked). Parted (placed_of x.posted) x.next) (none next w e) (parted_now next early)
  where
    none : (n : Next) (x : Walked) → walk n [] ≡ Some x → record { posted = []; next = n } ≡ x
    none n x d = same_Some (record { posted = []; next = n }) x d
parted next (bytes ∷ lines) w early e =
    let on = walk-first next bytes lines w e in
    let line = take_bytes-line next bytes on.taken on.first in
    subst (λ (x : Walked). Parted (placed_of x.posted) x.next) on.is
    (stepped on.taken on.rest on.others (λ goes. parted on.taken.next lines on.rest goes on.others) (take_line-steps next line.0 on.taken early line.2))
  where
    stepped : (t : Taken) (rest : Walked) → walk t.next lines ≡ Some rest → (IsEarly t.next → Parted (placed_of rest.posted) rest.next) → Steps t → Parted (t.placed ∷ placed_of rest.posted) rest.next
    stepped t rest others more (inl goes) = parted_on t.placed (placed_of rest.posted) rest.next goes.1 (more goes.0)
    stepped t rest others more (inr begun) =
        parted_begun begun.plan begun.slot begun.due t.placed (placed_of rest.posted) rest.next begun.results_are begun.fills
        (ends begun.plan begun.due 0 lines rest (walk_from t (behind begun.plan begun.due (part.Disputes 0)) lines rest begun.next_is others))

-- WHAT FOLLOWS

cross_unbarred : (xs ys : List Placed) → AreOfDisputes ys → Cross clash xs ys
cross_unbarred [] ys free = tt
cross_unbarred (x ∷ xs) ys free = (none_clash ys free, cross_unbarred xs ys free)
  where
    none_clash : (lines : List Placed) → AreOfDisputes lines → None_of (clash x) lines
    none_clash [] u = refl
    none_clash (y ∷ lines) u = or_from (clash x y) (list_any (clash x) lines) (unbarred x y u.0) (none_clash lines u.1)

apart_unbarred : (xs : List Placed) → AreOfDisputes xs → Apart clash xs
apart_unbarred [] free = tt
apart_unbarred (x ∷ xs) free = (none_clash xs free.1, apart_unbarred xs free.1)
  where
    none_clash : (lines : List Placed) → AreOfDisputes lines → None_of (clash x) lines
    none_clash [] u = refl
    none_clash (y ∷ lines) u = or_from (clash x y) (list_any (clash x) lines) (unbarred x y u.0) (none_clash lines u.1)

free_apart : (xs ys : List Placed) → AreFree xs → Apart clash ys → Apart clash (xs ++ ys)
free_apart [] ys free apart = apart
free_apart (x ∷ xs) ys free apart = (none-all (clash x) (xs ++ ys) free.0, free_apart xs ys free.1 apart)

-- no line of a front stands behind one that bars it
pub lines_apart : (lines : List Placed) (next : Next) → Parted lines next → Apart clash lines
lines_apart lines next parts =
    let e = parts.ends in
    let middle = fills_apart e.filled e.middle e.fills (apart_left e.filled e.left (subst (λ (l : List Slot). Apart slot_clash l) e.due_is (results_apart next.plan))) in
    subst (λ (l : List Placed). Apart clash l) (sym parts.lines_are)
    (free_apart parts.before parts.rest parts.free
    (subst (λ (l : List Placed). Apart clash l) (sym e.lines_are) (apart-append clash e.middle e.last middle (apart_unbarred e.last e.disputes) (cross_unbarred e.middle e.last e.disputes))))
