-- Lists of scans, with and without those that come again.
use Rattle.std.proofs.Common.{◌≡◌, zero, suc, Bool, true, false, ◌||◌, if◌then◌else◌, List, [], ◌∷◌, ◌++◌, All, Option, Some, is_none, refl, ap, sym, ◌∙◌, arith, subst}
use Rattle.std.specs.List.{list_any}
use Rattle.std.specs.Option.{unwrap_or}
use Rattle.sg_acts.specs.declared.replies.Reply.{Reply}
use Rattle.sg_acts.specs.declared.replies.Reply.TheVariants as reply
use Rattle.sg_keeper.specs.declared.setup.Setup.{Setup}
use Rattle.sg_histories.proofs.Accepted.{next_early}
use Rattle.sg_histories.specs.Answers.{answer_of, body_of, early_reply, entry_of, next_history}
use Rattle.sg_histories.specs.Histories.{Entry}
use Rattle.sg_scans.specs.ScanLaws.{AnswersAlike, IsScan, OnceLeadsThere, Scan, TwiceIsAnswered, firsts, history_after, same_scan, scan_act, scan_ask}
use Rattle.sg_scans.proofs.Again.{Alike, again, alike_same, alike_then, first_then}
use Rattle.sg_scans.proofs.SameScan.{scan_is}

head_of : (scan : Scan) (scans : List Scan) → All IsScan (scan ∷ scans) → IsScan scan
head_of scan scans ok = ok 0 scan (omega arith)

tail_of : (scan : Scan) (scans : List Scan) → All IsScan (scan ∷ scans) → All IsScan scans
tail_of scan scans ok k d small = ok (suc k) d (omega (small, arith))

-- TWICE

-- the early reply to a scan, behind many others
alike_after : (setup : Setup) (history : List Entry) (scan : Scan) (between : List Scan) → IsScan scan → All IsScan between
    → (said : Reply) → early_reply setup history scan.stamp (scan_act scan) ≡ Some said
    → Alike said (early_reply setup (history_after setup history between) scan.stamp (scan_act scan))
unfolding history_after
alike_after setup history scan [] small ok said e = record { said = said; is = e; alike = alike_same said }
alike_after setup history scan (other ∷ between) small ok said e =
    let one = again setup history scan other small (head_of other between ok) said e in
    let two = alike_after setup (next_history setup history (scan_ask other)) scan between small (tail_of other between ok) one.said one.is in
    record { said = two.said; is = two.is; alike = alike_then said one.said two.said one.alike two.alike }

after_both : (setup : Setup) (history : List Entry) (before between : List Scan)
    → history_after setup history (before ++ between) ≡ history_after setup (history_after setup history before) between
unfolding history_after
after_both setup history [] between = refl
after_both setup history (scan ∷ before) between = after_both setup (next_history setup history (scan_ask scan)) before between

early_answer : (setup : Setup) (history : List Entry) (scan : Scan) (said : Reply) → early_reply setup history scan.stamp (scan_act scan) ≡ Some said
    → answer_of setup history (scan_ask scan) ≡ said
unfolding answer_of
early_answer setup history scan said e = ap (λ (o : Option Reply). unwrap_or o (reply.Done (body_of setup history (scan_act scan)))) e

pub twice : TwiceIsAnswered
unfolding history_after
twice setup history before scan between small ok =
    let here = history_after setup history before in
    let one = first_then setup here scan in
    let two = alike_after setup (next_history setup here (scan_ask scan)) scan between small ok one.said one.is in
    let both = alike_then (answer_of setup here (scan_ask scan)) one.said two.said one.alike two.alike in
    let where_is : history_after setup history (before ++ scan ∷ between) ≡ history_after setup (next_history setup here (scan_ask scan)) between = after_both setup history before (scan ∷ between) in
    let answer : answer_of setup (history_after setup history (before ++ scan ∷ between)) (scan_ask scan) ≡ two.said
    = ap (λ (h : List Entry). answer_of setup h (scan_ask scan)) where_is ∙ early_answer setup (history_after setup (next_history setup here (scan_ask scan)) between) scan two.said two.is in
    subst (λ (r : Reply). AnswersAlike (answer_of setup here (scan_ask scan)) r) (sym answer) both

-- ONCE

-- the scan has an answer without being accepted
pub record Settled (setup : Setup) (history : List Entry) (scan : Scan) : Type 0 where
  pub said : Reply
  pub is : early_reply setup history scan.stamp (scan_act scan) ≡ Some said

-- each of these has
abbrev AllSettled : Setup → List Entry → List Scan → Type 0
AllSettled setup history [] = Unit {0}
AllSettled setup history (scan ∷ scans) = Settled setup history scan × AllSettled setup history scans

settled_on : (setup : Setup) (history : List Entry) (before : List Scan) (other : Scan) → All IsScan before → IsScan other
    → AllSettled setup history before → AllSettled setup (next_history setup history (scan_ask other)) before
settled_on setup history [] other ok small s = tt
settled_on setup history (scan ∷ before) other ok small s =
    let one = again setup history scan other (head_of scan before ok) small s.0.said s.0.is in
    (record { said = one.said; is = one.is }, settled_on setup history before other (tail_of scan before ok) small s.1)

settled_here : (setup : Setup) (history : List Entry) (scan : Scan) (before : List Scan) → list_any (same_scan scan) before ≡ true
    → AllSettled setup history before → Settled setup history scan
settled_here setup history scan [] e s = cc e
settled_here setup history scan (first ∷ before) e s = by_same (same_scan scan first) refl e (λ h. settled_here setup history scan before h s.1)
  where
    by_same : (b : Bool) → same_scan scan first ≡ b → (b || list_any (same_scan scan) before) ≡ true
        → (list_any (same_scan scan) before ≡ true → Settled setup history scan) → Settled setup history scan
    by_same true same h ih = subst (λ (x : Scan). Settled setup history x) (sym (scan_is scan first same)) s.0
    by_same false same h ih = ih h

settled_stays : (setup : Setup) (history : List Entry) (scan : Scan) → Settled setup history scan → next_history setup history (scan_ask scan) ≡ history
settled_stays setup history scan s =
    next_early setup history scan.stamp (scan_act scan)
    ∙ ap (λ (o : Option Reply). if is_none o then entry_of scan.stamp (scan_act scan) ∷ history else history) s.is

all_more : (scan : Scan) (before : List Scan) → IsScan scan → All IsScan before → All IsScan (scan ∷ before)
all_more scan before small ok zero d less = small
all_more scan before small ok (suc k) d less = ok k d (omega (less, arith))

once_from : (setup : Setup) (scans before : List Scan) (history : List Entry) → All IsScan before → All IsScan scans
    → AllSettled setup history before → history_after setup history scans ≡ history_after setup history (firsts before scans)
unfolding history_after firsts
once_from setup [] before history was ok s = refl
once_from setup (scan ∷ scans) before history was ok s =
    by_seen (list_any (same_scan scan) before) refl (λ w t. once_from setup scans before history w (tail_of scan scans ok) t)
    (λ w t. once_from setup scans (scan ∷ before) (next_history setup history (scan_ask scan)) w (tail_of scan scans ok) t)
  where
    by_seen : (b : Bool) → list_any (same_scan scan) before ≡ b
        → (All IsScan before → AllSettled setup history before → history_after setup history scans ≡ history_after setup history (firsts before scans))
        → (All IsScan (scan ∷ before) → AllSettled setup (next_history setup history (scan_ask scan)) (scan ∷ before)
        → history_after setup (next_history setup history (scan_ask scan)) scans ≡ history_after setup (next_history setup history (scan_ask scan)) (firsts (scan ∷ before) scans))
        → history_after setup (next_history setup history (scan_ask scan)) scans ≡ history_after setup history (if b then firsts before scans else scan ∷ firsts (scan ∷ before) scans)
    by_seen true e left taken =
        ap (λ (h : List Entry). history_after setup h scans) (settled_stays setup history scan (settled_here setup history scan before e s)) ∙ left was s
    by_seen false e left taken =
        let small : IsScan scan = head_of scan scans ok in
        let one = first_then setup history scan in
        let here : Settled setup (next_history setup history (scan_ask scan)) scan = record { said = one.said; is = one.is } in
        taken (all_more scan before small was) (here, settled_on setup history before scan was small s)

pub once : OnceLeadsThere
once setup history scans ok = once_from setup scans [] history (λ k d less. absurd (omega (less, arith))) ok tt
