-- The records of a scanner's file, as what asks an office.
use Rattle.std.proofs.Common.{◌≡◌, ℕ, zero, suc, ◌+◌, List, [], ◌∷◌, ◌++◌, drop, refl, sym, subst, ap, ◌∙◌, append_assoc}
use Rattle.sg_keeper.specs.declared.rows.Rows.{Rows}
use Rattle.sg_keeper.specs.declared.setup.Setup.{Setup}
use Rattle.sg_talk.specs.declared.answered.Answered.{Answered}
use Rattle.sg_histories.specs.declared.kept.Kept.{Kept}
use Rattle.sg_histories.specs.Histories.{Entry}
use Rattle.sg_talk.specs.Turns.{CountsStore}
use Rattle.sg_scans.specs.Asked.{CanCome, EachCanCome}
use Rattle.sg_scans.specs.declared.fields.ScanLine.{ScanLine}
use Rattle.sg_clerk.specs.Asking.{RepliesNext}
use Rattle.sg_clerk.specs.scans.DoesScans.{Handed, by_scans, scans_in}
use Rattle.sg_clerk.specs.scans.inside.ScanSteps.{HasHanded, ScansCame}

scans-push : (handed : List Handed) (x : Handed) → scans_in (handed ++ x ∷ []) ≡ scans_in handed ++ x.line ∷ []
scans-push [] x = refl
scans-push (y ∷ ys) x = ap (λ l. y.line ∷ l) (scans-push ys x)

-- one more record came
one-more : (first lines : List ScanLine) (at : ℕ) (line : ScanLine) (handed : List Handed) (x : Handed) → drop at lines ≡ line ∷ drop (at + 1) lines → x.line ≡ line
    → ScansCame first at lines handed → ScansCame first (at + 1) lines (handed ++ x ∷ [])
one-more first lines at line handed x next is came = record {
  same = came.same;
  are = came.are ∙ (ap (λ l. scans_in handed ++ l) (subst (λ (l : List ScanLine). drop at l ≡ line ∷ drop (at + 1) l) came.same next ∙ ap (λ (l : ScanLine). l ∷ drop (at + 1) first) (sym is))
      ∙ (sym (append_assoc (scans_in handed) (x.line ∷ []) (drop (at + 1) first)) ∙ ap (λ l. l ++ drop (at + 1) first) (sym (scans-push handed x))));
}

-- and was answered
pub record-replied : (first lines : List ScanLine) (at : ℕ) (line : ScanLine) (answer : Answered) (setup : Setup) (office : Kept) (tells : Type 0) (rows after : Rows) (faults faults' : ℕ)
    (history : List Entry) (handed : List Handed) → drop at lines ≡ line ∷ drop (at + 1) lines → HasHanded setup office tells rows after line answer history → CountsStore faults faults' answer
    → ScansCame first at lines handed → RepliesNext by_scans (ScansCame first (at + 1) lines) answer setup office tells rows after faults faults' history handed
record-replied first lines at line answer setup office tells rows after faults faults' history handed next answered stores came = record {
  one = record { line = line; answer = answer };
  next = answered.next;
  turn = answered.answers;
  reply_is = refl;
  stands = answered.stands;
  keeper = record { kept = answered.kept; counted = stores };
  came = one-more first lines at line handed (record { line = line; answer = answer }) next refl came;
}

-- THE RECORDS STILL TO COME

-- each of them can come, and so the one at this place
pub can-come : (lines : List ScanLine) (at : ℕ) (line : ScanLine) → drop at lines ≡ line ∷ drop (at + 1) lines → EachCanCome lines → CanCome line
can-come lines at line is each = (subst EachCanCome is (come-behind at lines each)).0
  where
    come-behind : (n : ℕ) (list : List ScanLine) → EachCanCome list → EachCanCome (drop n list)
    come-behind zero list come = come
    come-behind (suc n) [] come = tt
    come-behind (suc n) (x ∷ xs) come = come-behind n xs come.1
