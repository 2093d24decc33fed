-- A key that no entry of a history has is not among its rows.
use Rattle.std.proofs.Common.{◌≡◌, ◌≢◌, ℕ, ◌==◌, Bool, true, false, ◌||◌, cond, List, [], ◌∷◌, length, map, None, refl, ap, sym, ◌∙◌, arith, subst}
use Rattle.std.specs.List.{join_with_byte, list_any}
use Rattle.std.specs.Ordering.{int_eq}
use Rattle.std.specs.Prelude.{pos}
use Rattle.std.proofs.lemmas.Bool.Decides.{nat_tests}
use Rattle.sg_plan.specs.declared.plan.Fate.{Fate}
use Rattle.sg_plan.specs.declared.plan.Fate.TheVariants as fate
use Rattle.sg_keeper.specs.Rows.{ballot_before, ballot_is, is_new, put, void_before, void_is, with_row}
use Rattle.sg_acts.specs.declared.asks.Act.{Act}
use Rattle.sg_acts.specs.declared.asks.Act.TheVariants as act
use Rattle.sg_keeper.specs.declared.rows.BallotRow.{BallotRow}
use Rattle.sg_keeper.specs.declared.rows.VoidRow.{VoidRow}
use Rattle.sg_keeper.specs.declared.setup.Setup.{Setup}
use Rattle.sg_desks.specs.ActTexts.{codes_word, mark_word}
use Rattle.sg_histories.specs.Answers.{refusal_of}
use Rattle.sg_histories.specs.Histories.{Entry, claims_of, fate_after, fate_of, fate_word, phase_of}
use Rattle.sg_histories.specs.KeptRows.{row_of_act, rows_of}
use Rattle.sg_histories.specs.Lawful.{Lawful}
use Rattle.sg_histories.proofs.Accepted.{early, first_none, passed, unused_is}

-- a test of some row, where one was put among the others
pub any_put : {A : Type 0} (before : A → A → Bool) (p : A → Bool) (row : A) (rows : List A) → list_any p (put before row rows) ≡ (p row || list_any p rows)
any_put before p row [] = refl
any_put before p row (x ∷ xs) = by_order (before row x) (any_put before p row xs)
  where
    swapped : (a b c : Bool) → (a || (b || c)) ≡ (b || (a || c))
    swapped true true c = refl
    swapped true false c = refl
    swapped false b c = refl

    by_order : (b : Bool) → list_any p (put before row xs) ≡ (p row || list_any p xs) → list_any p (cond b (row ∷ x ∷ xs) (x ∷ put before row xs)) ≡ (p row || (p x || list_any p xs))
    by_order true ih = refl
    by_order false ih = ap (λ r. p x || r) ih ∙ swapped (p x) (p row) (list_any p xs)

-- different numbers, as signed ones
pub apart : (a b : ℕ) → a ≢ b → int_eq (pos a) (pos b) ≡ false
apart a b h = grind (arith, nat_tests, h)

-- a ballot that has no row, after another row was put in
pub still_new : (row other : BallotRow) (rows : List BallotRow) → ballot_is other row ≡ false
    → is_new ballot_is row rows ≡ true → is_new ballot_is row (put ballot_before other rows) ≡ true
still_new row other rows h new = rw (any_put ballot_before (λ kept. ballot_is kept row) other rows) (rw h new)

-- a row of the ballot was not put in, where its fate would be another one
new_told : (ballot other fate_number : ℕ) (row : BallotRow) (detail : List ℕ) (rows : List BallotRow) (told before : Fate) (b : Bool) → (other == ballot) ≡ b
    → row.ballot ≡ pos ballot
    → (told ≡ fate.Unused → ⊥) → cond b told before ≡ fate.Unused
    → (before ≡ fate.Unused → is_new ballot_is row rows ≡ true)
    → is_new ballot_is row (put ballot_before (record { ballot = pos other; fate = pos fate_number; detail = detail }) rows) ≡ true
new_told ballot other fate_number row detail rows told before true e is clash k old = absurd (clash k)
new_told ballot other fate_number row detail rows told before false e is clash k old =
    let different : other ≢ ballot = grind (arith, nat_tests, e) in
    let tests : int_eq (pos other) row.ballot ≡ false = rw is (apart other ballot different) in
    still_new row (record { ballot = pos other; fate = pos fate_number; detail = detail }) rows tests (old k)

not_told : (told before : Fate) (b : Bool) → (told ≡ fate.Unused → ⊥) → cond b told before ≡ fate.Unused → before ≡ fate.Unused
not_told told before true clash k = absurd (clash k)
not_told told before false clash k = k

-- a ballot without a fate has no row
pub new_ballot : (setup : Setup) (text : List ℕ) (history : List Entry) (ballot : ℕ) (row : BallotRow) → row.ballot ≡ pos ballot
    → fate_of history ballot ≡ fate.Unused → is_new ballot_is row (rows_of setup text history).ballots ≡ true
new_ballot setup text [] ballot row b e = refl
new_ballot setup text (entry ∷ history) ballot row b e = by_act entry.act e (new_ballot setup text history ballot row b)
  where
    by_act : (done : Act) → fate_after ballot done (fate_of history ballot) ≡ fate.Unused
        → (fate_of history ballot ≡ fate.Unused → is_new ballot_is row (rows_of setup text history).ballots ≡ true)
        → is_new ballot_is row (with_row (rows_of setup text history) (row_of_act setup.plan.version (length (claims_of history)) done)).ballots ≡ true
    by_act (act.Scan other marks) k old = new_told ballot other 1 row (join_with_byte 32 (map mark_word marks)) (rows_of setup text history).ballots (fate.Cast marks) (fate_of history ballot) (other == ballot) refl b (λ p. cc) k old
    by_act (act.Spoil other) k old = new_told ballot other 2 row [] (rows_of setup text history).ballots fate.Spoiled (fate_of history ballot) (other == ballot) refl b (λ p. cc) k old
    by_act (act.Audit other paper) k old = new_told ballot other 3 row (join_with_byte 32 (map (codes_word setup.plan.version) paper)) (rows_of setup text history).ballots (fate.Audited paper) (fate_of history ballot) (other == ballot) refl b (λ p. cc) k old
    by_act (act.Void other) k old = old (not_told fate.Voided (fate_of history ballot) (other == ballot) (λ p. cc) k)
    by_act act.Close k old = old k
    by_act (act.Draw drawn) k old = old k
    by_act (act.Claim other race code) k old = old k

-- a void row of another ballot
still_new_void : (row other : VoidRow) (rows : List VoidRow) → void_is other row ≡ false
    → is_new void_is row rows ≡ true → is_new void_is row (put void_before other rows) ≡ true
still_new_void row other rows h new = rw (any_put void_before (λ kept. void_is kept row) other rows) (rw h new)

-- a fate that is not voided was not before, where it was told of a ballot without a fate
not_voided : (told before : Fate) (b : Bool) → (b ≡ true → before ≡ fate.Unused) → (cond b told before ≡ fate.Voided → ⊥) → before ≡ fate.Voided → ⊥
not_voided told before true unused k v = let e : fate.Unused ≡ fate.Voided = sym (unused refl) ∙ v in (cc)
not_voided told before false unused k v = k v

unused_there : (history : List Entry) (ballot other : ℕ) → fate_of history other ≡ fate.Unused → (other == ballot) ≡ true → fate_of history ballot ≡ fate.Unused
unused_there history ballot other u e = let is : other ≡ ballot = grind (arith, nat_tests, e) in subst (λ (b : ℕ). fate_of history b ≡ fate.Unused) is u

-- a ballot that is not voided has no void row
pub new_void : (setup : Setup) (text : List ℕ) (history : List Entry) (ballot : ℕ) → Lawful setup history
    → (fate_of history ballot ≡ fate.Voided → ⊥) → is_new void_is (record { ballot = pos ballot }) (rows_of setup text history).voids ≡ true
new_void setup text [] ballot lawful e = refl
new_void setup text (entry ∷ history) ballot lawful e =
    by_act entry.act (passed setup history lawful.0.stamp entry.act lawful.0.accepted).refusal e (new_void setup text history ballot lawful.1)
  where
    by_test : (other : ℕ) (b : Bool) → (other == ballot) ≡ b → (cond b fate.Voided (fate_of history ballot) ≡ fate.Voided → ⊥)
        → ((fate_of history ballot ≡ fate.Voided → ⊥) → is_new void_is (record { ballot = pos ballot }) (rows_of setup text history).voids ≡ true)
        → is_new void_is (record { ballot = pos ballot }) (put void_before (record { ballot = pos other }) (rows_of setup text history).voids) ≡ true
    by_test other true t k old = absurd (k refl)
    by_test other false t k old =
        let different : other ≢ ballot = grind (arith, nat_tests, t) in
        still_new_void (record { ballot = pos ballot }) (record { ballot = pos other }) (rows_of setup text history).voids (apart other ballot different) (old k)

    by_act : (done : Act) → refusal_of setup history lawful.0.stamp.station done ≡ None → (fate_after ballot done (fate_of history ballot) ≡ fate.Voided → ⊥)
        → ((fate_of history ballot ≡ fate.Voided → ⊥) → is_new void_is (record { ballot = pos ballot }) (rows_of setup text history).voids ≡ true)
        → is_new void_is (record { ballot = pos ballot }) (with_row (rows_of setup text history) (row_of_act setup.plan.version (length (claims_of history)) done)).voids ≡ true
    by_act (act.Scan other marks) r k old =
        let u : fate_of history other ≡ fate.Unused = unused_is (fate_of history other) (early setup.plan (phase_of history) (fate_word (fate_of history other)) other (first_none _ _ r).0).unused in
        old (not_voided (fate.Cast marks) (fate_of history ballot) (other == ballot) (unused_there history ballot other u) k)
    by_act (act.Spoil other) r k old =
        let u : fate_of history other ≡ fate.Unused = unused_is (fate_of history other) (early setup.plan (phase_of history) (fate_word (fate_of history other)) other r).unused in
        old (not_voided fate.Spoiled (fate_of history ballot) (other == ballot) (unused_there history ballot other u) k)
    by_act (act.Audit other paper) r k old =
        let u : fate_of history other ≡ fate.Unused = unused_is (fate_of history other) (early setup.plan (phase_of history) (fate_word (fate_of history other)) other (first_none _ _ r).0).unused in
        old (not_voided (fate.Audited paper) (fate_of history ballot) (other == ballot) (unused_there history ballot other u) k)
    by_act (act.Void other) r k old = by_test other (other == ballot) refl k old
    by_act act.Close r k old = old k
    by_act (act.Draw drawn) r k old = old k
    by_act (act.Claim other race code) r k old = old k
