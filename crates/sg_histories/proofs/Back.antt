-- How an act with a new stamp is accepted, and the rows that rise before and after.
use Rattle.std.proofs.Common.{◌≡◌, ℕ, zero, suc, ◌<◌, ◌^◌, nat_lt, Bool, true, false, ◌&&◌, ◌||◌, not, cond, List, [], ◌∷◌, ◌++◌, length, bytes_eq, slice_get, Option, Some, None, is_none, refl, ap, sym, ◌∙◌, arith}
use Rattle.std.specs.List.{list_all, list_any}
use Rattle.std.specs.Option.{option_map_or}
use Rattle.std.specs.Ordering.{int_eq}
use Rattle.std.specs.Prelude.{pos, int_lt, ℤ, negsuc}
use Rattle.std.proofs.lemmas.Bool.{and_parts}
use Rattle.std.proofs.lemmas.Bool.Decides.{nat_tests}
use Rattle.std.proofs.lemmas.Int.{ints}
use Rattle.std.proofs.lemmas.Slice.Eq.{bytes_eq-Decides}
use Rattle.sg_lists.proofs.Bools.{not_or_parts}
use Rattle.sg_lists.proofs.Integers.{higher_differs, lower_differs}
use Rattle.sg_plan.specs.Limits.{each_keeps, first_bad, first_of}
use Rattle.sg_plan.proofs.Lists.{first_bad-each}
use Rattle.sg_keeper.specs.Rows.{ballot_before, ballot_is, done_before, done_is, is_new, put, void_before, void_is}
use Rattle.sg_acts.specs.declared.asks.Act.{Act}
use Rattle.sg_acts.specs.declared.asks.Stamp.{Stamp}
use Rattle.sg_acts.specs.declared.replies.Reply.{Reply}
use Rattle.sg_acts.specs.declared.replies.Reply.TheVariants as reply
use Rattle.sg_keeper.specs.declared.rows.DoneRow.{DoneRow}
use Rattle.sg_keeper.specs.declared.setup.Setup.{Setup}
use Rattle.sg_desks.specs.ActTexts.{act_text}
use Rattle.sg_histories.specs.Answers.{knows_secret_of, refusal_of, repeat_of, unless}
use Rattle.sg_histories.specs.Histories.{Entry, is_stamped}
use Rattle.sg_histories.specs.KeptRows.{done_row, rows_of}
use Rattle.sg_histories.specs.Lawful.{IsAccepted, IsAskable}
use Rattle.sg_histories.specs.ValidRows.{climbs, is_stamp, natural}
use Rattle.sg_histories.proofs.Accepted.{accepts_is}
use Rattle.sg_histories.proofs.NewKeys.{any_put}
use Rattle.sg_histories.proofs.OutDones.{same_done}
use Rattle.sg_histories.proofs.Pairing.{BeforeAll, Rises}
use Rattle.sg_histories.proofs.Rising.{IsOrder, before_more, climbs_last}

-- TESTS

pub same_bad : {A : Type 0} (keeps other : List A → A → Bool) (earlier rows : List A) → ((front : List A) (x : A) → keeps front x ≡ other front x) → first_bad keeps earlier rows ≡ first_bad other earlier rows
same_bad keeps other earlier [] same = refl
same_bad keeps other earlier (x ∷ rows) same =
    ap (λ b. cond b (first_bad keeps (earlier ++ x ∷ []) rows) (Some (length earlier))) (same earlier x)
    ∙ ap (λ o. cond (other earlier x) o (Some (length earlier))) (same_bad keeps other (earlier ++ x ∷ []) rows same)

-- RISING

pub each_from : {A : Type 0} (keeps : List A → A → Bool) (rows : List A) → first_bad keeps [] rows ≡ None → each_keeps keeps [] rows ≡ true
each_from keeps rows e = sym (first_bad-each keeps [] rows) ∙ ap is_none e

pub rises_from : {A : Type 0} (before same : A → A → Bool) (keeps : List A → A → Bool) → IsOrder before same → ((front : List A) (x : A) → keeps front x ≡ true → climbs before front x ≡ true)
    → (earlier rows : List A) → each_keeps keeps earlier rows ≡ true → Rises before rows
rises_from before same keeps order up earlier [] e = tt
rises_from {A} before same keeps order up earlier (x ∷ xs) e =
    let parts = and_parts (keeps earlier x) (each_keeps keeps (earlier ++ x ∷ []) xs) e in
    let ih = rises_from before same keeps order up (earlier ++ x ∷ []) xs parts.1 in
    (head xs parts.1 ih, ih)
  where
    head : (rest : List A) → each_keeps keeps (earlier ++ x ∷ []) rest ≡ true → Rises before rest → BeforeAll before x rest
    head [] k r = tt
    head (y ∷ ys) k r =
        let p = and_parts (keeps (earlier ++ x ∷ []) y) (each_keeps keeps ((earlier ++ x ∷ []) ++ y ∷ []) ys) k in
        let above : before x y ≡ true = sym (climbs_last before earlier x y) ∙ up (earlier ++ x ∷ []) y p.0 in
        (above, before_more before same order x y ys above r.0)

pub all_from : {A : Type 0} (keeps : List A → A → Bool) (p : A → Bool) → ((front : List A) (x : A) → keeps front x ≡ true → p x ≡ true) → (earlier rows : List A) → each_keeps keeps earlier rows ≡ true → list_all p rows ≡ true
all_from keeps p gives earlier [] e = refl
all_from keeps p gives earlier (x ∷ xs) e =
    let parts = and_parts (keeps earlier x) (each_keeps keeps (earlier ++ x ∷ []) xs) e in
    rw (gives earlier x parts.0) (all_from keeps p gives (earlier ++ x ∷ []) xs parts.1)

-- one taken out of rows that rise
out_before : {A : Type 0} (before : A → A → Bool) (x row : A) (xs : List A) → BeforeAll before x (put before row xs) → (before x row ≡ true) × BeforeAll before x xs
out_before before x row [] h = (h.0, tt)
out_before before x row (y ∷ ys) h = by_order (before row y) h (λ k. out_before before x row ys k)
  where
    by_order : (b : Bool) → BeforeAll before x (cond b (row ∷ y ∷ ys) (y ∷ put before row ys)) → (BeforeAll before x (put before row ys) → (before x row ≡ true) × BeforeAll before x ys)
        → (before x row ≡ true) × BeforeAll before x (y ∷ ys)
    by_order true k ih = (k.0, k.1)
    by_order false k ih = ((ih k.1).0, (k.0, (ih k.1).1))

pub out_rises : {A : Type 0} (before : A → A → Bool) (row : A) (xs : List A) → Rises before (put before row xs) → Rises before xs
out_rises before row [] h = tt
out_rises before row (x ∷ xs) h = by_order (before row x) h (λ k. out_rises before row xs k)
  where
    by_order : (b : Bool) → Rises before (cond b (row ∷ x ∷ xs) (x ∷ put before row xs)) → (Rises before (put before row xs) → Rises before xs) → Rises before (x ∷ xs)
    by_order true k ih = k.1
    by_order false k ih = ((out_before before x row xs k.0).1, ih k.1)

-- keys in an order are not the same
abbrev pub Differ : {A : Type 0} → (A → A → Bool) → (A → A → Bool) → Type 0
Differ {A} before same = (a b : A) → before a b ≡ true → (same b a ≡ false) × (same a b ≡ false)

pub new_before : {A : Type 0} (before same : A → A → Bool) → Differ before same → (row : A) (xs : List A) → BeforeAll before row xs → is_new same row xs ≡ true
new_before before same differ row [] h = refl
new_before before same differ row (x ∷ xs) h = rw ((differ row x h.0).0) (new_before before same differ row xs h.1)

pub new_out : {A : Type 0} (before same : A → A → Bool) → Differ before same → (row : A) (xs : List A) → Rises before (put before row xs) → is_new same row xs ≡ true
new_out before same differ row [] h = refl
new_out before same differ row (x ∷ xs) h = by_order (before row x) h (λ k. new_out before same differ row xs k)
  where
    by_order : (b : Bool) → Rises before (cond b (row ∷ x ∷ xs) (x ∷ put before row xs)) → (Rises before (put before row xs) → is_new same row xs ≡ true) → is_new same row (x ∷ xs) ≡ true
    by_order true k ih = new_before before same differ row (x ∷ xs) k.0
    by_order false k ih = rw ((differ x row (out_before before x row xs k.0).0).1) (ih k.1)

pairs_differ : (a b n m : ℤ) → (int_lt a b || (int_eq a b && int_lt n m)) ≡ true → (int_eq b a && int_eq m n) ≡ false
pairs_differ a b n m h = grind (arith, ints, h)

pairs_differ_too : (a b n m : ℤ) → (int_lt a b || (int_eq a b && int_lt n m)) ≡ true → (int_eq a b && int_eq n m) ≡ false
pairs_differ_too a b n m h = grind (arith, ints, h)

pub ballots_differ : Differ ballot_before ballot_is
ballots_differ a b h = (higher_differs b.ballot a.ballot h, lower_differs a.ballot b.ballot h)

pub voids_differ : Differ void_before void_is
voids_differ a b h = (higher_differs b.ballot a.ballot h, lower_differs a.ballot b.ballot h)

pub dones_differ : Differ done_before done_is
dones_differ a b h = (pairs_differ a.station b.station a.number b.number h, pairs_differ_too a.station b.station a.number b.number h)

-- ACCEPTING

-- a number that is one
abbrev pub nat_of : ℤ → ℕ
nat_of (pos n) = n
nat_of (negsuc n) = 0

pub nat_is : (z : ℤ) (limit : ℕ) → option_map_or (λ n. nat_lt n limit) (natural z) false ≡ true → (z ≡ pos (nat_of z)) × (nat_of z < limit)
nat_is (pos n) limit e = (refl, grind (arith, nat_tests, e))
nat_is (negsuc n) limit e = cc

-- the entry of a done row and its act
abbrev pub entry_for : DoneRow → Act → Entry
entry_for row done = record { station = nat_of row.station; number = nat_of row.number; act = done }

pub row_back : (setup : Setup) (row : DoneRow) (done : Act) (stations : ℕ) → is_stamp stations row ≡ true → row.act ≡ act_text setup.plan.version done → done_row setup.plan.version (entry_for row done) ≡ row
row_back setup row done stations stamp words =
    let parts = and_parts _ _ stamp in
    let s = (nat_is row.station stations parts.0).0 in
    let n = (nat_is row.number (2 ^ 32) parts.1).0 in
    back (pos (nat_of row.station)) (pos (nat_of row.number)) (act_text setup.plan.version done) row.station row.number row.act (sym s) (sym n) (sym words)
  where
    back : (a b : ℤ) (c : List ℕ) (x y : ℤ) (z : List ℕ) → a ≡ x → b ≡ y → c ≡ z → ◌≡◌ {A = DoneRow} (record { station = a; number = b; act = c }) (record { station = x; number = y; act = z })
    back a b c x y z e f g =
        ap (λ (v : ℤ). record { station = v; number = b; act = c }) e ∙ (ap (λ (v : ℤ). record { station = x; number = v; act = c }) f ∙ ap (λ (v : List ℕ). record { station = x; number = y; act = v }) g)

passed_over : (b : Bool) (said : Reply) (rest : Option Reply) → b ≡ false → rest ≡ None → cond b (Some said) rest ≡ None
passed_over true said rest e f = cc
passed_over false said rest e f = f

-- a stamp that is new among the rows is new in the history
pub repeat_new : (setup : Setup) (text : List ℕ) (history : List Entry) (stamp : Stamp) (asked : Act) (words : List ℕ)
    → is_new done_is (record { station = pos stamp.station; number = pos stamp.number; act = words }) (rows_of setup text history).dones ≡ true → repeat_of setup history stamp asked ≡ None
repeat_new setup text [] stamp asked words e = refl
repeat_new setup text (entry ∷ history) stamp asked words e =
    let row : DoneRow = record { station = pos stamp.station; number = pos stamp.number; act = words } in
    let split : not (done_is (done_row setup.plan.version entry) row || list_any (λ kept. done_is kept row) (rows_of setup text history).dones) ≡ true
    = ap not (sym (any_put done_before (λ kept. done_is kept row) (done_row setup.plan.version entry) (rows_of setup text history).dones)) ∙ e in
    let parts = not_or_parts _ _ split in
    let t : is_stamped stamp.station stamp.number entry ≡ false = sym (same_done setup.plan.version stamp.station stamp.number words entry) ∙ parts.0 in
    passed_over _ _ _ t (repeat_new setup text history stamp asked words parts.1)

abbrev pub secret_at : List (List ℕ) → ℕ → List ℕ
secret_at [] at = []
secret_at (x ∷ xs) zero = x
secret_at (x ∷ xs) (suc at) = secret_at xs at

knows : (secrets : List (List ℕ)) (at : ℕ) → at < length secrets → option_map_or (λ secret. bytes_eq secret (secret_at secrets at)) (slice_get secrets at) false ≡ true
knows [] at h = absurd (omega (arith, h))
knows (x ∷ xs) zero h = (bytes_eq-Decides x x).1 refl
knows (x ∷ xs) (suc at) h = knows xs at (omega (arith, h))

all_pass : (s : Bool) (o r : Option Reply) → s ≡ true → o ≡ None → r ≡ None → is_none (first_of (unless s reply.Secret ∷ o ∷ r ∷ [])) ≡ true
all_pass true None None e f g = refl
all_pass false o r e f g = cc
all_pass true (Some x) r e f g = cc
all_pass true None (Some x) e f g = cc

pub accepted : (setup : Setup) (text : List ℕ) (history : List Entry) (row : DoneRow) (done : Act) → is_stamp (length setup.secrets) row ≡ true → is_new done_is row (rows_of setup text history).dones ≡ true
    → IsAskable setup done → refusal_of setup history (nat_of row.station) done ≡ None → IsAccepted setup history (entry_for row done)
accepted setup text history row done good new is r =
    let parts = and_parts _ _ good in
    let s = nat_is row.station (length setup.secrets) parts.0 in
    let n = nat_is row.number (2 ^ 32) parts.1 in
    let stamp : Stamp = record { station = nat_of row.station; secret = secret_at setup.secrets (nat_of row.station); number = nat_of row.number } in
    let fresh : is_new done_is (record { station = pos stamp.station; number = pos stamp.number; act = row.act }) (rows_of setup text history).dones ≡ true
    = ap (λ (z : ℤ). is_new done_is (record { station = z; number = pos stamp.number; act = row.act }) (rows_of setup text history).dones) (sym s.0)
    ∙ (ap (λ (z : ℤ). is_new done_is (record { station = row.station; number = z; act = row.act }) (rows_of setup text history).dones) (sym n.0) ∙ new) in
    record {
      stamp = stamp;
      is = refl;
      number = n.1;
      act_is = is;
      accepted = accepts_is setup history stamp done ∙ all_pass (knows_secret_of setup.secrets stamp) (repeat_of setup history stamp done) (refusal_of setup history stamp.station done)
          (knows setup.secrets stamp.station s.1) (repeat_new setup text history stamp done row.act fresh) r;
    }
