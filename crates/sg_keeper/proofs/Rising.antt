-- Rows that rise by their keys still do so where a row with a new key is put in.
use Rattle.std.proofs.Common.{◌≡◌, Bool, true, false, cond, ℤ, int_lt, List, [], ◌∷◌, refl, arith}
use Rattle.std.specs.List.{list_any}
use Rattle.std.specs.Ordering.{int_eq}
use Rattle.std.proofs.lemmas.Int.{ints}
use Rattle.sg_lists.proofs.Bools.{not_or_parts}
use Rattle.sg_lists.proofs.Integers.{pairs_total, pairs_trans}
use Rattle.sg_keeper.specs.declared.rows.Rows.{Rows}
use Rattle.sg_keeper.specs.declared.rows.ChangeRow.{ChangeRow}
use Rattle.sg_keeper.specs.declared.rows.ChangeRow.TheVariants.{Ballot, Stage, Claim, Void}
use Rattle.sg_keeper.specs.Rows.{ballot_before, ballot_is, claim_before, claim_is, done_before, done_is, is_new, is_new_row, put, stage_before, stage_is, void_before, void_is, with_row}
use Rattle.sg_keeper.specs.Laws.{BeforeAll, Rises, RowsRise, RisingIsKept}

-- a strict order of keys, and its test for the same key
pub record IsKeyOrder {A : Type 0} (before same : A → A → Bool) : Type 0 where
  pub trans : (a b c : A) → before a b ≡ true → before b c ≡ true → before a c ≡ true
  pub total : (a b : A) → before a b ≡ false → same b a ≡ false → before b a ≡ true

-- what is behind an item is behind each item before it
before_trans : {A : Type 0} (before same : A → A → Bool) → IsKeyOrder before same → (a b : A) (xs : List A) → before a b ≡ true → BeforeAll before b xs → BeforeAll before a xs
before_trans before same keys a b [] h all = tt
before_trans before same keys a b (x ∷ xs) h all = (keys.trans a b x h all.0, before_trans before same keys a b xs h all.1)

-- a row that is put in is behind an item, where it and the others are
before_put : {A : Type 0} (before : A → A → Bool) (a row : A) (xs : List A) → before a row ≡ true → BeforeAll before a xs → BeforeAll before a (put before row xs)
before_put before a row [] h all = (h, tt)
before_put before a row (x ∷ xs) h all = by_order (before row x) (before_put before a row xs h all.1)
  where
    by_order : (b : Bool) → BeforeAll before a (put before row xs) → BeforeAll before a (cond b (row ∷ x ∷ xs) (x ∷ put before row xs))
    by_order true later = (h, all)
    by_order false later = (all.0, later)

-- a list that rises still does so with a row whose key is new
pub put_rises : {A : Type 0} (before same : A → A → Bool) → IsKeyOrder before same → (row : A) (xs : List A) → is_new same row xs ≡ true → Rises before xs → Rises before (put before row xs)
put_rises before same keys row [] new rises = (tt, tt)
put_rises before same keys row (x ∷ xs) new rises = by_order (before row x) refl (put_rises before same keys row xs parts.1 rises.1)
  where
    parts : (same x row ≡ false) × (is_new same row xs ≡ true)
    parts = not_or_parts (same x row) (list_any (λ kept. same kept row) xs) new

    by_order : (b : Bool) → before row x ≡ b → Rises before (put before row xs) → Rises before (cond b (row ∷ x ∷ xs) (x ∷ put before row xs))
    by_order true e later = ((e, before_trans before same keys row x xs e rises.0), rises)
    by_order false e later = (before_put before x row xs (keys.total row x e parts.0) rises.0, later)

-- THE FIVE KEYS

lower_trans : (a b c : ℤ) → int_lt a b ≡ true → int_lt b c ≡ true → int_lt a c ≡ true
lower_trans a b c h g = grind (arith, ints, h, g)

lower_total : (a b : ℤ) → int_lt a b ≡ false → int_eq b a ≡ false → int_lt b a ≡ true
lower_total a b h g = grind (arith, ints, h, g)

pub ballot_keys : IsKeyOrder ballot_before ballot_is
ballot_keys = record { trans = λ a b c h g. lower_trans a.ballot b.ballot c.ballot h g; total = λ a b h g. lower_total a.ballot b.ballot h g }

pub stage_keys : IsKeyOrder stage_before stage_is
stage_keys = record { trans = λ a b c h g. lower_trans a.step b.step c.step h g; total = λ a b h g. lower_total a.step b.step h g }

pub claim_keys : IsKeyOrder claim_before claim_is
claim_keys = record { trans = λ a b c h g. lower_trans a.claim b.claim c.claim h g; total = λ a b h g. lower_total a.claim b.claim h g }

pub void_keys : IsKeyOrder void_before void_is
void_keys = record { trans = λ a b c h g. lower_trans a.ballot b.ballot c.ballot h g; total = λ a b h g. lower_total a.ballot b.ballot h g }

pub done_keys : IsKeyOrder done_before done_is
done_keys = record { trans = λ a b c h g. pairs_trans a.station b.station c.station a.number b.number c.number h g; total = λ a b h g. pairs_total a.station b.station a.number b.number h g }

-- ALL ROWS

row_rises : (rows : Rows) (row : ChangeRow) → RowsRise rows → is_new_row rows row ≡ true → RowsRise (with_row rows row)
row_rises rows (Ballot row) up new = record { ballots = put_rises ballot_before ballot_is ballot_keys row rows.ballots new up.ballots; stages = up.stages; claims = up.claims; voids = up.voids; dones = up.dones }
row_rises rows (Stage row) up new = record { ballots = up.ballots; stages = put_rises stage_before stage_is stage_keys row rows.stages new up.stages; claims = up.claims; voids = up.voids; dones = up.dones }
row_rises rows (Claim row) up new = record { ballots = up.ballots; stages = up.stages; claims = put_rises claim_before claim_is claim_keys row rows.claims new up.claims; voids = up.voids; dones = up.dones }
row_rises rows (Void row) up new = record { ballots = up.ballots; stages = up.stages; claims = up.claims; voids = put_rises void_before void_is void_keys row rows.voids new up.voids; dones = up.dones }

pub rising_is_kept : RisingIsKept
rising_is_kept = record {
  none = record { ballots = tt; stages = tt; claims = tt; voids = tt; dones = tt };
  change = λ rows change up new.
      let more = row_rises rows change.row up new.row in
      record { ballots = more.ballots; stages = more.stages; claims = more.claims; voids = more.voids; dones = put_rises done_before done_is done_keys change.done rows.dones new.done up.dones };
}
