-- The rows of a whole record stand in their order, and the coins of a list are theirs.
use Rattle.std.proofs.Common.{◌≡◌, ℕ, ◌-◌, ◌==◌, Bool, true, false, ◌&&◌, List, [], ◌∷◌, ◌++◌, length, Some, refl, sym, subst, ap, ◌∙◌, append_assoc, append-nil, arith}
use Rattle.std.specs.List.{list_any}
use Rattle.std.proofs.lemmas.Bool.{and_from, and_parts, eq-eqb, or_from, or_parts}
use Rattle.std.proofs.lemmas.Option.{same_Some}
use Rattle.sg_forms.specs.Said.{Said}
use Rattle.sg_forms.specs.Said.Said.{Row}
use Rattle.sg_forms.specs.declared.line.RowOpening.{RowOpening}
use Rattle.sg_forms.specs.declared.line.RowOpening.TheVariants as opened
use Rattle.sg_plan.specs.Ballots.{candidates_of, entries_of}
use Rattle.sg_plan.specs.declared.plan.Plan.{Plan}
use Rattle.sg_plan.specs.declared.plan.Side.{Side}
use Rattle.sg_plan.specs.declared.plan.Side.TheVariants as side
use Rattle.sg_grammar.proofs.Filling.{Fills, StandsAs, is_slot_row_at, stands_as}
use Rattle.sg_grammar.proofs.Lists.{none-append, none-numbered}
use Rattle.sg_grammar.proofs.Parting.{AreFree, AreOfDisputes, Parted}
use Rattle.sg_grammar.specs.Due.{each, due_flags, instance_flags, instance_rows, lines_for, due_places, race_places, race_results, race_rows, race_totals, results, row_opening, due_totals}
use Rattle.sg_grammar.specs.Lines.{IsAmong}
use Rattle.sg_grammar.specs.Parting.{None_of}
use Rattle.sg_grammar.specs.Placed.{Placed}
use Rattle.sg_grammar.specs.Placed.Placed.{DrawnFull, RowAt}
use Rattle.sg_grammar.specs.Walk.{Next, is_whole, place}
use Rattle.sg_grammar.specs.declared.state.Slot.{Slot}
use Rattle.sg_grammar.specs.declared.state.Slot.TheVariants as slot
use Rattle.sg_check.specs.Facts.{is_both}
use Rattle.sg_check.specs.Kinds.{is_on_side}
use Rattle.sg_odds.specs.Coins.{are_on_coins}
use Rattle.sg_odds.proofs.Halving.{Misses, hits}
use Rattle.sg_odds.proofs.Rows.{rows_due}

-- LINES WITHOUT ROWS

abbrev pub is_row_line : Placed → Bool
is_row_line (RowAt race instance row opening) = true
is_row_line line = false

abbrev is_row : Slot → Bool
is_row (slot.Row race instance row) = true
is_row s = false

abbrev is_not_row : Slot → Bool
is_not_row (slot.Row race instance row) = false
is_not_row s = true

-- they take no coins
skipped : (xs ys : List Placed) (coins : List Side) → None_of is_row_line xs → are_on_coins (xs ++ ys) coins ≡ are_on_coins ys coins
skipped [] ys coins none = refl
skipped (RowAt race instance row opening ∷ xs) ys coins none = cc
skipped (x ∷ xs) ys coins none = skipped xs ys coins none

behind_front : (lines front rest : List Placed) (coins : List Side) → lines ≡ front ++ rest → None_of is_row_line front → are_on_coins lines coins ≡ true → are_on_coins rest coins ≡ true
behind_front lines front rest coins is none on = sym (skipped front rest coins none) ∙ (sym (ap (λ (l : List Placed). are_on_coins l coins) is) ∙ on)

no_coins : (xs : List Placed) (coins : List Side) → None_of is_row_line xs → are_on_coins xs coins ≡ true → coins ≡ []
no_coins [] [] none on = refl
no_coins [] (coin ∷ coins) none on = cc
no_coins (RowAt race instance row opening ∷ xs) coins none on = cc
no_coins (x ∷ xs) coins none on = no_coins xs coins none on

free_none : (lines : List Placed) → AreFree lines → None_of is_row_line lines
free_none [] free = refl
free_none (RowAt race instance row opening ∷ lines) free = let wrong : true ≡ false = free.0 DrawnFull in cc
free_none (line ∷ lines) free = free_none lines free.1

disputes_none : (lines : List Placed) → AreOfDisputes lines → None_of is_row_line lines
disputes_none [] of = refl
disputes_none (RowAt race instance row opening ∷ lines) of = let wrong : false ≡ true = of.0 in cc
disputes_none (line ∷ lines) of = disputes_none lines of.1

-- a line in the slot of another is no row
not_at : (s : Slot) (race instance row : ℕ) → is_row s ≡ false → is_slot_row_at race instance row s ≡ false
not_at (slot.Row of within at) race instance row e = cc
not_at s race instance row e = refl

not_row : (s : Slot) (line : Placed) → is_row s ≡ false → StandsAs s line → is_row_line line ≡ false
not_row s (RowAt race instance row opening) e stands =
    let here : ((race == race && instance == instance) && row == row) ≡ true
    = and_from (race == race && instance == instance) (row == row) (and_from (race == race) (instance == instance) (eq-eqb race race refl) (eq-eqb instance instance refl)) (eq-eqb row row refl) in
    let wrong : true ≡ false = sym here ∙ (stands.1.3 race instance row ∙ not_at s race instance row e) in
    cc
not_row s line e stands = refl

fills_none : (slots : List Slot) (lines : List Placed) → Fills slots lines → None_of is_row slots → None_of is_row_line lines
fills_none [] [] fills none = refl
fills_none [] (line ∷ lines) fills none = absurd fills
fills_none (s ∷ slots) [] fills none = absurd fills
fills_none (s ∷ slots) (line ∷ lines) fills none =
    let parts = or_parts (is_row s) (list_any is_row slots) none in
    or_from (is_row_line line) (list_any is_row_line lines) (not_row s line parts.0 (stands_as s fills.0.0 line fills.0.1)) (fills_none slots lines fills.1 parts.1)

-- THE SLOTS OF THE RESULTS

abbrev first_slots : Plan → List Slot
first_slots plan = each (race_results plan) 0 (length plan.races)

first_none : (plan : Plan) → None_of is_row (first_slots plan)
first_none plan =
    none-numbered is_row (race_results plan) 0 (length plan.races - 0) (λ race.
    none-append is_row (each (instance_flags plan race) 0 plan.instances) (race_places plan race ++ race_totals plan race)
    (none-numbered is_row (instance_flags plan race) 0 (plan.instances - 0) (λ instance.
    none-numbered is_row (due_flags plan race instance) 0 (lines_for (entries_of plan race) - 0) (λ k. refl)))
    (none-append is_row (race_places plan race) (race_totals plan race)
    (none-numbered is_row (due_places plan race) 0 (lines_for (entries_of plan race) - 0) (λ k. refl))
    (none-numbered is_row (due_totals race) 0 (candidates_of plan race - 0) (λ k. refl))))

rows_only : (plan : Plan) → None_of is_not_row (rows_due plan)
rows_only plan =
    none-numbered is_not_row (race_rows plan) 0 (length plan.races - 0) (λ race.
    none-numbered is_not_row (instance_rows plan race) 0 (plan.instances - 0) (λ instance.
    none-numbered is_not_row (row_opening race instance) 0 (entries_of plan race - 0) (λ row. refl)))

-- lines that fill slots part as these do
fills_split : (xs ys : List Slot) (lines : List Placed) → Fills (xs ++ ys) lines → (front : List Placed) × (behind : List Placed) × (lines ≡ front ++ behind) × Fills xs front × Fills ys behind
fills_split [] ys lines fills = ([], lines, refl, tt, fills)
fills_split (x ∷ xs) ys [] fills = absurd fills
fills_split (x ∷ xs) ys (line ∷ lines) fills =
    let more = fills_split xs ys lines fills.1 in
    (line ∷ more.0, more.1, ap (λ (l : List Placed). line ∷ l) more.2, (fills.0, more.3), more.4)

regroup_rows : (c d e f : List Placed) → (c ++ (d ++ e)) ++ f ≡ c ++ (d ++ (e ++ f))
regroup_rows [] d e f = append_assoc d e f
regroup_rows (x ∷ c) d e f = ap (λ (l : List Placed). x ∷ l) (regroup_rows c d e f)

regroup_first : (b c d e f : List Placed) → (b ++ (c ++ (d ++ e))) ++ f ≡ (b ++ c) ++ (d ++ (e ++ f))
regroup_first [] c d e f = regroup_rows c d e f
regroup_first (x ∷ b) c d e f = ap (λ (l : List Placed). x ∷ l) (regroup_first b c d e f)

regroup : (a b c d e f : List Placed) → a ++ ((b ++ (c ++ (d ++ e))) ++ f) ≡ (a ++ (b ++ c)) ++ (d ++ (e ++ f))
regroup [] b c d e f = regroup_first b c d e f
regroup (x ∷ a) b c d e f = ap (λ (l : List Placed). x ∷ l) (regroup a b c d e f)

in_parts : (lines before rest middle last first after draw later rows seal : List Placed) → lines ≡ before ++ rest → rest ≡ middle ++ last → middle ≡ first ++ after → after ≡ draw ++ later → later ≡ rows ++ seal
    → lines ≡ (before ++ (first ++ draw)) ++ (rows ++ (seal ++ last))
in_parts lines before rest middle last first after draw later rows seal a b c d e = rw (a, b, c, d, e) (regroup before first draw rows seal last)

all_filled : (filled left due : List Slot) → due ≡ filled ++ left → left ≡ [] → filled ≡ due
all_filled filled left due is none = sym (append-nil filled) ∙ (ap (λ (l : List Slot). filled ++ l) (sym none) ∙ sym is)

-- EACH ROW WITH ITS COIN

row_line : (race instance row : ℕ) (said : Said) (line : Placed) → place (slot.Row race instance row) said ≡ Some line → (opening : RowOpening) × (RowAt race instance row opening ≡ line)
row_line race instance row (Row opening) line e = (opening, same_Some (RowAt race instance row opening) line e)
row_line race instance row said line e = cc

module _ (lines : List Placed) (bars : Slot → Side → Bool)
    (free : (race instance row : ℕ) (opening : RowOpening) (coin : Side) → IsAmong lines (RowAt race instance row opening) → is_on_side coin opening ≡ true → bars (slot.Row race instance row) coin ≡ false) where
  one_row : (race instance row : ℕ) (slots : List Slot) (opening : RowOpening) (front behind : List Placed) (coins : List Side) → lines ≡ front ++ RowAt race instance row opening ∷ behind
      → ((rest : List Side) → are_on_coins behind rest ≡ true → Misses bars slots rest) → are_on_coins (RowAt race instance row opening ∷ behind) coins ≡ true → Misses bars (slot.Row race instance row ∷ slots) coins
  one_row race instance row slots opening front behind [] is later on = cc
  one_row race instance row slots opening front behind (coin ∷ coins) is later on =
      let parts = and_parts (is_on_side coin opening) (are_on_coins behind coins) on in
      let more = later coins parts.1 in
      record {
        long = omega (arith, more.long);
        free = or_from (bars (slot.Row race instance row) coin) (hits bars slots coins) (free race instance row opening coin (front, behind, is) parts.0) more.free;
      }

  on_rows : (slots : List Slot) (middle rest front : List Placed) (coins : List Side) → None_of is_not_row slots → Fills slots middle → lines ≡ front ++ (middle ++ rest) → None_of is_row_line rest
      → are_on_coins (middle ++ rest) coins ≡ true → Misses bars slots coins
  on_rows [] [] rest front coins rows fills is none on = record { long = ap (λ (l : List Side). length l) (no_coins rest coins none on); free = refl }
  on_rows [] (line ∷ middle) rest front coins rows fills is none on = absurd fills
  on_rows (s ∷ slots) [] rest front coins rows fills is none on = absurd fills
  on_rows (slot.Row race instance row ∷ slots) (line ∷ middle) rest front coins rows fills is none on =
      let there = row_line race instance row fills.0.0 line fills.0.1 in
      let next : lines ≡ (front ++ line ∷ []) ++ (middle ++ rest) = is ∙ sym (append_assoc front (line ∷ []) (middle ++ rest)) in
      one_row race instance row slots there.0 front (middle ++ rest) coins (subst (λ (x : Placed). lines ≡ front ++ x ∷ (middle ++ rest)) (sym there.1) is)
      (λ others over. on_rows slots middle rest (front ++ line ∷ []) others rows fills.1 next none over)
      (subst (λ (x : Placed). are_on_coins (x ∷ (middle ++ rest)) coins ≡ true) (sym there.1) on)
  on_rows (s ∷ slots) (line ∷ middle) rest front coins rows fills is none on = cc

-- WHERE EACH ROW IS OPENED ON BOTH SIDES, EACH COIN FITS

any_side : (coin : Side) (opening : RowOpening) → is_both opening ≡ true → is_on_side coin opening ≡ true
any_side coin (opened.Left o) e = cc
any_side coin (opened.Right o) e = cc
any_side side.Left (opened.Both l r) e = refl
any_side side.Right (opened.Both l r) e = refl

no_more : (xs : List Placed) → None_of is_row_line xs → are_on_coins xs [] ≡ true
no_more [] none = refl
no_more (RowAt race instance row opening ∷ xs) none = cc
no_more (x ∷ xs) none = no_more xs none

module _ (lines : List Placed) (both : (race instance row : ℕ) (opening : RowOpening) → IsAmong lines (RowAt race instance row opening) → is_both opening ≡ true) where
  both_rows : (slots : List Slot) (middle rest front : List Placed) (coins : List Side) → None_of is_not_row slots → Fills slots middle → lines ≡ front ++ (middle ++ rest) → None_of is_row_line rest
      → length coins ≡ length slots → are_on_coins (middle ++ rest) coins ≡ true
  both_rows [] [] rest front [] rows fills is none long = no_more rest none
  both_rows [] [] rest front (coin ∷ coins) rows fills is none long = absurd (omega (arith, long))
  both_rows [] (line ∷ middle) rest front coins rows fills is none long = absurd fills
  both_rows (s ∷ slots) [] rest front coins rows fills is none long = absurd fills
  both_rows (s ∷ slots) (line ∷ middle) rest front [] rows fills is none long = absurd (omega (arith, long))
  both_rows (slot.Row race instance row ∷ slots) (line ∷ middle) rest front (coin ∷ coins) rows fills is none long =
      let there = row_line race instance row fills.0.0 line fills.0.1 in
      let own : lines ≡ front ++ RowAt race instance row there.0 ∷ (middle ++ rest) = subst (λ (x : Placed). lines ≡ front ++ x ∷ (middle ++ rest)) (sym there.1) is in
      let next : lines ≡ (front ++ line ∷ []) ++ (middle ++ rest) = is ∙ sym (append_assoc front (line ∷ []) (middle ++ rest)) in
      subst (λ (x : Placed). are_on_coins (x ∷ (middle ++ rest)) (coin ∷ coins) ≡ true) there.1
      (and_from (is_on_side coin there.0) (are_on_coins (middle ++ rest) coins) (any_side coin there.0 (both race instance row there.0 (front, middle ++ rest, own)))
      (both_rows slots middle rest (front ++ line ∷ []) coins rows fills.1 next none (omega (arith, long))))
  both_rows (s ∷ slots) (line ∷ middle) rest front (coin ∷ coins) rows fills is none long = cc

-- THE ROWS OF A WHOLE RECORD

record RowsApart (plan : Plan) (lines : List Placed) : Type 0 where
  front : List Placed
  rows : List Placed
  behind : List Placed
  is : lines ≡ front ++ (rows ++ behind)
  fills : Fills (rows_due plan) rows
  none_front : None_of is_row_line front
  none_behind : None_of is_row_line behind

rows_apart : (lines : List Placed) (next : Next) → Parted lines next → is_whole next ≡ true → RowsApart next.plan lines
rows_apart lines next parted whole =
    let plan = next.plan in
    let e = parted.ends in
    let all = all_filled e.filled e.left (results plan) e.due_is (e.ended whole) in
    let fills = subst (λ (l : List Slot). Fills l e.middle) all e.fills in
    let first = fills_split (first_slots plan) (slot.Seal 2 ∷ slot.Draw ∷ (rows_due plan ++ slot.Seal 3 ∷ [])) e.middle fills in
    let draw = fills_split (slot.Seal 2 ∷ slot.Draw ∷ []) (rows_due plan ++ slot.Seal 3 ∷ []) first.1 first.4 in
    let rows = fills_split (rows_due plan) (slot.Seal 3 ∷ []) draw.1 draw.4 in
    record {
      front = parted.before ++ (first.0 ++ draw.0);
      rows = rows.0;
      behind = rows.1 ++ e.last;
      is = in_parts lines parted.before parted.rest e.middle e.last first.0 first.1 draw.0 draw.1 rows.0 rows.1 parted.lines_are e.lines_are first.2 draw.2 rows.2;
      fills = rows.3;
      none_front = none-append is_row_line parted.before (first.0 ++ draw.0) (free_none parted.before parted.free)
          (none-append is_row_line first.0 draw.0 (fills_none (first_slots plan) first.0 first.3 (first_none plan)) (fills_none (slot.Seal 2 ∷ slot.Draw ∷ []) draw.0 draw.3 refl));
      none_behind = none-append is_row_line rows.1 e.last (fills_none (slot.Seal 3 ∷ []) rows.1 rows.4 refl) (disputes_none e.last e.disputes);
    }

-- the coins of a whole record's rows miss what is barred of none
pub coins_miss : (lines : List Placed) (next : Next) (bars : Slot → Side → Bool) → Parted lines next → is_whole next ≡ true
    → ((race instance row : ℕ) (opening : RowOpening) (coin : Side) → IsAmong lines (RowAt race instance row opening) → is_on_side coin opening ≡ true → bars (slot.Row race instance row) coin ≡ false)
    → (coins : List Side) → are_on_coins lines coins ≡ true → Misses bars (rows_due next.plan) coins
coins_miss lines next bars parted whole free coins on =
    let parts = rows_apart lines next parted whole in
    on_rows lines bars free (rows_due next.plan) parts.rows parts.behind parts.front coins (rows_only next.plan) parts.fills parts.is parts.none_behind
    (behind_front lines parts.front (parts.rows ++ parts.behind) coins parts.is parts.none_front on)

-- and rows that are opened on both sides take all lists of as many coins
pub coins_fit : (lines : List Placed) (next : Next) → Parted lines next → is_whole next ≡ true → ((race instance row : ℕ) (opening : RowOpening) → IsAmong lines (RowAt race instance row opening) → is_both opening ≡ true)
    → (coins : List Side) → length coins ≡ length (rows_due next.plan) → are_on_coins lines coins ≡ true
coins_fit lines next parted whole both coins long =
    let parts = rows_apart lines next parted whole in
    ap (λ (l : List Placed). are_on_coins l coins) parts.is
    ∙ (skipped parts.front (parts.rows ++ parts.behind) coins parts.none_front
    ∙ both_rows lines both (rows_due next.plan) parts.rows parts.behind parts.front coins (rows_only next.plan) parts.fills parts.is parts.none_behind long)
