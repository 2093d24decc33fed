-- Lines that fill the places which are due, and which of them never stand behind another.
use Rattle.std.proofs.Common.{◌≡◌, ℕ, ◌+◌, ◌-◌, ◌*◌, ◌<◌, ◌==◌, nat_lt, Bool, true, false, ◌&&◌, ◌||◌, not, List, [], ◌∷◌, ◌++◌, length, Some, refl, subst, ap, ◌∙◌, arith}
use Rattle.std.proofs.lemmas.Bool.{and_left, and_parts, and_right, eq-eqb, eqb-true, le-ltb, ne_eqb, or_from, or_parts}
use Rattle.std.proofs.lemmas.Option.{same_Some}
use Rattle.std.specs.List.{list_any}
use Rattle.sg_plan.specs.Ballots.{candidates_of, entries_of}
use Rattle.sg_plan.specs.declared.plan.Plan.{Plan}
use Rattle.sg_forms.specs.Said.{Said}
use Rattle.sg_forms.specs.Said.Said.{Code, CodeCommit, DrawFull, DrawPublic, Flags, Paper, Places, Row, RowCommit, Seal, Total}
use Rattle.sg_grammar.proofs.Claims.{if_then-claim}
use Rattle.sg_grammar.specs.Due.{bits_on, each, due_flags, instance_flags, instance_rows, lines_for, due_places, race_places, race_results, race_rows, race_totals, results, row_opening, due_totals}
use Rattle.sg_grammar.specs.Placed.{Placed}
use Rattle.sg_grammar.specs.Placed.Placed.{CodeAt, CodeCommitAt, DrawnFull, DrawnPublic, FlagsAt, PaperAt, PlacesAt, RowAt, RowCommitAt, SealAt, TotalAt}
use Rattle.sg_grammar.specs.Walk.{place}
use Rattle.sg_grammar.specs.declared.state.Slot.{Slot}
use Rattle.sg_grammar.specs.declared.state.Slot.TheVariants as slot
use Rattle.sg_grammar.specs.Left.{is_total, is_total_line}
use Rattle.sg_grammar.specs.Lines.{is_cast}
use Rattle.sg_grammar.specs.Parting.{Apart, None_of, are_places, are_places_before, clash, is_before_rows, is_row_at}
use Rattle.sg_grammar.proofs.Lists.{apart-append, apart-by, apart-numbered, cross-by, none-append, none-left, none-numbered}

-- WHAT NEVER STANDS BEHIND WHAT, of lines that are due

abbrev pub is_slot_before_rows : Slot → Bool
is_slot_before_rows (slot.Code kind ballot race column) = is_cast kind
is_slot_before_rows (slot.Flags race instance line count) = true
is_slot_before_rows (slot.Places race line count) = true
is_slot_before_rows slot.Draw = true
is_slot_before_rows s = false

abbrev pub are_slot_places_before : ℕ → ℕ → Slot → Bool
are_slot_places_before race end (slot.Places of line count) = race == of && nat_lt (64 * line) end
are_slot_places_before race end s = false

abbrev pub are_slot_places : ℕ → Slot → Bool
are_slot_places race (slot.Places of line count) = race == of
are_slot_places race s = false

abbrev pub is_slot_row_at : ℕ → ℕ → ℕ → Slot → Bool
is_slot_row_at race instance row (slot.Row of within at) = (race == of && instance == within) && row == at
is_slot_row_at race instance row s = false

abbrev pub slot_clash : Slot → Slot → Bool
slot_clash (slot.Row race instance row) s = is_slot_before_rows s || is_slot_row_at race instance row s
slot_clash (slot.Total race candidate) s = are_slot_places race s
slot_clash (slot.Places race line count) s = are_slot_places_before race (64 * line + count) s
slot_clash slot.Draw s = is_slot_before_rows s || is_total s
slot_clash earlier s = false

-- CLASSES OF SLOTS

-- the slot bars some behind it
abbrev pub is_bar : Slot → Bool
is_bar (slot.Places race line count) = true
is_bar (slot.Total race candidate) = true
is_bar (slot.Row race instance row) = true
is_bar slot.Draw = true
is_bar s = false

abbrev is_places : Slot → Bool
is_places (slot.Places race line count) = true
is_places s = false

abbrev is_draw : Slot → Bool
is_draw slot.Draw = true
is_draw s = false

-- a row, or the draw
abbrev is_row : Slot → Bool
is_row (slot.Row race instance row) = true
is_row slot.Draw = true
is_row s = false

-- the slot is barred by some before it
abbrev is_barred : Slot → Bool
is_barred (slot.Row race instance row) = true
is_barred s = is_slot_before_rows s

-- a row of another race, or no row
abbrev is_not_in_race : ℕ → Slot → Bool
is_not_in_race race (slot.Row of within at) = not (of == race)
is_not_in_race race s = true

-- a row of another instance, or no row
abbrev is_not_in_instance : ℕ → Slot → Bool
is_not_in_instance instance (slot.Row of within at) = not (within == instance)
is_not_in_instance instance s = true

abbrev is_not_seal : Slot → Bool
is_not_seal (slot.Seal number) = false
is_not_seal s = true

-- a row, the draw, or places or a total of another race
abbrev is_other : ℕ → Slot → Bool
is_other race (slot.Places of line count) = not (of == race)
is_other race (slot.Total of candidate) = not (of == race)
is_other race (slot.Row of instance row) = true
is_other race slot.Draw = true
is_other race s = false

bars_none : (x y : Slot) → is_bar x ≡ false → slot_clash x y ≡ false
bars_none (slot.Places race line count) y e = cc
bars_none (slot.Total race candidate) y e = cc
bars_none (slot.Row race instance row) y e = cc
bars_none slot.Draw y e = cc
bars_none x y e = refl

unbarred_none : (x y : Slot) → is_draw x ≡ false → is_barred y ≡ false → slot_clash x y ≡ false
unbarred_none (slot.Row race instance row) (slot.Row of within at) d e = cc
unbarred_none (slot.Row race instance row) (slot.Code kind ballot of column) d e = or_from (is_cast kind) false e refl
unbarred_none (slot.Row race instance row) (slot.Flags of within line count) d e = cc
unbarred_none (slot.Row race instance row) (slot.Places of line count) d e = cc
unbarred_none (slot.Row race instance row) slot.Draw d e = cc
unbarred_none (slot.Row race instance row) (slot.CodeCommit of entry) d e = refl
unbarred_none (slot.Row race instance row) (slot.RowCommit of within at) d e = refl
unbarred_none (slot.Row race instance row) (slot.Seal number) d e = refl
unbarred_none (slot.Row race instance row) (slot.Paper ballot of count) d e = refl
unbarred_none (slot.Row race instance row) (slot.Total of candidate) d e = refl
unbarred_none (slot.Total race candidate) (slot.Places of line count) d e = cc
unbarred_none (slot.Total race candidate) y d e = refl
unbarred_none (slot.Places race at many) (slot.Places of line count) d e = cc
unbarred_none (slot.Places race at many) y d e = refl
unbarred_none slot.Draw y d e = cc
unbarred_none x y d e = refl

seal_unbarred : (x y : Slot) → is_not_seal y ≡ false → slot_clash x y ≡ false
seal_unbarred (slot.Row race instance row) (slot.Seal number) e = refl
seal_unbarred (slot.Total race candidate) (slot.Seal number) e = refl
seal_unbarred (slot.Places race at many) (slot.Seal number) e = refl
seal_unbarred slot.Draw (slot.Seal number) e = refl
seal_unbarred x (slot.Seal number) e = refl
seal_unbarred x y e = cc

no_places : (x y : Slot) → is_row x ≡ false → is_places y ≡ false → slot_clash x y ≡ false
no_places (slot.Row race instance row) y e d = cc
no_places slot.Draw y e d = cc
no_places (slot.Total race candidate) (slot.Places of line count) e d = cc
no_places (slot.Total race candidate) y e d = refl
no_places (slot.Places race at many) (slot.Places of line count) e d = cc
no_places (slot.Places race at many) y e d = refl
no_places x y e d = refl

same_race : (of race : ℕ) → not (of == race) ≡ false → of ≡ race
same_race of race e = eqb-true of race (undo (of == race) e)
  where
    undo : (b : Bool) → not b ≡ false → b ≡ true
    undo true d = refl
    undo false d = cc

apart_races : (k j of other : ℕ) → k < j → of ≡ k → other ≡ j → (of == other) ≡ false
apart_races k j of other less e d = ne_eqb of other (λ same. omega (arith, less, e, d, same))

other_races : (k j : ℕ) → k < j → (x y : Slot) → is_other k x ≡ false → is_other j y ≡ false → slot_clash x y ≡ false
other_races k j less (slot.Row race instance row) y e d = cc
other_races k j less slot.Draw y e d = cc
other_races k j less (slot.Total race candidate) (slot.Places of line count) e d = apart_races k j race of less (same_race race k e) (same_race of j d)
other_races k j less (slot.Total race candidate) y e d = refl
other_races k j less (slot.Places race at many) (slot.Places of line count) e d =
    and_left (race == of) (nat_lt (64 * line) (64 * at + many)) (apart_races k j race of less (same_race race k e) (same_race of j d))
other_races k j less (slot.Places race at many) y e d = refl
other_races k j less x y e d = refl

rows_of_races : (k j : ℕ) → k < j → (x y : Slot) → is_not_in_race k x ≡ false → is_not_in_race j y ≡ false → slot_clash x y ≡ false
rows_of_races k j less (slot.Row race instance row) (slot.Row of within at) e d =
    and_left (race == of && instance == within) (row == at) (and_left (race == of) (instance == within) (apart_races k j race of less (same_race race k e) (same_race of j d)))
rows_of_races k j less (slot.Row race instance row) y e d = cc
rows_of_races k j less slot.Draw y e d = cc
rows_of_races k j less x y e d = cc

rows_of_instances : (k j : ℕ) → k < j → (x y : Slot) → is_not_in_instance k x ≡ false → is_not_in_instance j y ≡ false → slot_clash x y ≡ false
rows_of_instances k j less (slot.Row race instance row) (slot.Row of within at) e d =
    and_left (race == of && instance == within) (row == at) (and_right (race == of) (instance == within) (apart_races k j instance within less (same_race instance k e) (same_race within j d)))
rows_of_instances k j less (slot.Row race instance row) y e d = cc
rows_of_instances k j less slot.Draw y e d = cc
rows_of_instances k j less x y e d = cc

-- THE RESULTS

nothing : (xs : List Slot) → None_of (λ s. false) xs
nothing [] = refl
nothing (x ∷ xs) = nothing xs

module _ (plan : Plan) where
  places_apart : (race : ℕ) → Apart slot_clash (race_places plan race)
  places_apart race =
      apart-numbered slot_clash (due_places plan race) 0 (lines_for (entries_of plan race) - 0) (λ k. (refl, tt)) (λ k j less. (later k j less, tt))
    where
      later : (k j : ℕ) → k < j → None_of (slot_clash (slot.Places race k (bits_on (entries_of plan race) k))) (due_places plan race j)
      later k j less =
          or_from _ false (and_right (race == race) (nat_lt (64 * j) (64 * k + bits_on (entries_of plan race) k)) (le-ltb (64 * j) (64 * k + bits_on (entries_of plan race) k) (omega (arith, less)))) refl

  flags_bar_none : (race : ℕ) → None_of is_bar (each (instance_flags plan race) 0 plan.instances)
  flags_bar_none race =
      none-numbered is_bar (instance_flags plan race) 0 (plan.instances - 0) (λ instance.
      none-numbered is_bar (due_flags plan race instance) 0 (lines_for (entries_of plan race) - 0) (λ k. refl))

  totals_unbarred : (race : ℕ) → None_of is_barred (race_totals plan race)
  totals_unbarred race = none-numbered is_barred (due_totals race) 0 (candidates_of plan race - 0) (λ k. refl)

  race_apart : (race : ℕ) → Apart slot_clash (race_results plan race)
  race_apart race =
      let flags = each (instance_flags plan race) 0 plan.instances in
      let rest = race_places plan race ++ race_totals plan race in
      apart-append slot_clash flags rest
      (apart-by slot_clash is_bar (λ s. false) flags (λ x y e d. bars_none x y e) (flags_bar_none race) (nothing flags))
      (apart-append slot_clash (race_places plan race) (race_totals plan race) (places_apart race)
      (apart-by slot_clash is_draw is_barred (race_totals plan race) unbarred_none (none-numbered is_draw (due_totals race) 0 (candidates_of plan race - 0) (λ k. refl)) (totals_unbarred race))
      (cross-by slot_clash is_draw is_barred (race_places plan race) (race_totals plan race) unbarred_none (none-numbered is_draw (due_places plan race) 0 (lines_for (entries_of plan race) - 0) (λ k. refl)) (totals_unbarred race)))
      (cross-by slot_clash is_bar (λ s. false) flags rest (λ x y e d. bars_none x y e) (flags_bar_none race) (nothing rest))

  race_own : (race : ℕ) → None_of (is_other race) (race_results plan race)
  race_own race =
      none-append (is_other race) (each (instance_flags plan race) 0 plan.instances) (race_places plan race ++ race_totals plan race)
      (none-numbered (is_other race) (instance_flags plan race) 0 (plan.instances - 0) (λ instance.
      none-numbered (is_other race) (due_flags plan race instance) 0 (lines_for (entries_of plan race) - 0) (λ k. refl)))
      (none-append (is_other race) (race_places plan race) (race_totals plan race)
      (none-numbered (is_other race) (due_places plan race) 0 (lines_for (entries_of plan race) - 0) (λ k. or_from _ false own refl))
      (none-numbered (is_other race) (due_totals race) 0 (candidates_of plan race - 0) (λ k. or_from _ false own refl)))
    where
      own : not (race == race) ≡ false
      own = ap (λ (b : Bool). not b) (eq-eqb race race refl)

  races_without_rows : None_of is_row (each (race_results plan) 0 (length plan.races))
  races_without_rows =
      none-numbered is_row (race_results plan) 0 (length plan.races - 0) (λ race.
      none-append is_row (each (instance_flags plan race) 0 plan.instances) (race_places plan race ++ race_totals plan race)
      (none-numbered is_row (instance_flags plan race) 0 (plan.instances - 0) (λ instance.
      none-numbered is_row (due_flags plan race instance) 0 (lines_for (entries_of plan race) - 0) (λ k. refl)))
      (none-append is_row (race_places plan race) (race_totals plan race)
      (none-numbered is_row (due_places plan race) 0 (lines_for (entries_of plan race) - 0) (λ k. refl))
      (none-numbered is_row (due_totals race) 0 (candidates_of plan race - 0) (λ k. refl))))

  -- the rows and the seal behind them
  abbrev last_lines : List Slot
  last_lines = each (race_rows plan) 0 (length plan.races) ++ slot.Seal 3 ∷ []

  rows_none : (p : Slot → Bool) → ((race instance row : ℕ) → p (slot.Row race instance row) ≡ false) → p (slot.Seal 3) ≡ false → None_of p last_lines
  rows_none p fails seal =
      none-append p (each (race_rows plan) 0 (length plan.races)) (slot.Seal 3 ∷ [])
      (none-numbered p (race_rows plan) 0 (length plan.races - 0) (λ race.
      none-numbered p (instance_rows plan race) 0 (plan.instances - 0) (λ instance.
      none-numbered p (row_opening race instance) 0 (entries_of plan race - 0) (λ row. or_from _ false (fails race instance row) refl))))
      (or_from _ false seal refl)

  rows_apart : Apart slot_clash (each (race_rows plan) 0 (length plan.races))
  rows_apart =
      apart-numbered slot_clash (race_rows plan) 0 (length plan.races - 0)
      (λ race. apart-numbered slot_clash (instance_rows plan race) 0 (plan.instances - 0)
      (λ instance. apart-numbered slot_clash (row_opening race instance) 0 (entries_of plan race - 0) (λ row. (refl, tt)) (λ k j less. (or_from _ false (differ race instance k j less) refl, tt)))
      (λ k j less. cross-by slot_clash (is_not_in_instance k) (is_not_in_instance j) (instance_rows plan race k) (instance_rows plan race j) (rows_of_instances k j less) (in_instance race k) (in_instance race j)))
      (λ k j less. cross-by slot_clash (is_not_in_race k) (is_not_in_race j) (race_rows plan k) (race_rows plan j) (rows_of_races k j less) (in_race k) (in_race j))
    where
      own : (k : ℕ) → not (k == k) ≡ false
      own k = ap (λ (b : Bool). not b) (eq-eqb k k refl)

      in_instance : (race k : ℕ) → None_of (is_not_in_instance k) (instance_rows plan race k)
      in_instance race k = none-numbered (is_not_in_instance k) (row_opening race k) 0 (entries_of plan race - 0) (λ row. or_from _ false (own k) refl)

      in_race : (k : ℕ) → None_of (is_not_in_race k) (race_rows plan k)
      in_race k = none-numbered (is_not_in_race k) (instance_rows plan k) 0 (plan.instances - 0) (λ instance. none-numbered (is_not_in_race k) (row_opening k instance) 0 (entries_of plan k - 0) (λ row. or_from _ false (own k) refl))

      differ : (race instance k j : ℕ) → k < j → ((race == race && instance == instance) && k == j) ≡ false
      differ race instance k j less = and_right (race == race && instance == instance) (k == j) (ne_eqb k j (λ same. omega (arith, less, same)))

  last_apart : Apart slot_clash last_lines
  last_apart =
      apart-append slot_clash (each (race_rows plan) 0 (length plan.races)) (slot.Seal 3 ∷ []) rows_apart (refl, tt)
      (cross-by slot_clash (λ s. false) is_not_seal (each (race_rows plan) 0 (length plan.races)) (slot.Seal 3 ∷ []) (λ x y e d. seal_unbarred x y d) (nothing (each (race_rows plan) 0 (length plan.races))) refl)

  pub results_apart : Apart slot_clash (results plan)
  results_apart =
      let races = each (race_results plan) 0 (length plan.races) in
      let behind = slot.Seal 2 ∷ slot.Draw ∷ last_lines in
      apart-append slot_clash races behind
      (apart-numbered slot_clash (race_results plan) 0 (length plan.races - 0) race_apart (λ k j less.
      cross-by slot_clash (is_other k) (is_other j) (race_results plan k) (race_results plan j) (other_races k j less) (race_own k) (race_own j)))
      (nothing (slot.Draw ∷ last_lines), (rows_none (slot_clash slot.Draw) (λ race instance row. refl) refl, last_apart))
      (cross-by slot_clash is_row is_places races behind no_places races_without_rows (rows_none is_places (λ race instance row. refl) refl))

-- LINES THAT FILL SLOTS

-- the line stands in the slot
abbrev pub FillsSlot : Slot → Placed → Type 0
FillsSlot s line = (said : Said) × (place s said ≡ Some line)

-- each line stands in its slot
abbrev pub Fills : List Slot → List Placed → Type 0
Fills [] [] = Unit {0}
Fills [] (line ∷ lines) = ⊥
Fills (s ∷ slots) [] = ⊥
Fills (s ∷ slots) (line ∷ lines) = FillsSlot s line × Fills slots lines

-- what a line in a slot bars behind it
abbrev pub slot_bars : Slot → Placed → Bool
slot_bars (slot.Row race instance row) line = is_before_rows line || is_row_at race instance row line
slot_bars (slot.Total race candidate) line = are_places race line
slot_bars (slot.Places race line count) later = are_places_before race (64 * line + count) later
slot_bars slot.Draw line = is_before_rows line || is_total_line line
slot_bars s line = false

abbrev pub BarsAs : Slot → Placed → Type 0
BarsAs s line = (later : Placed) → clash line later ≡ slot_bars s later

-- and by what it is barred
abbrev pub IsBarredAs : Slot → Placed → Type 0
IsBarredAs s line =
    (is_before_rows line ≡ is_slot_before_rows s) × ((race : ℕ) → are_places race line ≡ are_slot_places race s)
    × ((race end : ℕ) → are_places_before race end line ≡ are_slot_places_before race end s)
    × ((race instance row : ℕ) → is_row_at race instance row line ≡ is_slot_row_at race instance row s) × (is_total_line line ≡ is_total s)

abbrev pub StandsAs : Slot → Placed → Type 0
StandsAs s line = BarsAs s line × IsBarredAs s line

pub stands_as : (s : Slot) (said : Said) (line : Placed) → place s said ≡ Some line → StandsAs s line
stands_as (slot.CodeCommit race entry) (CodeCommit named digest) line e =
    if_then-claim (StandsAs (slot.CodeCommit race entry)) (named == race) (CodeCommitAt race entry digest) line (λ ok. ((λ later. refl), (refl, (λ r. refl), (λ r end. refl), (λ r i x. refl), refl))) e
stands_as (slot.CodeCommit race entry) said line e = cc
stands_as (slot.RowCommit race instance row) (RowCommit named of left right) line e =
    if_then-claim (StandsAs (slot.RowCommit race instance row)) (named == race && of == instance) (RowCommitAt race instance row left right) line (λ ok. ((λ later. refl), (refl, (λ r. refl), (λ r end. refl), (λ r i x. refl), refl))) e
stands_as (slot.RowCommit race instance row) said line e = cc
stands_as (slot.Seal number) (Seal named digest) line e =
    if_then-claim (StandsAs (slot.Seal number)) (named == number) (SealAt number digest) line (λ ok. ((λ later. refl), (refl, (λ r. refl), (λ r end. refl), (λ r i x. refl), refl))) e
stands_as (slot.Seal number) said line e = cc
stands_as (slot.Paper ballot race count) (Paper named list) line e =
    if_then-claim (StandsAs (slot.Paper ballot race count)) (named == race && length list == count) (PaperAt ballot race list) line (λ ok. ((λ later. refl), (refl, (λ r. refl), (λ r end. refl), (λ r i x. refl), refl))) e
stands_as (slot.Paper ballot race count) said line e = cc
stands_as (slot.Code kind ballot race column) (Code code) line e =
    if_then-claim (StandsAs (slot.Code kind ballot race column)) (code.race == race && code.column == column) (CodeAt kind ballot race column code) line (λ ok. ((λ later. refl), (refl, (λ r. refl), (λ r end. refl), (λ r i x. refl), refl))) e
stands_as (slot.Code kind ballot race column) said line e = cc
stands_as (slot.Flags race instance number count) (Flags named of bits) line e =
    if_then-claim (StandsAs (slot.Flags race instance number count)) ((named == race && of == instance) && length bits == count) (FlagsAt race instance (64 * number) bits) line
    (λ ok. ((λ later. refl), (refl, (λ r. refl), (λ r end. refl), (λ r i x. refl), refl))) e
stands_as (slot.Flags race instance number count) said line e = cc
stands_as (slot.Places race number count) (Places named bits) line e =
    if_then-claim (StandsAs (slot.Places race number count)) (named == race && length bits == count) (PlacesAt race (64 * number) bits) line
    (λ ok. let long = eqb-true (length bits) count (and_parts (named == race) (length bits == count) ok).1 in
    ((λ later. ap (λ (many : ℕ). are_places_before race (64 * number + many) later) long), (refl, (λ r. refl), (λ r end. refl), (λ r i x. refl), refl))) e
stands_as (slot.Places race number count) said line e = cc
stands_as (slot.Total race candidate) (Total named of count) line e =
    if_then-claim (StandsAs (slot.Total race candidate)) (named == race && of == candidate) (TotalAt race candidate count) line (λ ok. ((λ later. refl), (refl, (λ r. refl), (λ r end. refl), (λ r i x. refl), refl))) e
stands_as (slot.Total race candidate) said line e = cc
stands_as slot.Draw DrawFull line e = subst (StandsAs slot.Draw) (same_Some DrawnFull line e) ((λ later. refl), (refl, (λ r. refl), (λ r end. refl), (λ r i x. refl), refl))
stands_as slot.Draw (DrawPublic digits) line e = subst (StandsAs slot.Draw) (same_Some (DrawnPublic digits) line e) ((λ later. refl), (refl, (λ r. refl), (λ r end. refl), (λ r i x. refl), refl))
stands_as slot.Draw said line e = cc
stands_as (slot.Row race instance row) (Row opening) line e =
    subst (StandsAs (slot.Row race instance row)) (same_Some (RowAt race instance row opening) line e) ((λ later. refl), (refl, (λ r. refl), (λ r end. refl), (λ r i x. refl), refl))
stands_as (slot.Row race instance row) said line e = cc

-- lines clash where their slots do
bars_slot : (s t : Slot) (line : Placed) → IsBarredAs t line → slot_bars s line ≡ slot_clash s t
bars_slot (slot.Row race instance row) t line barred = rw (barred.0, barred.3 race instance row) refl
bars_slot (slot.Total race candidate) t line barred = barred.1 race
bars_slot (slot.Places race number count) t line barred = barred.2 race (64 * number + count)
bars_slot slot.Draw t line barred = rw (barred.0, barred.4) refl
bars_slot s t line barred = refl

none_behind : (s : Slot) (line : Placed) (slots : List Slot) (lines : List Placed) → BarsAs s line → Fills slots lines → None_of (slot_clash s) slots → None_of (clash line) lines
none_behind s line [] [] bars fills none = refl
none_behind s line [] (later ∷ lines) bars fills none = absurd fills
none_behind s line (t ∷ slots) [] bars fills none = absurd fills
none_behind s line (t ∷ slots) (later ∷ lines) bars fills none =
    let parts = or_parts (slot_clash s t) (list_any (slot_clash s) slots) none in
    let barred = (stands_as t fills.0.0 later fills.0.1).1 in
    or_from (clash line later) (list_any (clash line) lines) (bars later ∙ (bars_slot s t later barred ∙ parts.0)) (none_behind s line slots lines bars fills.1 parts.1)

pub fills_apart : (slots : List Slot) (lines : List Placed) → Fills slots lines → Apart slot_clash slots → Apart clash lines
fills_apart [] [] fills apart = tt
fills_apart [] (line ∷ lines) fills apart = absurd fills
fills_apart (s ∷ slots) [] fills apart = absurd fills
fills_apart (s ∷ slots) (line ∷ lines) fills apart =
    (none_behind s line slots lines (stands_as s fills.0.0 line fills.0.1).0 fills.1 apart.0, fills_apart slots lines fills.1 apart.1)

-- the first of the results that are apart
pub apart_left : (xs ys : List Slot) → Apart slot_clash (xs ++ ys) → Apart slot_clash xs
apart_left [] ys apart = tt
apart_left (x ∷ xs) ys apart = (none-left (slot_clash x) xs ys apart.0, apart_left xs ys apart.1)

-- each slot has a line
pub filled_at : (front rest : List Slot) (s : Slot) (lines : List Placed) → Fills (front ++ s ∷ rest) lines
    → (before : List Placed) × (behind : List Placed) × (line : Placed) × (lines ≡ before ++ line ∷ behind) × FillsSlot s line
filled_at [] rest s [] fills = absurd fills
filled_at [] rest s (line ∷ lines) fills = ([], lines, line, refl, fills.0)
filled_at (t ∷ front) rest s [] fills = absurd fills
filled_at (t ∷ front) rest s (line ∷ lines) fills =
    let found = filled_at front rest s lines fills.1 in
    (line ∷ found.0, found.1, found.2, ap (λ (l : List Placed). line ∷ l) found.3, found.4)
