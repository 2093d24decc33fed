-- Lines that fill the lines that are due, one by one.
use Rattle.std.proofs.Common.{◌≡◌, ℕ, zero, suc, ◌+◌, Bool, true, List, [], ◌∷◌, ◌++◌, Some, refl, sym, ap, ◌∙◌}
use Rattle.std.specs.Option.{is_some}
use Rattle.sg_forms.specs.Said.{Said}
use Rattle.sg_forms.specs.Spelling.{IsInRange}
use Rattle.sg_grammar.proofs.Claims.{is_some-if_then}
use Rattle.sg_grammar.specs.Due.{numbered}
use Rattle.sg_grammar.specs.Head.{if_then}
use Rattle.sg_grammar.specs.Placed.{Placed}
use Rattle.sg_grammar.specs.Walk.{place}
use Rattle.sg_grammar.specs.declared.state.Slot.{Slot}
use Rattle.sg_record.specs.Tree.{indexed}

-- the line may stand in the slot
abbrev pub fits : Slot → Said → Bool
fits slot said = is_some (place slot said)

-- each line stands in its slot, and no slot is left
abbrev pub Fills : List Slot → List Said → Type 0
Fills [] [] = Unit {0}
Fills [] (said ∷ lines) = ⊥
Fills (slot ∷ due) [] = ⊥
Fills (slot ∷ due) (said ∷ lines) = (fits slot said ≡ true) × Fills due lines

-- each line stands in its slot, in this place
abbrev pub FillsAs : List Slot → List Said → List Placed → Type 0
FillsAs [] [] [] = Unit {0}
FillsAs [] [] (placed ∷ places) = ⊥
FillsAs [] (said ∷ lines) places = ⊥
FillsAs (slot ∷ due) [] places = ⊥
FillsAs (slot ∷ due) (said ∷ lines) [] = ⊥
FillsAs (slot ∷ due) (said ∷ lines) (placed ∷ places) = (place slot said ≡ Some placed) × FillsAs due lines places

pub as-append : (due more : List Slot) (lines behind_them : List Said) (places others : List Placed)
    → FillsAs due lines places → FillsAs more behind_them others → FillsAs (due ++ more) (lines ++ behind_them) (places ++ others)
as-append [] more [] bs [] os here there = there
as-append [] more [] bs (p ∷ ps) os here there = absurd here
as-append [] more (s ∷ ls) bs ps os here there = absurd here
as-append (d ∷ due) more [] bs ps os here there = absurd here
as-append (d ∷ due) more (s ∷ ls) bs [] os here there = absurd here
as-append (d ∷ due) more (s ∷ ls) bs (p ∷ ps) os here there = (here.0, as-append due more ls bs ps os here.1 there)

-- without the places
pub as-fills : (due : List Slot) (lines : List Said) (places : List Placed) → FillsAs due lines places → Fills due lines
as-fills [] [] [] fills = tt
as-fills [] [] (p ∷ ps) fills = absurd fills
as-fills [] (s ∷ ls) ps fills = absurd fills
as-fills (d ∷ due) [] ps fills = absurd fills
as-fills (d ∷ due) (s ∷ ls) [] fills = absurd fills
as-fills (d ∷ due) (s ∷ ls) (p ∷ ps) fills = (ap is_some fills.0, as-fills due ls ps fills.1)

-- the words of each line are of their kinds
abbrev pub AreIn : ℕ → List Said → Type 0
AreIn version [] = Unit {0}
AreIn version (said ∷ lines) = IsInRange version said × AreIn version lines

pub AreIn-append : (version : ℕ) (front back : List Said) → AreIn version front → AreIn version back → AreIn version (front ++ back)
AreIn-append version [] back here behind = behind
AreIn-append version (said ∷ front) back here behind = (here.0, AreIn-append version front back here.1 behind)

pub AreIn-parts : (version : ℕ) (front back : List Said) → AreIn version (front ++ back) → AreIn version front × AreIn version back
AreIn-parts version [] back all = (tt, all)
AreIn-parts version (said ∷ front) back all =
    let rest = AreIn-parts version front back all.1 in
    ((all.0, rest.0), rest.1)

-- what fills two lists of slots, in two parts
pub record Parts (due more : List Slot) (lines : List Said) : Type 0 where
  pub front : List Said
  pub back : List Said
  pub is : lines ≡ front ++ back
  pub here : Fills due front
  pub behind : Fills more back

pub Fills-parts : (due more : List Slot) (lines : List Said) → Fills (due ++ more) lines → Parts due more lines
Fills-parts [] more lines fills = record { front = []; back = lines; is = refl; here = tt; behind = fills }
Fills-parts (slot ∷ due) more [] fills = absurd fills
Fills-parts (slot ∷ due) more (said ∷ lines) fills =
    let rest = Fills-parts due more lines fills.1 in
    record { front = said ∷ rest.front; back = rest.back; is = ap (λ l. said ∷ l) rest.is; here = (fills.0, rest.here); behind = rest.behind }

-- lines in two parts, with each part in another form
pub parts-are : (lines front back g h : List Said) → lines ≡ front ++ back → front ≡ g → back ≡ h → lines ≡ g ++ h
parts-are lines front back g h is first second = is ∙ (ap (λ l. l ++ back) first ∙ ap (λ l. g ++ l) second)

-- the same behind a line
pub behind-are : (first : Said) (lines front back g : List Said) → lines ≡ front ++ back → front ≡ g → first ∷ lines ≡ (first ∷ g) ++ back
behind-are first lines front back g is same = ap (λ l. first ∷ l) (is ∙ ap (λ l. l ++ back) same)

-- lines that fill the same slots are as long, so what follows them is told apart
pub Fills-same : (due : List Slot) (a b c d : List Said) → Fills due a → Fills due b → a ++ c ≡ b ++ d → (a ≡ b) × (c ≡ d)
Fills-same [] [] [] c d f g e = (refl, e)
Fills-same [] (x ∷ a) b c d f g e = absurd f
Fills-same [] [] (y ∷ b) c d f g e = absurd g
Fills-same (slot ∷ due) [] b c d f g e = absurd f
Fills-same (slot ∷ due) (x ∷ a) [] c d f g e = absurd g
Fills-same (slot ∷ due) (x ∷ a) (y ∷ b) c d f g e =
    let first : x ≡ y = cc in
    let others : a ++ c ≡ b ++ d = cc in
    let rest = Fills-same due a b c d f.1 g.1 others in
    (ap (λ s. s ∷ a) first ∙ ap (λ l. y ∷ l) rest.0, rest.1)

-- VALUES WHOSE LINES FILL SLOTS

-- the lines of a value that passes
pub record Found {A : Type 0} (P : A → Type 0) (g : A → List Said) (lines : List Said) : Type 0 where
  pub item : A
  pub passes : P item
  pub is : lines ≡ g item

-- the values that pass and the lines that fill the slots are one to one
pub record Spells {A : Type 0} (version : ℕ) (P : A → Type 0) (g : A → List Said) (h : A → List Placed) (due : List Slot) : Type 0 where
  -- the lines of a value that passes fill the slots, in these places
  pub out : (x : A) → P x → FillsAs due (g x) (h x)
  -- lines that fill the slots are those of such a value
  pub back : (lines : List Said) → Fills due lines → AreIn version lines → Found P g lines
  -- and of one
  pub one : (x y : A) → P x → P y → g x ≡ g y → x ≡ y

-- without the places
pub filled : {A : Type 0} {version : ℕ} {P : A → Type 0} {g : A → List Said} {h : A → List Placed} {due : List Slot} → Spells version P g h due → (x : A) → P x → Fills due (g x)
filled {A} {version} {P} {g} {h} {due} spells x passes = as-fills due (g x) (h x) (spells.out x passes)

-- two values, one after another
pub spells-pair : {A B : Type 0} (version : ℕ) (P : A → Type 0) (Q : B → Type 0) (g : A → List Said) (h : B → List Said) (u : A → List Placed) (v : B → List Placed) (due more : List Slot)
    → Spells version P g u due → Spells version Q h v more
    → Spells version (λ (p : A × B). P p.0 × Q p.1) (λ (p : A × B). g p.0 ++ h p.1) (λ (p : A × B). u p.0 ++ v p.1) (due ++ more)
spells-pair {A} {B} version P Q g h u v due more first second = record {
  out = λ p passes. as-append due more (g p.0) (h p.1) (u p.0) (v p.1) (first.out p.0 passes.0) (second.out p.1 passes.1);
  back = λ lines fills all.
      let parts = Fills-parts due more lines fills in
      let kept = AreIn-parts version parts.front parts.back (rw (← parts.is) all) in
      let one = first.back parts.front parts.here kept.0 in
      let other = second.back parts.back parts.behind kept.1 in
      record {
        item = (one.item, other.item);
        passes = (one.passes, other.passes);
        is = parts.is ∙ (ap (λ l. l ++ parts.back) one.is ∙ ap (λ l. g one.item ++ l) other.is);
      };
  one = λ p q passes other same.
      let parts = Fills-same due (g p.0) (g q.0) (h p.1) (h q.1) (filled first p.0 passes.0) (filled first q.0 other.0) same in
      let left : p.0 ≡ q.0 = first.one p.0 q.0 passes.0 other.0 parts.0 in
      let right : p.1 ≡ q.1 = second.one p.1 q.1 passes.1 other.1 parts.1 in
      ap (λ x. (x, p.1)) left ∙ ap (λ y. (q.0, y)) right;
}

-- EACH ITEM OF A LIST

-- so many items, each of which passes with its number, from `at` on
abbrev pub Each : {A : Type 0} → (ℕ → A → Type 0) → ℕ → ℕ → List A → Type 0
Each P at zero [] = Unit {0}
Each P at zero (x ∷ xs) = ⊥
Each P at (suc count) [] = ⊥
Each P at (suc count) (x ∷ xs) = P at x × Each P (at + 1) count xs

each-out : {A : Type 0} (version : ℕ) (P : ℕ → A → Type 0) (g : ℕ → A → List Said) (h : ℕ → A → List Placed) (f : ℕ → List Slot) → ((k : ℕ) → Spells version (P k) (g k) (h k) (f k))
    → (at count : ℕ) (xs : List A) → Each P at count xs → FillsAs (numbered f at count) (indexed g at xs) (indexed h at xs)
unfolding numbered indexed
each-out version P g h f spells at zero [] passes = tt
each-out version P g h f spells at zero (x ∷ xs) passes = absurd passes
each-out version P g h f spells at (suc count) [] passes = absurd passes
each-out version P g h f spells at (suc count) (x ∷ xs) passes =
    as-append (f at) (numbered f (at + 1) count) (g at x) (indexed g (at + 1) xs) (h at x) (indexed h (at + 1) xs) ((spells at).out x passes.0) (each-out version P g h f spells (at + 1) count xs passes.1)

each-back : {A : Type 0} (version : ℕ) (P : ℕ → A → Type 0) (g : ℕ → A → List Said) (h : ℕ → A → List Placed) (f : ℕ → List Slot) → ((k : ℕ) → Spells version (P k) (g k) (h k) (f k))
    → (at count : ℕ) (lines : List Said) → Fills (numbered f at count) lines → AreIn version lines → Found (Each P at count) (indexed g at) lines
unfolding numbered indexed
each-back version P g h f spells at zero [] fills all = record { item = []; passes = tt; is = refl }
each-back version P g h f spells at zero (said ∷ lines) fills all = absurd fills
each-back version P g h f spells at (suc count) lines fills all =
    let parts = Fills-parts (f at) (numbered f (at + 1) count) lines fills in
    let kept = AreIn-parts version parts.front parts.back (rw (← parts.is) all) in
    let first = (spells at).back parts.front parts.here kept.0 in
    let rest = each-back version P g h f spells (at + 1) count parts.back parts.behind kept.1 in
    record {
      item = first.item ∷ rest.item;
      passes = (first.passes, rest.passes);
      is = parts.is ∙ (ap (λ l. l ++ parts.back) first.is ∙ ap (λ l. g at first.item ++ l) rest.is);
    }

each-one : {A : Type 0} (version : ℕ) (P : ℕ → A → Type 0) (g : ℕ → A → List Said) (h : ℕ → A → List Placed) (f : ℕ → List Slot) → ((k : ℕ) → Spells version (P k) (g k) (h k) (f k))
    → (at count : ℕ) (xs ys : List A) → Each P at count xs → Each P at count ys → indexed g at xs ≡ indexed g at ys → xs ≡ ys
unfolding numbered indexed
each-one version P g h f spells at zero [] [] p q e = refl
each-one version P g h f spells at zero (x ∷ xs) ys p q e = absurd p
each-one version P g h f spells at zero [] (y ∷ ys) p q e = absurd q
each-one version P g h f spells at (suc count) [] ys p q e = absurd p
each-one version P g h f spells at (suc count) (x ∷ xs) [] p q e = absurd q
each-one version P g h f spells at (suc count) (x ∷ xs) (y ∷ ys) p q e =
    let parts = Fills-same (f at) (g at x) (g at y) (indexed g (at + 1) xs) (indexed g (at + 1) ys) (filled (spells at) x p.0) (filled (spells at) y q.0) e in
    let first : x ≡ y = (spells at).one x y p.0 q.0 parts.0 in
    let rest : xs ≡ ys = each-one version P g h f spells (at + 1) count xs ys p.1 q.1 parts.1 in
    ap (λ z. z ∷ xs) first ∙ ap (λ l. y ∷ l) rest

-- for any depth of nesting
pub spells-each : {A : Type 0} (version : ℕ) (P : ℕ → A → Type 0) (g : ℕ → A → List Said) (h : ℕ → A → List Placed) (f : ℕ → List Slot) → ((k : ℕ) → Spells version (P k) (g k) (h k) (f k))
    → (at count : ℕ) → Spells version (Each P at count) (indexed g at) (indexed h at) (numbered f at count)
spells-each version P g h f spells at count = record {
  out = each-out version P g h f spells at count;
  back = each-back version P g h f spells at count;
  one = each-one version P g h f spells at count;
}

-- ONE SLOT

-- what is behind a test was passed
pub passed : {A : Type 0} (test : Bool) (value : A) → is_some (if_then test value) ≡ true → test ≡ true
passed test value there = sym (is_some-if_then test value) ∙ there

-- a line for a value, and the value of each line that may stand in the slot
pub spells-line : {A : Type 0} (version : ℕ) (P : A → Type 0) (line : A → Said) (spot : A → Placed) (slot : Slot)
    → ((x : A) → P x → place slot (line x) ≡ Some (spot x))
    → ((said : Said) → fits slot said ≡ true → IsInRange version said → (x : A) × P x × (said ≡ line x))
    → ((x y : A) → P x → P y → line x ≡ line y → x ≡ y)
    → Spells version P (λ (x : A). line x ∷ []) (λ (x : A). spot x ∷ []) (slot ∷ [])
spells-line {A} version P line spot slot into from one_of = record {
  out = λ x passes. (into x passes, tt);
  back = of_lines;
  one = λ x y p q same. one_of x y p q (let first : line x ≡ line y = cc in first);
}
  where
    of_lines : (lines : List Said) → Fills (slot ∷ []) lines → AreIn version lines → Found P (λ (x : A). line x ∷ []) lines
    of_lines [] fills all = absurd fills
    of_lines (said ∷ []) fills all = let found = from said fills.0 all.0 in record { item = found.0; passes = found.1; is = ap (λ s. s ∷ []) found.2 }
    of_lines (said ∷ next ∷ lines) fills all = absurd fills.1

-- ANOTHER FORM OF THE VALUES OR OF THEIR LINES

-- values that stand for those that are spelled, one for each
pub spells-change : {A B : Type 0} (version : ℕ) (P : A → Type 0) (Q : B → Type 0) (g : A → List Said) (h : A → List Placed) (due : List Slot) (to : B → A)
    → ((y : B) → Q y → P (to y)) → ((x : A) → P x → (y : B) × Q y × (to y ≡ x)) → ((y z : B) → Q y → Q z → to y ≡ to z → y ≡ z)
    → Spells version P g h due → Spells version Q (λ (y : B). g (to y)) (λ (y : B). h (to y)) due
spells-change version P Q g h due to into from one_of spells = record {
  out = λ y passes. spells.out (to y) (into y passes);
  back = λ lines fills all.
      let found = spells.back lines fills all in
      let other = from found.item found.passes in
      record { item = other.0; passes = other.1; is = found.is ∙ ap g (sym other.2) };
  one = λ y z p q same. one_of y z p q (spells.one (to y) (to z) (into y p) (into z q) same);
}

-- the same lines, otherwise put together
pub spells-lines : {A : Type 0} (version : ℕ) (P : A → Type 0) (g h : A → List Said) (u v : A → List Placed) (due : List Slot)
    → ((x : A) → P x → g x ≡ h x) → ((x : A) → P x → u x ≡ v x) → Spells version P g u due → Spells version P h v due
spells-lines version P g h u v due same spots spells = record {
  out = λ x passes. rw (← same x passes, ← spots x passes) (spells.out x passes);
  back = λ lines fills all.
      let found = spells.back lines fills all in
      record { item = found.item; passes = found.passes; is = found.is ∙ same found.item found.passes };
  one = λ x y p q e. spells.one x y p q (same x p ∙ (e ∙ sym (same y q)));
}
