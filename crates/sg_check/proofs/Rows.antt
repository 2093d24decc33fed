-- The rows that are not altered: each leads to an entry and to a place, and different ones to different ones.
use Rattle.std.proofs.Common.{◌≡◌, ◌≢◌, ℕ, zero, suc, ◌<◌, ◌==◌, ◌⊎◌, nat_le, Bool, true, false, ◌&&◌, ◌||◌, cond, inl, inr, not, List, [], ◌∷◌, ◌++◌, Option, Some, None, refl, sym, subst, ap, ◌∙◌, arith}
use Rattle.std.specs.List.{list_any}
use Rattle.std.specs.Option.{is_none, option_map_or}
use Rattle.std.proofs.lemmas.Bool.{and_from, and_left, and_parts, cases_eq, eq-eqb, eqb-true, leb-false, ne_eqb, or_from, or_parts}
use Rattle.std.proofs.lemmas.Option.{none-some, same_Some}
use Rattle.sg_commit.specs.declared.Opening.{Opening}
use Rattle.sg_forms.specs.declared.line.RowOpening.{RowOpening}
use Rattle.sg_plan.specs.Ballots.{entries_of}
use Rattle.sg_plan.specs.declared.plan.Plan.{Plan}
use Rattle.sg_plan.specs.declared.plan.Side.{Side}
use Rattle.sg_plan.specs.declared.plan.Side.TheVariants as side
use Rattle.sg_grammar.specs.Lines.{IsAmong, is_cast}
use Rattle.sg_grammar.specs.Parting.{Apart, None_of, clash, is_before_rows}
use Rattle.sg_grammar.specs.Placed.{Placed}
use Rattle.sg_grammar.specs.Placed.Placed.{CodeAt, FlagsAt, PlacesAt, RowAt}
use Rattle.sg_check.specs.Facts.{first_given, flags_row, is_flagged, marks_entry, points_to, sets_place, opened_on}
use Rattle.sg_check.specs.Kinds.{differ, is_counted}
use Rattle.sg_check.specs.Laws.{ArePointersOnce, DoFlagsAgree, IsBefore}
use Rattle.sg_grammar.proofs.Lists.{apart-behind, none-weaken}
use Rattle.sg_check.specs.Completions.{Completion, OpensNoneTwice, any_below, is_half_altered, is_repeated, is_wrong_pointer, posted_half, posts_half}

-- LINES AMONG LINES

-- the line that gives the first value
pub first_given-some : {B : Type 0} (given : Placed → Option B) (lines : List Placed) (value : B) → first_given given lines ≡ Some value
    → (line : Placed) × IsAmong lines line × (given line ≡ Some value)
first_given-some given [] value e = cc
first_given-some given (line ∷ lines) value e = here (given line) refl (first_given-some given lines value)
  where
    here : (o : Option _) → given line ≡ o → (first_given given lines ≡ Some value → (l : Placed) × IsAmong lines l × (given l ≡ Some value)) → (l : Placed) × IsAmong (line ∷ lines) l × (given l ≡ Some value)
    here (Some found) is later = (line, ([], lines, refl), (is ∙ (sym (ap (λ o. option_map_or Some o (first_given given lines)) is) ∙ e)))
    here None is later =
        let more = later (sym (ap (λ o. option_map_or Some o (first_given given lines)) is) ∙ e) in
        (more.0, (line ∷ more.1.0, more.1.1, ap (λ (l : List Placed). line ∷ l) more.1.2), more.2)

-- two of the lines are one, or one is before the other
pub among_cases : (lines : List Placed) (a b : Placed) → IsAmong lines a → IsAmong lines b → (a ≡ b) ⊎ (IsBefore lines a b ⊎ IsBefore lines b a)
among_cases lines a b (front, rest, is) (other, more, same) = split lines front other is same
  where
    first : {x y : Placed} {xs ys : List Placed} → x ∷ xs ≡ y ∷ ys → x ≡ y
    first e = cc

    others : {x y : Placed} {xs ys : List Placed} → x ∷ xs ≡ y ∷ ys → xs ≡ ys
    others e = cc

    split : (all front other : List Placed) → all ≡ front ++ a ∷ rest → all ≡ other ++ b ∷ more → (a ≡ b) ⊎ (IsBefore all a b ⊎ IsBefore all b a)
    split all [] [] e d = inl (first (sym e ∙ d))
    split all [] (y ∷ other) e d = inr (inl ([], other, more, e ∙ ap (λ (l : List Placed). a ∷ l) (others (sym e ∙ d))))
    split all (x ∷ front) [] e d = inr (inr ([], front, rest, d ∙ ap (λ (l : List Placed). b ∷ l) (others (sym d ∙ e))))
    split [] (x ∷ front) (y ∷ other) e d = cc
    split (z ∷ all) (x ∷ front) (y ∷ other) e d = further (split all front other (others e) (others d))
      where
        further : (a ≡ b) ⊎ (IsBefore all a b ⊎ IsBefore all b a) → (a ≡ b) ⊎ (IsBefore (z ∷ all) a b ⊎ IsBefore (z ∷ all) b a)
        further (inl one) = inl one
        further (inr (inl before)) = inr (inl (z ∷ before.0, before.1, before.2, ap (λ (l : List Placed). z ∷ l) before.3))
        further (inr (inr before)) = inr (inr (z ∷ before.0, before.1, before.2, ap (λ (l : List Placed). z ∷ l) before.3))

-- a line before another doesn't clash with it
pub before_apart : (lines : List Placed) (a b : Placed) → Apart clash lines → IsBefore lines a b → clash a b ≡ false
before_apart lines a b apart (front, between, rest, is) =
    let behind = apart-behind clash front (between ++ b ∷ rest) a (subst (λ (l : List Placed). Apart clash l) is apart) in
    at_last between behind
  where
    at_last : (xs : List Placed) → None_of (clash a) (xs ++ b ∷ rest) → clash a b ≡ false
    at_last [] none = (or_parts (clash a b) (list_any (clash a) rest) none).0
    at_last (x ∷ xs) none = at_last xs (or_parts (clash a x) (list_any (clash a) (xs ++ b ∷ rest)) none).1

-- A ROW HAS ONE LINE

opening_of : {race instance row of within at : ℕ} {a b : RowOpening} → RowAt race instance row a ≡ RowAt of within at b → a ≡ b
opening_of e = cc

pub one_row : (lines : List Placed) (race instance row : ℕ) (a b : RowOpening) → Apart clash lines → IsAmong lines (RowAt race instance row a) → IsAmong lines (RowAt race instance row b) → a ≡ b
one_row lines race instance row a b apart in_a in_b = at_case (among_cases lines (RowAt race instance row a) (RowAt race instance row b) in_a in_b)
  where
    clashes : (x y : RowOpening) → clash (RowAt race instance row x) (RowAt race instance row y) ≡ true
    clashes x y = and_from (race == race && instance == instance) (row == row) (and_from (race == race) (instance == instance) (eq-eqb race race refl) (eq-eqb instance instance refl)) (eq-eqb row row refl)

    at_case : (RowAt race instance row a ≡ RowAt race instance row b)
        ⊎ (IsBefore lines (RowAt race instance row a) (RowAt race instance row b) ⊎ IsBefore lines (RowAt race instance row b) (RowAt race instance row a)) → a ≡ b
    at_case (inl one) = opening_of one
    at_case (inr (inl before)) = let both : true ≡ false = sym (clashes a b) ∙ before_apart lines _ _ apart before in cc
    at_case (inr (inr before)) = let both : true ≡ false = sym (clashes b a) ∙ before_apart lines _ _ apart before in cc

-- the line of a half that is posted
pub posted_row : (lines : List Placed) (on : Side) (race instance row : ℕ) (o : Opening) → posted_half lines on race instance row ≡ Some o
    → (opening : RowOpening) × IsAmong lines (RowAt race instance row opening) × (opened_on on opening ≡ Some o)
posted_row lines on race instance row o e =
    let found = first_given-some (posts_half on race instance row) lines o e in
    at_line found.0 found.1 found.2
  where
    at_line : (line : Placed) → IsAmong lines line → posts_half on race instance row line ≡ Some o → (opening : RowOpening) × IsAmong lines (RowAt race instance row opening) × (opened_on on opening ≡ Some o)
    at_line (RowAt of within at opening) among gives = by_test ((of == race && within == instance) && at == row) refl
      where
        by_test : (b : Bool) → ((of == race && within == instance) && at == row) ≡ b → (x : RowOpening) × IsAmong lines (RowAt race instance row x) × (opened_on on x ≡ Some o)
        by_test false fails = absurd (none-some o (sym (ap (λ (b : Bool). cond b (opened_on on opening) None) fails) ∙ gives))
        by_test true passes =
            let outer = and_parts (of == race && within == instance) (at == row) passes in
            let inner = and_parts (of == race) (within == instance) outer.0 in (
              opening,
              subst (λ r. IsAmong lines (RowAt r instance row opening)) (eqb-true of race inner.0)
                  (subst (λ i. IsAmong lines (RowAt of i row opening)) (eqb-true within instance inner.1) (subst (λ x. IsAmong lines (RowAt of within x opening)) (eqb-true at row outer.1) among)),
              sym (ap (λ (b : Bool). cond b (opened_on on opening) None) passes) ∙ gives,
            )
    at_line line among gives = cc

-- WHAT STANDS BEFORE THE ROWS

-- behind a row nothing passes that passes only before all rows
any_before : (p : Placed → Bool) (front rest : List Placed) (x : Placed) → p x ≡ false → None_of p rest → list_any p (front ++ x ∷ rest) ≡ list_any p front
any_before p [] rest x fails none = or_from (p x) (list_any p rest) fails none
any_before p (y ∷ front) rest x fails none = ap (λ (b : Bool). p y || b) (any_before p front rest x fails none)

-- where a test passes marks, flags and places alone
pub none_behind_row : (p : Placed → Bool) (front rest : List Placed) (race instance row : ℕ) (opening : RowOpening) → Apart clash (front ++ RowAt race instance row opening ∷ rest)
    → ((line : Placed) → is_before_rows line ≡ false → p line ≡ false) → list_any p (front ++ RowAt race instance row opening ∷ rest) ≡ list_any p front
none_behind_row p front rest race instance row opening apart only =
    any_before p front rest (RowAt race instance row opening) (only (RowAt race instance row opening) refl)
    (none-weaken (clash (RowAt race instance row opening)) p rest (λ line free. only line (or_parts (is_before_rows line) _ free).0) (apart-behind clash front rest (RowAt race instance row opening) apart))

marks_before : (plan : Plan) (race entry : ℕ) (line : Placed) → is_before_rows line ≡ false → marks_entry plan race entry line ≡ false
marks_before plan race entry (CodeAt kind ballot of column code) e = and_left (is_cast kind) _ e
marks_before plan race entry line e = refl

flags_before : (race instance row : ℕ) (line : Placed) → is_before_rows line ≡ false → flags_row race instance row line ≡ false
flags_before race instance row (FlagsAt of within from bits) e = cc
flags_before race instance row line e = refl

places_before : (race place : ℕ) (line : Placed) → is_before_rows line ≡ false → sets_place race place line ≡ false
places_before race place (PlacesAt of from bits) e = cc
places_before race place line e = refl

-- THE HALVES OF ROWS

pub any_below-none : (test : ℕ → Bool) (n k : ℕ) → any_below test n ≡ false → k < n → test k ≡ false
any_below-none test zero k none less = absurd (omega arith)
any_below-none test (suc n) k none less =
    let parts = or_parts (any_below test n) (test n) none in
    elim (cases_eq k n) [
      | inl same ↦ ap test same ∙ parts.1
      | inr other ↦ any_below-none test n k parts.0 (omega (arith, less, other))
    ]

pub same_bits : (a b : Bool) → differ a b ≡ false → a ≡ b
same_bits true true e = refl
same_bits true false e = cc
same_bits false true e = cc
same_bits false false e = refl

module _ (plan : Plan) (lines : List Placed) (apart : Apart clash lines) (once : ArePointersOnce plan lines) (flags : DoFlagsAgree plan lines)
    (completion : Completion) (none_twice : OpensNoneTwice lines completion) where
  below_of : (on : Side) (race instance row : ℕ) (opening : RowOpening) (o : Opening) → IsAmong lines (RowAt race instance row opening) → opened_on on opening ≡ Some o → o.value < entries_of plan race
  below_of side.Left race instance row opening o among of = once.left_below race instance row opening o among of
  below_of side.Right race instance row opening o among of = once.right_below race instance row opening o among of

  differ_of : (on : Side) (race instance row other_row : ℕ) (opening other : RowOpening) (o p : Opening) → IsBefore lines (RowAt race instance row opening) (RowAt race instance other_row other)
      → opened_on on opening ≡ Some o → opened_on on other ≡ Some p → o.value ≢ p.value
  differ_of side.Left race instance row other_row opening other o p before of other_of = once.left_differ race instance row other_row opening other o p before of other_of
  differ_of side.Right race instance row other_row opening other o p before of other_of = once.right_differ race instance row other_row opening other o p before of other_of

  -- what is said of the lines before a row is said of all lines
  at_row : (p : Placed → Bool) (front rest : List Placed) (race instance row : ℕ) (opening : RowOpening) → lines ≡ front ++ RowAt race instance row opening ∷ rest
      → ((line : Placed) → is_before_rows line ≡ false → p line ≡ false) → list_any p lines ≡ list_any p front
  at_row p front rest race instance row opening is only =
      ap (list_any p) is ∙ none_behind_row p front rest race instance row opening (subst (λ (l : List Placed). Apart clash l) is apart) only

  flag_of : (on : Side) (race instance row : ℕ) (opening : RowOpening) (o : Opening) → IsAmong lines (RowAt race instance row opening) → opened_on on opening ≡ Some o
      → is_flagged race instance row lines ≡ is_counted plan lines on race o.value
  flag_of side.Left race instance row opening o (front, rest, is) of =
      at_row (flags_row race instance row) front rest race instance row opening is (flags_before race instance row)
      ∙ (flags.left front rest race instance row opening o is of ∙ sym (at_row (marks_entry plan race o.value) front rest race instance row opening is (marks_before plan race o.value)))
  flag_of side.Right race instance row opening o (front, rest, is) of =
      at_row (flags_row race instance row) front rest race instance row opening is (flags_before race instance row)
      ∙ (flags.right front rest race instance row opening o is of ∙ sym (at_row (sets_place race o.value) front rest race instance row opening is (places_before race o.value)))

  -- the pointer of a half that is not altered
  pub record GoodHalf (on : Side) (race instance row : ℕ) : Type 0 where
    pub opening : Opening
    pub is : completion on race instance row ≡ Some opening
    pub below : opening.value < entries_of plan race
    pub flag : is_flagged race instance row lines ≡ is_counted plan lines on race opening.value

  posted_good : (on : Side) (race instance row : ℕ) (o : Opening) → posted_half lines on race instance row ≡ Some o → GoodHalf on race instance row
  posted_good on race instance row o e =
      let row_is = posted_row lines on race instance row o e in
      record {
        opening = o;
        is = none_twice on race instance row o e;
        below = below_of on race instance row row_is.0 o row_is.1 row_is.2;
        flag = flag_of on race instance row row_is.0 o row_is.1 row_is.2;
      }

  -- a pointer that isn't posted and is there isn't wrong
  unposted_right : (on : Side) (race instance row : ℕ) (o : Opening) → posted_half lines on race instance row ≡ None → is_half_altered plan lines completion on race instance row ≡ false
      → completion on race instance row ≡ Some o → is_wrong_pointer plan lines completion on race instance row o.value ≡ false
  unposted_right on race instance row o none good there =
      sym (ap (λ (x : Option Opening). option_map_or (λ opening. is_wrong_pointer plan lines completion on race instance row opening.value) x true) there)
      ∙ (sym (ap (λ (x : Option Opening). is_none x && option_map_or (λ opening. is_wrong_pointer plan lines completion on race instance row opening.value) (completion on race instance row) true) none) ∙ good)

  unposted_there : (on : Side) (race instance row : ℕ) → posted_half lines on race instance row ≡ None → is_half_altered plan lines completion on race instance row ≡ false
      → completion on race instance row ≡ None → ⊥
  unposted_there on race instance row none good lacks =
      let both : true ≡ false
      = sym (ap (λ (x : Option Opening). option_map_or (λ opening. is_wrong_pointer plan lines completion on race instance row opening.value) x true) lacks)
      ∙ (sym (ap (λ (x : Option Opening). is_none x && option_map_or (λ opening. is_wrong_pointer plan lines completion on race instance row opening.value) (completion on race instance row) true) none) ∙ good) in cc

  pub good_half : (on : Side) (race instance row : ℕ) → is_half_altered plan lines completion on race instance row ≡ false → GoodHalf on race instance row
  good_half on race instance row good = by_post (posted_half lines on race instance row) refl
    where
      unposted : (x : Option Opening) → posted_half lines on race instance row ≡ None → completion on race instance row ≡ x → GoodHalf on race instance row
      unposted None none there = absurd (unposted_there on race instance row none good there)
      unposted (Some o) none there =
          let right = unposted_right on race instance row o none good there in
          let parts = or_parts (nat_le (entries_of plan race) o.value) _ right in
          let others = or_parts (is_repeated plan completion on race instance row o.value) _ parts.1 in
          record { opening = o; is = there; below = leb-false (entries_of plan race) o.value parts.0; flag = same_bits _ _ others.1 }

      by_post : (x : Option Opening) → posted_half lines on race instance row ≡ x → GoodHalf on race instance row
      by_post (Some o) e = posted_good on race instance row o e
      by_post None e = unposted (completion on race instance row) e refl

  -- a pointer that isn't posted is no other row's
  unposted_alone : (on : Side) (race instance row other : ℕ) (o p : Opening) → posted_half lines on race instance row ≡ None → is_half_altered plan lines completion on race instance row ≡ false
      → completion on race instance row ≡ Some o → completion on race instance other ≡ Some p → other < entries_of plan race → other ≢ row → o.value ≢ p.value
  unposted_alone on race instance row other o p none good there other_there less apart_rows same =
      let right = unposted_right on race instance row o none good there in
      let parts = or_parts (nat_le (entries_of plan race) o.value) _ right in
      let others = or_parts (is_repeated plan completion on race instance row o.value) _ parts.1 in
      let here = any_below-none (λ k. not (k == row) && points_to o.value (completion on race instance k)) (entries_of plan race) other others.0 less in
      let both : true ≡ false = sym (rw (ne_eqb other row apart_rows, other_there, eq-eqb p.value o.value (sym same)) refl) ∙ here in
      cc

  posted_alone : (on : Side) (race instance row other : ℕ) (o p : Opening) → posted_half lines on race instance row ≡ Some o → posted_half lines on race instance other ≡ Some p
      → other ≢ row → o.value ≢ p.value
  posted_alone on race instance row other o p e d apart_rows same =
      let one = posted_row lines on race instance row o e in
      let two = posted_row lines on race instance other p d in
      at_case one.0 two.0 one.2 two.2 (among_cases lines (RowAt race instance row one.0) (RowAt race instance other two.0) one.1 two.1)
    where
      row_of : {a b : RowOpening} {x y : ℕ} → RowAt race instance x a ≡ RowAt race instance y b → x ≡ y
      row_of e = cc

      at_case : (a b : RowOpening) → opened_on on a ≡ Some o → opened_on on b ≡ Some p → (RowAt race instance row a ≡ RowAt race instance other b)
          ⊎ (IsBefore lines (RowAt race instance row a) (RowAt race instance other b) ⊎ IsBefore lines (RowAt race instance other b) (RowAt race instance row a)) → ⊥
      at_case a b of_a of_b (inl line) = apart_rows (sym (row_of line))
      at_case a b of_a of_b (inr (inl before)) = differ_of on race instance row other a b o p before of_a of_b same
      at_case a b of_a of_b (inr (inr before)) = differ_of on race instance other row b a p o before of_b of_a (sym same)

  -- different rows have different pointers
  pub one_half : (on : Side) (race instance row other : ℕ) (a : GoodHalf on race instance row) (b : GoodHalf on race instance other)
      → is_half_altered plan lines completion on race instance row ≡ false → is_half_altered plan lines completion on race instance other ≡ false
      → row < entries_of plan race → other < entries_of plan race → a.opening.value ≡ b.opening.value → row ≡ other
  one_half on race instance row other a b good other_good less other_less same = elim (cases_eq other row) [
    | inl one ↦ sym one
    | inr apart_rows ↦ absurd (by_post apart_rows (posted_half lines on race instance row) (posted_half lines on race instance other) refl refl)
  ]
    where
      turned : (other ≡ row → ⊥) → row ≡ other → ⊥
      turned apart_rows e = apart_rows (sym e)

      value_of : (o p : Opening) → Some o ≡ Some p → o.value ≡ p.value
      value_of o p e = ap (λ (x : Opening). x.value) (same_Some o p e)

      by_post : (other ≡ row → ⊥) → (x y : Option Opening) → posted_half lines on race instance row ≡ x → posted_half lines on race instance other ≡ y → ⊥
      by_post apart_rows None y e d = unposted_alone on race instance row other a.opening b.opening e good a.is b.is other_less apart_rows same
      by_post apart_rows (Some o) None e d = unposted_alone on race instance other row b.opening a.opening d other_good b.is a.is less (turned apart_rows) (sym same)
      by_post apart_rows (Some o) (Some p) e d =
          posted_alone on race instance row other o p e d apart_rows
          (value_of o a.opening (sym (none_twice on race instance row o e) ∙ a.is) ∙ (same ∙ value_of b.opening p (sym b.is ∙ none_twice on race instance other p d)))
