-- The lists of a printing that was read: its sheet is the text that was read.
use Rattle.std.proofs.Common.{◌≡◌, ℕ, zero, suc, ◌+◌, ◌-◌, ◌*◌, ◌<◌, ◌≤◌, ◌==◌, nat_le, nat_lt, ◌⊎◌, Bool, true, false, ◌&&◌, ◌||◌, cond, inl, inr, List, [], ◌∷◌, ◌++◌, count_by, length, map, replicate, take, Option, Some, None, refl, sym, subst, ap, ◌∙◌, append_assoc, append-nil, add-zero, suc-mul, arith}
use Rattle.std.specs.List.{list_any}
use Rattle.std.specs.Option.{option_and_then, option_map_or}
use Rattle.std.specs.Option.{unwrap_or}
use Rattle.std.specs.Prelude.{slice_get, slice_index_or}
use Rattle.std.proofs.Math.Seq.{take-append_seam}
use Rattle.std.proofs.lemmas.Bool.{and_parts, cases_lt, eq-eqb, eqb-true, ltb-true, ne_eqb, or_right, true≢false}
use Rattle.std.proofs.lemmas.List.{length-append, length-map, length-replicate, length-set, length_push}
use Rattle.std.proofs.lemmas.List.Sums.{sum_by-cons}
use Rattle.std.proofs.lemmas.Option.{get_or_from_slice_get, none-some, same_Some, slice_get-get_or, slice_get_within, unwrap_or-slice_get}
use Rattle.std.proofs.lemmas.Simd.{map-map}
use Rattle.sg_lists.proofs.Counting.{count_by-append}
use Rattle.sg_lists.proofs.Lists.{slice_get-push, slice_get-push_last, slice_get-set}
use Rattle.sg_plan.specs.Ballots.{ballot_row, ballot_styles, races_of_style, rows_of, style_has}
use Rattle.sg_plan.specs.Limits.{fault_of, rises}
use Rattle.sg_plan.specs.declared.plan.Plan.{Plan}
use Rattle.sg_sheet.proofs.Listing.{sheet_printed}
use Rattle.sg_sheet.proofs.Styles.{rises-length, rises-once, style_rises}
use Rattle.sg_sheet.specs.Sheet.{codes_text, line_text}
use Rattle.sg_sheet.specs.inside.Listed.{ballot_due, codes_due, due_from, line_due, sheet_due}
use Rattle.sg_sheet.specs.declared.due.Due.{Due}
use Rattle.sg_sheet.specs.declared.due.Due.TheVariants as line
use Rattle.sg_facts.specs.Items.{item_in}
use Rattle.sg_parts.specs.Given.{AreCodes, ArePrinted, printed_of, sheet_texts}
use Rattle.sg_parts.specs.inside.Filling.{Fills, Lists, is_race_due, with_list}

-- THE ROWS OF A SHEET STAND IN ORDER

-- one more row of the race
abbrev plus : ℕ → (ℕ → ℕ) → ℕ → ℕ
plus race counts r = counts r + cond (race == r) 1 0

-- the rows behind these lines
abbrev after : List Due → (ℕ → ℕ) → ℕ → ℕ
after [] counts = counts
after (line.Ballot ballot style ∷ due) counts = after due counts
after (line.Codes race row ∷ due) counts = after due (plus race counts)

-- each line of codes is of the next row of its race
abbrev InOrder : List Due → (ℕ → ℕ) → Type 0
InOrder [] counts = Unit {0}
InOrder (line.Ballot ballot style ∷ due) counts = InOrder due counts
InOrder (line.Codes race row ∷ due) counts = (row ≡ counts race) × InOrder due (plus race counts)

order_append : (xs ys : List Due) (counts : ℕ → ℕ) → InOrder xs counts → InOrder ys (after xs counts) → InOrder (xs ++ ys) counts
order_append [] ys counts a b = b
order_append (line.Ballot ballot style ∷ xs) ys counts a b = order_append xs ys counts a b
order_append (line.Codes race row ∷ xs) ys counts a b = (a.0, order_append xs ys (plus race counts) a.1 b)

after_append : (xs ys : List Due) (counts : ℕ → ℕ) → after (xs ++ ys) counts ≡ after ys (after xs counts)
after_append [] ys counts = refl
after_append (line.Ballot ballot style ∷ xs) ys counts = after_append xs ys counts
after_append (line.Codes race row ∷ xs) ys counts = after_append xs ys (plus race counts)

-- counts that are the same
after_same : (due : List Due) (a b : ℕ → ℕ) → ((r : ℕ) → a r ≡ b r) → (r : ℕ) → after due a r ≡ after due b r
after_same [] a b same r = same r
after_same (line.Ballot ballot style ∷ due) a b same r = after_same due a b same r
after_same (line.Codes race row ∷ due) a b same r = after_same due (plus race a) (plus race b) (λ k. ap (λ n. n + cond (race == k) 1 0) (same k)) r

order_same : (due : List Due) (a b : ℕ → ℕ) → ((r : ℕ) → a r ≡ b r) → InOrder due a → InOrder due b
order_same [] a b same is = tt
order_same (line.Ballot ballot style ∷ due) a b same is = order_same due a b same is
order_same (line.Codes race row ∷ due) a b same is = (is.0 ∙ same race, order_same due (plus race a) (plus race b) (λ k. ap (λ n. n + cond (race == k) 1 0) (same k)) is.1)

module _ (plan : Plan) (fine : fault_of plan ≡ None) where
  -- the races of a ballot, each once
  races_order : (ballot least end : ℕ) (races : List ℕ) (counts : ℕ → ℕ) → rises least end races ≡ true → ((r : ℕ) → list_any (λ x. x == r) races ≡ true → ballot_row plan r ballot ≡ counts r)
      → InOrder (map (codes_due plan ballot) races) counts
  races_order ballot least end [] counts up rows = tt
  races_order ballot least end (n ∷ ns) counts up rows =
      let parts = and_parts (nat_le least n && nat_lt n end) (rises (n + 1) end ns) up in (
        rows n (ap (λ b. b || list_any (λ x. x == n) ns) (eq-eqb n n refl)),
        races_order ballot (n + 1) end ns (plus n counts) parts.1
            (λ r has. rows r (or_right (n == r) (list_any (λ x. x == r) ns) has) ∙ (sym (add-zero (counts r)) ∙ sym (ap (λ b. counts r + cond b 1 0) (ne_eqb n r (λ e. other r has (rises-once n end ns parts.1) e))))),
      )
    where
      other : (r : ℕ) → list_any (λ x. x == r) ns ≡ true → list_any (λ x. x == n) ns ≡ false → n ≡ r → ⊥
      other r has none same = true≢false (sym (ap (λ k. list_any (λ x. x == k) ns) same ∙ has) ∙ none)

  races_after : (ballot least end : ℕ) (races : List ℕ) (counts : ℕ → ℕ) → rises least end races ≡ true → (r : ℕ) → after (map (codes_due plan ballot) races) counts r ≡ counts r + cond (list_any (λ x. x == r) races) 1 0
  races_after ballot least end [] counts up r = omega arith
  races_after ballot least end (n ∷ ns) counts up r =
      let parts = and_parts (nat_le least n && nat_lt n end) (rises (n + 1) end ns) up in
      races_after ballot (n + 1) end ns (plus n counts) parts.1 r ∙ at_first (n == r) refl (rises-once n end ns parts.1)
    where
      at_first : (b : Bool) → (n == r) ≡ b → list_any (λ x. x == n) ns ≡ false → (counts r + cond (n == r) 1 0) + cond (list_any (λ x. x == r) ns) 1 0 ≡ counts r + cond ((n == r) || list_any (λ x. x == r) ns) 1 0
      at_first true e none =
          let never : list_any (λ x. x == r) ns ≡ false = ap (λ k. list_any (λ x. x == k) ns) (sym (eqb-true n r e)) ∙ none in
          rw (e, never) (omega arith)
      at_first false e none = rw e (omega arith)

  -- how many of these ballots have the race
  abbrev rows_in : List ℕ → ℕ → ℕ
  rows_in styles race = count_by (style_has plan race) styles

  ballots_order : (front styles : List ℕ) (ballot : ℕ) → ballot_styles plan.runs ≡ front ++ styles → ballot ≡ length front + 1 → InOrder (due_from plan ballot styles) (rows_in front)
  ballots_order front [] ballot all is = tt
  ballots_order front (style ∷ styles) ballot all is =
      order_append (ballot_due plan ballot style) (due_from plan (ballot + 1) styles) (rows_in front)
      (races_order ballot 0 (length plan.races) (races_of_style plan style) (rows_in front) (style_rises plan style fine) (λ r has. row_is r))
      (order_same (due_from plan (ballot + 1) styles) (rows_in (front ++ style ∷ [])) (after (ballot_due plan ballot style) (rows_in front)) (λ r. sym (counted r))
      (ballots_order (front ++ style ∷ []) styles (ballot + 1) (all ∙ sym (append_assoc front (style ∷ []) styles)) (ap (λ n. n + 1) is ∙ ap (λ n. n + 1) (sym (length_push front style)))))
    where
      row_is : (r : ℕ) → ballot_row plan r ballot ≡ rows_in front r
      row_is r =
          let at : ballot - 1 ≡ length front = omega (arith, is) in
          ap (λ n. count_by (style_has plan r) (take n (ballot_styles plan.runs))) at
          ∙ ap (count_by (style_has plan r)) (ap (take (length front)) all ∙ take-append_seam front (style ∷ styles))

      counted : (r : ℕ) → after (ballot_due plan ballot style) (rows_in front) r ≡ rows_in (front ++ style ∷ []) r
      counted r =
          races_after ballot 0 (length plan.races) (races_of_style plan style) (rows_in front) (style_rises plan style fine) r
          ∙ (ap (λ n. rows_in front r + n) (sym (add-zero (cond (style_has plan r style) 1 0)))
          ∙ sym (count_by-append (style_has plan r) front (style ∷ []) ∙ ap (λ n. rows_in front r + n) (sum_by-cons (λ x. cond (style_has plan r x) 1 0) style [])))

  ballots_after : (front styles : List ℕ) (ballot : ℕ) → ballot_styles plan.runs ≡ front ++ styles → ballot ≡ length front + 1 → (r : ℕ) → after (due_from plan ballot styles) (rows_in front) r ≡ rows_of plan r
  ballots_after front [] ballot all is r = ap (count_by (style_has plan r)) (sym (all ∙ append-nil front))
  ballots_after front (style ∷ styles) ballot all is r =
      ap (λ f. f r) (after_append (ballot_due plan ballot style) (due_from plan (ballot + 1) styles) (rows_in front))
      ∙ (after_same (due_from plan (ballot + 1) styles) (after (ballot_due plan ballot style) (rows_in front)) (rows_in (front ++ style ∷ [])) counted r
      ∙ ballots_after (front ++ style ∷ []) styles (ballot + 1) (all ∙ sym (append_assoc front (style ∷ []) styles)) (ap (λ n. n + 1) is ∙ ap (λ n. n + 1) (sym (length_push front style))) r)
    where
      counted : (k : ℕ) → after (ballot_due plan ballot style) (rows_in front) k ≡ rows_in (front ++ style ∷ []) k
      counted k =
          races_after ballot 0 (length plan.races) (races_of_style plan style) (rows_in front) (style_rises plan style fine) k
          ∙ (ap (λ n. rows_in front k + n) (sym (add-zero (cond (style_has plan k style) 1 0)))
          ∙ sym (count_by-append (style_has plan k) front (style ∷ []) ∙ ap (λ n. rows_in front k + n) (sum_by-cons (λ x. cond (style_has plan k x) 1 0) style [])))

  sheet_order : InOrder (sheet_due plan) (λ r. 0)
  sheet_order = ballots_order [] (ballot_styles plan.runs) 1 refl refl

  sheet_after : (r : ℕ) → after (sheet_due plan) (λ r. 0) r ≡ rows_of plan r
  sheet_after r = ballots_after [] (ballot_styles plan.runs) 1 refl refl r

  -- the races of the lines are those of the plan
  races_within : (ballot least : ℕ) (races : List ℕ) → rises least (length plan.races) races ≡ true → (at : ℕ) (one : Due) → slice_get (map (codes_due plan ballot) races) at ≡ Some one → is_race_due (length plan.races) one ≡ true
  races_within ballot least [] up at one is = cc
  races_within ballot least (n ∷ ns) up zero one is =
      let low = and_parts (nat_le least n) (nat_lt n (length plan.races)) (and_parts (nat_le least n && nat_lt n (length plan.races)) (rises (n + 1) (length plan.races) ns) up).0 in
      subst (λ d. is_race_due (length plan.races) d ≡ true) (same_Some (codes_due plan ballot n) one is) low.1
  races_within ballot least (n ∷ ns) up (suc at) one is = races_within ballot (n + 1) ns (and_parts (nat_le least n && nat_lt n (length plan.races)) (rises (n + 1) (length plan.races) ns) up).1 at one is

  append_each : (test : Due → Bool) (xs ys : List Due) → ((at : ℕ) (one : Due) → slice_get xs at ≡ Some one → test one ≡ true) → ((at : ℕ) (one : Due) → slice_get ys at ≡ Some one → test one ≡ true)
      → (at : ℕ) (one : Due) → slice_get (xs ++ ys) at ≡ Some one → test one ≡ true
  append_each test [] ys a b at one is = b at one is
  append_each test (x ∷ xs) ys a b zero one is = a 0 one is
  append_each test (x ∷ xs) ys a b (suc at) one is = append_each test xs ys (λ k d e. a (suc k) d e) b at one is

  due_within : (ballot : ℕ) (styles : List ℕ) → (at : ℕ) (one : Due) → slice_get (due_from plan ballot styles) at ≡ Some one → is_race_due (length plan.races) one ≡ true
  due_within ballot [] at one is = cc
  due_within ballot (style ∷ styles) at one is =
      append_each (is_race_due (length plan.races)) (ballot_due plan ballot style) (due_from plan (ballot + 1) styles) (λ k d e. at_place k d e) (due_within (ballot + 1) styles) at one is
    where
      at_place : (k : ℕ) (d : Due) → slice_get (ballot_due plan ballot style) k ≡ Some d → is_race_due (length plan.races) d ≡ true
      at_place zero d e = subst (λ x. is_race_due (length plan.races) x ≡ true) (same_Some (line.Ballot ballot style) d e) refl
      at_place (suc k) d e = races_within ballot 0 (races_of_style plan style) (style_rises plan style fine) k d e

  pub sheet_within : (at : ℕ) (one : Due) → slice_get (sheet_due plan) at ≡ Some one → is_race_due (length plan.races) one ≡ true
  sheet_within = due_within 1 (ballot_styles plan.runs)

  -- a ballot has at most a line for each race, and its own
  due_few : (ballot : ℕ) (styles : List ℕ) → length (due_from plan ballot styles) ≤ length styles * (length plan.races + 1)
  due_few ballot [] = omega arith
  due_few ballot (style ∷ styles) =
      let here = rises-length 0 (length plan.races) (races_of_style plan style) (style_rises plan style fine) in
      let rest = due_few (ballot + 1) styles in
      let step : suc (length styles) * (length plan.races + 1) ≡ length styles * (length plan.races + 1) + (length plan.races + 1) = suc-mul (length styles) (length plan.races + 1) in
      omega (arith, here, rest, step, length-append (ballot_due plan ballot style) (due_from plan (ballot + 1) styles), length-map (races_of_style plan style) (codes_due plan ballot))

  pub sheet_few : length (sheet_due plan) ≤ length (ballot_styles plan.runs) * (length plan.races + 1)
  sheet_few = due_few 1 (ballot_styles plan.runs)

-- WHAT WAS FILLED

-- so many rows of each race
abbrev HasCounts : ℕ → Lists → (ℕ → ℕ) → Type 0
HasCounts races lists counts = (r : ℕ) → r < races → length (slice_index_or lists r []) ≡ counts r

abbrev Keeps : Lists → Lists → Type 0
Keeps old new = (race row : ℕ) (list : List ℕ) → item_in old race row ≡ Some list → item_in new race row ≡ Some list

abbrev HasCodes : Plan → Lists → Type 0
HasCodes plan lists = (race row : ℕ) (list : List ℕ) → item_in lists race row ≡ Some list → AreCodes plan race list

module _ (plan : Plan) (old : Lists) (race : ℕ) (list : List ℕ) (within : race < length old) where
  abbrev rows : List (List ℕ)
  rows = slice_index_or old race []

  rows_are : slice_get old race ≡ Some rows
  rows_are = slice_get-get_or old race [] within

  with_get : (r : ℕ) → slice_get (with_list old race list) r ≡ cond (race == r) (Some (rows ++ list ∷ [])) (slice_get old r)
  with_get r = slice_get-set old race r (rows ++ list ∷ []) within

  with_keeps : Keeps old (with_list old race list)
  with_keeps r k x is = ap (option_and_then (λ items. slice_get items k)) (with_get r) ∙ at_race (race == r) refl
    where
      at_race : (b : Bool) → (race == r) ≡ b → option_and_then (λ items. slice_get items k) (cond b (Some (rows ++ list ∷ [])) (slice_get old r)) ≡ Some x
      at_race false e = is
      at_race true e =
          let here : slice_get rows k ≡ Some x = sym (ap (option_and_then (λ items. slice_get items k)) (ap (slice_get old) (sym (eqb-true race r e)) ∙ rows_are)) ∙ is in
          slice_get-push rows list k (slice_get_within rows k x here) ∙ here

  with_last : item_in (with_list old race list) race (length rows) ≡ Some list
  with_last = ap (option_and_then (λ items. slice_get items (length rows))) (with_get race ∙ ap (λ b. cond b (Some (rows ++ list ∷ [])) (slice_get old race)) (eq-eqb race race refl)) ∙ slice_get-push_last rows list (length rows) refl

  with_codes : AreCodes plan race list → HasCodes plan old → HasCodes plan (with_list old race list)
  with_codes are before r k x is = at_race (race == r) refl (sym (ap (option_and_then (λ items. slice_get items k)) (with_get r)) ∙ is)
    where
      at_row : race ≡ r → (k < length rows) ⊎ (length rows ≤ k) → slice_get (rows ++ list ∷ []) k ≡ Some x → AreCodes plan r x
      at_row same (inl less) e =
          before r k x (ap (option_and_then (λ items. slice_get items k)) (ap (slice_get old) (sym same) ∙ rows_are) ∙ (sym (slice_get-push rows list k less) ∙ e))
      at_row same (inr more) e =
          let last : k ≡ length rows = omega (arith, more, slice_get_within (rows ++ list ∷ []) k x e, length_push rows list) in
          subst (λ (y : List ℕ). AreCodes plan r y) (same_Some list x (sym (slice_get-push_last rows list k last) ∙ e)) (subst (λ n. AreCodes plan n list) same are)

      at_race : (b : Bool) → (race == r) ≡ b → option_and_then (λ items. slice_get items k) (cond b (Some (rows ++ list ∷ [])) (slice_get old r)) ≡ Some x → AreCodes plan r x
      at_race false e d = before r k x d
      at_race true e d = at_row (eqb-true race r e) (cases_lt k (length rows)) d

  with_counts : (races : ℕ) (counts : ℕ → ℕ) → HasCounts races old counts → HasCounts races (with_list old race list) (plus race counts)
  with_counts races counts has r less = at_race (race == r) refl
    where
      at_race : (b : Bool) → (race == r) ≡ b → length (slice_index_or (with_list old race list) r []) ≡ counts r + cond (race == r) 1 0
      at_race false e =
          ap length (index_same (slice_get (with_list old race list) r) (slice_get old r) (with_get r ∙ ap (λ b. cond b (Some (rows ++ list ∷ [])) (slice_get old r)) e))
          ∙ (has r less ∙ (sym (add-zero (counts r)) ∙ sym (ap (λ b. counts r + cond b 1 0) e)))
        where
          index_same : (a b : Option (List (List ℕ))) → slice_get (with_list old race list) r ≡ slice_get old r → slice_index_or (with_list old race list) r [] ≡ slice_index_or old r []
          index_same a b same = sym (unwrap_or-slice_get (with_list old race list) r []) ∙ (ap (λ o. unwrap_or o []) same ∙ unwrap_or-slice_get old r [])
      at_race true e =
          ap length (get_or_from_slice_get (with_list old race list) r (rows ++ list ∷ []) [] (with_get r ∙ ap (λ b. cond b (Some (rows ++ list ∷ [])) (slice_get old r)) e))
          ∙ (length_push rows list ∙ (ap (λ n. n + 1) (ap (λ k. length (slice_index_or old k [])) (eqb-true race r e) ∙ has r less) ∙ sym (ap (λ b. counts r + cond b 1 0) e)))

-- the lines that were taken are those of the sheet with these lists
pub record HasFilled (plan : Plan) (due : List Due) (lines left : List (List ℕ)) (old new : Lists) (counts : ℕ → ℕ) : Type 0 where
  pub keeps : Keeps old new
  pub text : lines ≡ map (λ d. line_text plan.version (line_due (printed_of new) d)) due ++ left
  pub codes_are : HasCodes plan new
  pub counts_are : HasCounts (length plan.races) new (after due counts)
  pub long : length new ≡ length plan.races

filled : (plan : Plan) (due : List Due) (lines left : List (List ℕ)) (old new : Lists) (counts : ℕ → ℕ) → ((at : ℕ) (one : Due) → slice_get due at ≡ Some one → is_race_due (length plan.races) one ≡ true) → InOrder due counts
    → HasCounts (length plan.races) old counts → HasCodes plan old → length old ≡ length plan.races → Fills plan due lines old left new → HasFilled plan due lines left old new counts
filled plan [] lines left old new counts races order has codes long fills = record {
  keeps = λ race row list is. subst (λ (l : Lists). item_in l race row ≡ Some list) fills.1 is;
  text = fills.0;
  codes_are = subst (λ (l : Lists). HasCodes plan l) fills.1 codes;
  counts_are = subst (λ (l : Lists). HasCounts (length plan.races) l counts) fills.1 has;
  long = ap length (sym fills.1) ∙ long;
}
filled plan (one ∷ due) [] left old new counts races order has codes long fills = absurd fills
filled plan (line.Ballot ballot style ∷ due) (text ∷ lines) left old new counts races order has codes long (mid, takes, rest) =
    let more = filled plan due lines left mid new counts (λ at d e. races (suc at) d e) order (subst (λ (l : Lists). HasCounts (length plan.races) l counts) (sym takes.1) has) (subst (λ (l : Lists). HasCodes plan l) (sym takes.1) codes) (ap length takes.1 ∙ long) rest in
    record {
      keeps = λ race row list is. more.keeps race row list (subst (λ (l : Lists). item_in l race row ≡ Some list) (sym takes.1) is);
      text = ap (λ (t : List ℕ). t ∷ lines) takes.0 ∙ ap (λ (l : List (List ℕ)). line_text plan.version (line_due (printed_of new) (line.Ballot ballot style)) ∷ l) more.text;
      codes_are = more.codes_are;
      counts_are = more.counts_are;
      long = more.long;
    }
filled plan (line.Codes race row ∷ due) (text ∷ lines) left old new counts races order has codes long (mid, takes, rest) =
    let within : race < length old = omega (arith, ltb-true race (length plan.races) (races 0 (line.Codes race row) refl), long) in
    let list = takes.0 in
    let put : with_list old race list ≡ mid = sym takes.3 in
    let more = filled plan due lines left mid new (plus race counts) (λ at d e. races (suc at) d e) order.1
    (subst (λ (l : Lists). HasCounts (length plan.races) l (plus race counts)) put (with_counts plan old race list within (length plan.races) counts has))
    (subst (λ (l : Lists). HasCodes plan l) put (with_codes plan old race list within takes.1 codes)) (ap length takes.3 ∙ (length-set old race (slice_index_or old race [] ++ list ∷ []) ∙ long)) rest in
    let last : item_in mid race row ≡ Some list
    = subst (λ (l : Lists). item_in l race row ≡ Some list) put (ap (λ k. item_in (with_list old race list) race k) (order.0 ∙ sym (has race (omega (arith, within, long)))) ∙ with_last plan old race list within) in
    let printed : printed_of new race row ≡ list = ap (λ (o : Option (List ℕ)). option_map_or (λ l. l) o []) (more.keeps race row list last) in
    record {
      keeps = λ r k x is. more.keeps r k x (subst (λ (l : Lists). item_in l r k ≡ Some x) put (with_keeps plan old race list within r k x is));
      text =
          ap (λ (t : List ℕ). t ∷ lines) (takes.2 ∙ ap (codes_text plan.version race) (sym printed))
          ∙ ap (λ (l : List (List ℕ)). codes_text plan.version race (printed_of new race row) ∷ l) more.text;
      codes_are = more.codes_are;
      counts_are = more.counts_are;
      long = more.long;
    }

-- THE SHEET

fill_index : (n r : ℕ) → length (slice_index_or (replicate {A = List (List ℕ)} n []) r []) ≡ 0
fill_index zero r = refl
fill_index (suc n) zero = refl
fill_index (suc n) (suc r) = fill_index n r

fill_none : (n race row : ℕ) (list : List ℕ) → item_in (replicate {A = List (List ℕ)} n []) race row ≡ Some list → ⊥
fill_none zero race row list is = none-some list is
fill_none (suc n) zero row list is = none-some list is
fill_none (suc n) (suc race) row list is = fill_none n race row list is

-- what was read is a printing, and the lines are those of its sheet
pub sheet_filled : (plan : Plan) (lines left : List (List ℕ)) (lists : Lists) → fault_of plan ≡ None → Fills plan (sheet_due plan) lines (replicate (length plan.races) []) left lists
    → ArePrinted plan lists × (lines ≡ sheet_texts plan lists ++ left)
sheet_filled plan lines left lists fine fills =
    let has = filled plan (sheet_due plan) lines left (replicate (length plan.races) []) lists (λ r. 0) (sheet_within plan fine) (sheet_order plan fine) (λ r less. fill_index (length plan.races) r)
    (λ race row list is. absurd (fill_none (length plan.races) race row list is)) (length-replicate (length plan.races) []) fills in (
      record {
        races = has.long;
        rows = λ race rows is.
            ap length (sym (get_or_from_slice_get lists race rows [] is)) ∙ (has.counts_are race (omega (arith, slice_get_within lists race rows is, has.long)) ∙ sheet_after plan fine race);
        codes_are = has.codes_are;
      },
      has.text ∙ ap (λ (l : List (List ℕ)). l ++ left) (sym (map-map (line_text plan.version) (line_due (printed_of lists)) (sheet_due plan)) ∙ ap (map (line_text plan.version)) (sheet_printed plan (printed_of lists))),
    )
