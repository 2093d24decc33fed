-- The papers and codes of audited ballots, and the codes of disputes: their lines are one to one with the lists of a block.
use Rattle.std.proofs.Common.{◌≡◌, ℕ, zero, suc, ◌+◌, ◌-◌, ◌==◌, Bool, true, false, ◌&&◌, List, [], ◌∷◌, ◌++◌, All, length, take, drop, map, Some, None, refl, sym, ap, ◌∙◌, arith, ◌<◌, ◌≤◌, nat_lt, nat_le, not, cond, slice_get, Option}
use Rattle.std.proofs.Math.Seq.{drop-append_seam, take-append_seam}
use Rattle.std.proofs.lemmas.Bool.{and_from, and_parts, eq-eqb, eqb-true, lt-ltb, leb-true, ltb-true, ne_eqb}
use Rattle.std.proofs.lemmas.List.{map-append, take-append-drop}
use Rattle.std.proofs.lemmas.List.Elements.{All-head, All-tail}
use Rattle.std.proofs.lemmas.List.Folds.{list_all-append}
use Rattle.std.specs.List.{flat_map, list_all, list_any}
use Rattle.sg_plan.specs.Ballots.{candidates_of, races_of_ballot, ballot_has, races_of_style, style_of_ballot}
use Rattle.sg_plan.specs.Codes.{codes_of, is_code}
use Rattle.sg_plan.specs.Limits.{fault_of, each_keeps, rises, style_fits, style_keeps, styles_have}
use Rattle.sg_plan.specs.declared.plan.Plan.{Plan}
use Rattle.sg_forms.specs.Said.{Said}
use Rattle.sg_forms.specs.Said.Said.{Code, Paper}
use Rattle.sg_forms.specs.Spelling.{IsCode, IsInRange}
use Rattle.sg_forms.specs.declared.line.CodeLine.{CodeLine}
use Rattle.sg_grammar.specs.Due.{due_audit, code_line, numbered, race_codes, each}
use Rattle.sg_grammar.specs.Placed.{Placed}
use Rattle.sg_grammar.specs.Placed.Placed.{CodeAt, PaperAt}
use Rattle.sg_grammar.specs.declared.state.Block.{Block}
use Rattle.sg_grammar.specs.declared.state.Block.TheVariants as block
use Rattle.sg_grammar.specs.declared.state.Slot.{Slot}
use Rattle.sg_grammar.specs.declared.state.Slot.TheVariants as slot
use Rattle.sg_record.proofs.EachItem.{Each-from_test, Each-length, test-from_Each}
use Rattle.sg_record.proofs.Filling.{AreIn, Each, Fills, FillsAs, Found, Spells, fits, passed, spells-change, spells-each, spells-line, spells-lines, spells-pair}
use Rattle.sg_plan.specs.Fates.{paper_fits}
use Rattle.sg_record.specs.Formed.{are_columns, has_columns}
use Rattle.sg_record.specs.Tree.{as_place, code_leaf, indexed, paper_tree}
use Rattle.sg_record.specs.inside.Parts.{paper_lines}
use Rattle.std.specs.Option.{option_map_or}
use Rattle.sg_plan.proofs.LimitLaws.{passes_tests}
use Rattle.sg_plan.proofs.Lists.{first_fault-None}
use Rattle.sg_plan.specs.Names.{is_name_word}
use Rattle.sg_plan.specs.declared.plan.Style.{Style}
use Rattle.sg_grammar.proofs.Each.{each-empty, each-first, each-skip}
use Rattle.sg_plan.proofs.FateLists.{has_among}

pub numbered-same : {A : Type 0} (f g : ℕ → List A) (at count : ℕ) → ((k : ℕ) → at ≤ k → f k ≡ g k) → numbered f at count ≡ numbered g at count
unfolding numbered
numbered-same f g at zero same = refl
numbered-same f g at (suc count) same =
    ap (λ l. l ++ numbered f (at + 1) count) (same at (omega arith)) ∙ ap (λ l. g at ++ l) (numbered-same f g (at + 1) count (λ k after. same k (omega arith)))

-- no rising number is below the least
rises-none : (least end k : ℕ) (ns : List ℕ) → rises least end ns ≡ true → k < least → list_any (λ n. n == k) ns ≡ false
rises-none least end k [] rise below = refl
rises-none least end k (n ∷ ns) rise below =
    let parts = and_parts (nat_le least n && nat_lt n end) (rises (n + 1) end ns) rise in
    let first = leb-true least n (and_parts (nat_le least n) (nat_lt n end) parts.0).0 in
    rw (ne_eqb n k (λ e. omega (arith, first, e)), rises-none (n + 1) end k ns parts.1 (omega (arith, first))) refl

-- the list of a number that is among these
among : {A : Type 0} → (ℕ → List A) → List ℕ → ℕ → List A
among f races race = cond (list_any (λ r. r == race) races) (f race) []

-- behind the first of them the others count
among-behind : {A : Type 0} (f : ℕ → List A) (first : ℕ) (races : List ℕ) (k : ℕ) → first + 1 ≤ k → among f (first ∷ races) k ≡ among f races k
unfolding among
among-behind f first races k after = rw (ne_eqb first k (λ e. omega (arith, e))) refl

among-rise : {A : Type 0} (f : ℕ → List A) (races : List ℕ) (at end : ℕ) → rises at end races ≡ true → numbered (among f races) at (end - at) ≡ flat_map f races
unfolding among
among-rise f [] at end rise = each-empty (among f []) at (end - at) end refl (λ k after before. refl)
among-rise f (race ∷ races) at end rise =
    let parts = and_parts (nat_le at race && nat_lt race end) (rises (race + 1) end races) rise in
    let within = and_parts (nat_le at race) (nat_lt race end) parts.0 in
    let low = leb-true at race within.0 in
    let high = ltb-true race end within.1 in
    let skip : numbered (among f (race ∷ races)) at (end - at) ≡ numbered (among f (race ∷ races)) race (end - race)
    = each-skip (among f (race ∷ races)) at (race - at) race end (omega (arith, low)) (omega (arith, high))
    (λ k after before. rw (ne_eqb race k (λ e. omega (arith, e)), rises-none (race + 1) end k races parts.1 (omega arith)) refl) in
    let here : among f (race ∷ races) race ≡ f race = rw (eq-eqb race race refl) refl in
    let rest : numbered (among f (race ∷ races)) (race + 1) (end - (race + 1)) ≡ flat_map f races
    = numbered-same (among f (race ∷ races)) (among f races) (race + 1) (end - (race + 1)) (among-behind f race races) ∙ among-rise f races (race + 1) end parts.1 in
    skip ∙ (each-first (among f (race ∷ races)) race end high
    ∙ (ap (λ l. l ++ numbered (among f (race ∷ races)) (race + 1) (end - (race + 1))) here ∙ ap (λ l. f race ++ l) rest))

-- the races of a style rise
style_rises : (end : ℕ) (earlier styles : List Style) (k : ℕ) → each_keeps (style_fits end) earlier styles ≡ true
    → rises 0 end (option_map_or (λ (s : Style). s.races) (slice_get styles k) []) ≡ true
style_rises end earlier [] k kept = refl
style_rises end earlier (style ∷ styles) zero kept =
    let fits = and_parts (style_fits end earlier style) (each_keeps (style_fits end) (earlier ++ style ∷ []) styles) kept in
    let keeps = and_parts (nat_lt (length earlier) 32) (style_keeps end earlier style) fits.0 in
    let sides = and_parts (is_name_word style.name && not (styles_have earlier style.name)) (nat_le 1 (length style.races) && rises 0 end style.races) keeps.1 in
    (and_parts (nat_le 1 (length style.races)) (rises 0 end style.races) sides.1).1
style_rises end earlier (style ∷ styles) (suc k) kept =
    style_rises end (earlier ++ style ∷ []) styles k (and_parts (style_fits end earlier style) (each_keeps (style_fits end) (earlier ++ style ∷ []) styles) kept).1

-- and so do those of a ballot
ballot_rises : (plan : Plan) (ballot : ℕ) → fault_of plan ≡ None → rises 0 (length plan.races) (races_of_ballot plan ballot) ≡ true
ballot_rises plan ballot fine = at_style (style_of_ballot plan ballot)
  where
    at_style : (o : Option ℕ) → rises 0 (length plan.races) (option_map_or (races_of_style plan) o []) ≡ true
    at_style None = refl
    at_style (Some style) =
        style_rises (length plan.races) [] plan.styles style (first_fault-None (style_fits (length plan.races)) plan.styles (passes_tests plan fine).styles).1

-- what each race that a ballot has gives, race by race
pub ballot-each : {A : Type 0} (plan : Plan) (ballot : ℕ) (f : ℕ → List A) → fault_of plan ≡ None
    → each (λ race. cond (ballot_has plan ballot race) (f race) []) 0 (length plan.races) ≡ flat_map f (races_of_ballot plan ballot)
unfolding among
ballot-each plan ballot f fine =
    numbered-same (λ race. cond (ballot_has plan ballot race) (f race) []) (among f (races_of_ballot plan ballot)) 0 (length plan.races - 0)
    (λ race after. ap (λ b. cond b (f race) []) (has_among plan ballot race))
    ∙ among-rise f (races_of_ballot plan ballot) 0 (length plan.races) (ballot_rises plan ballot fine)

-- THE CODES OF A RACE

abbrev pub is_code_slot : Slot → Bool
is_code_slot (slot.Code kind ballot race column) = true
is_code_slot due = false

pub numbered-all : {A : Type 0} (test : A → Bool) (f : ℕ → List A) (at count : ℕ) → ((k : ℕ) → list_all test (f k) ≡ true) → list_all test (numbered f at count) ≡ true
unfolding numbered
numbered-all test f at zero all = refl
numbered-all test f at (suc count) all =
    list_all-append test (f at) (numbered f (at + 1) count) ∙ and_from (list_all test (f at)) (list_all test (numbered f (at + 1) count)) (all at) (numbered-all test f (at + 1) count all)

-- the code is of this column
abbrev IsAt : Plan → ℕ → ℕ → CodeLine → Type 0
IsAt plan race column code = ((code.race == race && code.column == column) && is_code plan code.code) ≡ true

column-spells : (plan : Plan) (kind : Block) (ballot race column : ℕ) → Spells plan.version (IsAt plan race column) (λ (code : CodeLine). Code code ∷ []) (λ (code : CodeLine). code_leaf as_place kind ballot code ∷ []) (code_line kind ballot race column)
column-spells plan kind ballot race column =
    spells-line plan.version (IsAt plan race column) Code (code_leaf as_place kind ballot) (slot.Code kind ballot race column)
    (λ code is.
    let test = (and_parts (code.race == race && code.column == column) (is_code plan code.code) is).0 in
    let names = and_parts (code.race == race) (code.column == column) test in
    let in_race : code.race ≡ race = eqb-true code.race race names.0 in
    let in_column : code.column ≡ column = eqb-true code.column column names.1 in
    rw test (ap (λ (r : ℕ). Some (CodeAt kind ballot r column code)) (sym in_race) ∙ ap (λ (k : ℕ). Some (CodeAt kind ballot code.race k code)) (sym in_column)))
    from
    (λ x y p q same. cc)
  where
    from : (said : Said) → fits (slot.Code kind ballot race column) said ≡ true → IsInRange plan.version said → (x : CodeLine) × IsAt plan race column x × (said ≡ Code x)
    from (Code code) there fit = (
      code,
      and_from (code.race == race && code.column == column) (is_code plan code.code) (passed (code.race == race && code.column == column) (CodeAt kind ballot race column code) there)
          (lt-ltb code.code (codes_of plan.version) fit.3),
      refl,
    )
    from said there fit = cc

-- a list of one item for each of a list
indexed-map : {A B : Type 0} (f : A → B) (at : ℕ) (xs : List A) → indexed (λ (k : ℕ) (x : A). f x ∷ []) at xs ≡ map f xs
unfolding indexed
indexed-map f at [] = refl
indexed-map f at (x ∷ xs) = ap (λ l. f x ∷ l) (indexed-map f (at + 1) xs)

columns-each : (plan : Plan) (race : ℕ) (codes : List CodeLine) → has_columns plan race codes ≡ true → Each (IsAt plan race) 0 (candidates_of plan race - 0) codes
columns-each plan race codes passes =
    let parts = and_parts (length codes == candidates_of plan race) _ passes in
    let many = eqb-true (length codes) (candidates_of plan race) parts.0 in
    Each-from_test (IsAt plan race) (λ column code. (code.race == race && code.column == column) && is_code plan code.code) (λ column code is. is) 0 (candidates_of plan race - 0) codes
    (omega (arith, many)) parts.1

columns-from_each : (plan : Plan) (race : ℕ) (codes : List CodeLine) → Each (IsAt plan race) 0 (candidates_of plan race - 0) codes → has_columns plan race codes ≡ true
columns-from_each plan race codes each =
    and_from (length codes == candidates_of plan race) _
    (eq-eqb (length codes) (candidates_of plan race) (omega (arith, Each-length (IsAt plan race) 0 (candidates_of plan race - 0) codes each)))
    (test-from_Each (IsAt plan race) (λ column code. (code.race == race && code.column == column) && is_code plan code.code) (λ column code is. is) 0 (candidates_of plan race - 0) codes each)

-- the codes of a race
abbrev pub HasColumns : Plan → ℕ → List CodeLine → Type 0
HasColumns plan race codes = has_columns plan race codes ≡ true

pub columns-spells : (plan : Plan) (kind : Block) (ballot race : ℕ)
    → Spells plan.version (HasColumns plan race) (map Code) (map (code_leaf as_place kind ballot)) (race_codes plan kind ballot race)
columns-spells plan kind ballot race =
    let line : ℕ → CodeLine → List Said = λ column code. Code code ∷ [] in
    let spot : ℕ → CodeLine → List Placed = λ column code. code_leaf as_place kind ballot code ∷ [] in
    let count = candidates_of plan race - 0 in
    spells-lines plan.version (HasColumns plan race) (indexed line 0) (map Code) (indexed spot 0) (map (code_leaf as_place kind ballot)) (race_codes plan kind ballot race)
    (λ codes passes. indexed-map Code 0 codes) (λ codes passes. indexed-map (code_leaf as_place kind ballot) 0 codes)
    (spells-change plan.version (Each (IsAt plan race) 0 count) (HasColumns plan race) (indexed line 0) (indexed spot 0) (race_codes plan kind ballot race)
    (λ codes. codes) (columns-each plan race) (λ codes each. (codes, columns-from_each plan race codes each, refl)) (λ x y p q same. same)
    (spells-each plan.version (IsAt plan race) line spot (code_line kind ballot race) (column-spells plan kind ballot race) 0 count))

-- THE CODES OF RACES, ONE AFTER ANOTHER

abbrev pub AreColumns : Plan → List ℕ → List CodeLine → Type 0
AreColumns plan races codes = are_columns plan races codes ≡ true

-- what is made of the items of a list in two parts
map-split : {A B : Type 0} (f : A → B) (count : ℕ) (xs : List A) → map f (take count xs) ++ map f (drop count xs) ≡ map f xs
map-split f count xs = sym (map-append f (take count xs) (drop count xs)) ∙ ap (map f) (take-append-drop count xs)

-- the codes of the first race, and those of the others
abbrev Split : Plan → ℕ → List ℕ → List CodeLine × List CodeLine → Type 0
Split plan race races p = HasColumns plan race p.0 × AreColumns plan races p.1

split-joined : (plan : Plan) (race : ℕ) (races : List ℕ) (p : List CodeLine × List CodeLine) → Split plan race races p
    → (y : List CodeLine) × AreColumns plan (race ∷ races) y × ((take (candidates_of plan race) y, drop (candidates_of plan race) y) ≡ p)
split-joined plan race races p passes =
    let count = candidates_of plan race in
    let many = eqb-true (length p.0) count (and_parts (length p.0 == count) _ passes.0).0 in
    let front : take count (p.0 ++ p.1) ≡ p.0 = ap (λ n. take n (p.0 ++ p.1)) (sym many) ∙ take-append_seam p.0 p.1 in
    let back : drop count (p.0 ++ p.1) ≡ p.1 = ap (λ n. drop n (p.0 ++ p.1)) (sym many) ∙ drop-append_seam p.0 p.1 in (
      p.0 ++ p.1,
      rw (front, back) (and_from (has_columns plan race p.0) (are_columns plan races p.1) passes.0 passes.1),
      ap (λ l. (l, drop count (p.0 ++ p.1))) front ∙ ap (λ l. (p.0, l)) back,
    )

pub races-spells : (plan : Plan) (kind : Block) (ballot : ℕ) (races : List ℕ) → Spells plan.version (AreColumns plan races) (map Code) (map (code_leaf as_place kind ballot)) (flat_map (race_codes plan kind ballot) races)
races-spells plan kind ballot [] = record { out = out; back = back; one = one }
  where
    out : (codes : List CodeLine) → AreColumns plan [] codes → FillsAs [] (map Code codes) (map (code_leaf as_place kind ballot) codes)
    out [] none = tt
    out (code ∷ codes) none = absurd (omega (arith, eqb-true (length (code ∷ codes)) 0 none))

    back : (lines : List Said) → Fills [] lines → AreIn plan.version lines → Found (AreColumns plan []) (map Code) lines
    back [] fills all = record { item = []; passes = refl; is = refl }
    back (said ∷ lines) fills all = absurd fills

    one : (x y : List CodeLine) → AreColumns plan [] x → AreColumns plan [] y → map Code x ≡ map Code y → x ≡ y
    one [] [] p q same = refl
    one [] (y ∷ ys) p q same = cc
    one (x ∷ xs) ys p q same = absurd (omega (arith, eqb-true (length (x ∷ xs)) 0 p))
races-spells plan kind ballot (race ∷ races) =
    let count = candidates_of plan race in
    let due : List Slot = flat_map (race_codes plan kind ballot) (race ∷ races) in
    let lines : List CodeLine × List CodeLine → List Said = λ p. map Code p.0 ++ map Code p.1 in
    let places : List CodeLine × List CodeLine → List Placed = λ p. map (code_leaf as_place kind ballot) p.0 ++ map (code_leaf as_place kind ballot) p.1 in
    let split : List CodeLine → List CodeLine × List CodeLine = λ codes. (take count codes, drop count codes) in
    spells-lines plan.version (AreColumns plan (race ∷ races)) (λ codes. lines (split codes)) (map Code) (λ codes. places (split codes)) (map (code_leaf as_place kind ballot)) due
    (λ codes passes. map-split Code count codes) (λ codes passes. map-split (code_leaf as_place kind ballot) count codes)
    (spells-change plan.version (Split plan race races) (AreColumns plan (race ∷ races)) lines places due split
    (λ codes passes. and_parts (has_columns plan race (take count codes)) (are_columns plan races (drop count codes)) passes)
    (split-joined plan race races)
    (λ x y p q same. sym (take-append-drop count x) ∙ (ap (λ (z : List CodeLine × List CodeLine). z.0 ++ z.1) same ∙ take-append-drop count y))
    (spells-pair plan.version (HasColumns plan race) (AreColumns plan races) (map Code) (map Code) (map (code_leaf as_place kind ballot)) (map (code_leaf as_place kind ballot))
    (race_codes plan kind ballot race) (flat_map (race_codes plan kind ballot) races) (columns-spells plan kind ballot race) (races-spells plan kind ballot races)))

-- PAPERS

unfoldable pub paper_slots : Plan → ℕ → List ℕ → List Slot
paper_slots plan ballot races = flat_map (λ race. slot.Paper ballot race (candidates_of plan race) ∷ []) races

papers-as : (plan : Plan) (ballot : ℕ) (races : List ℕ) (papers : List (List ℕ)) → paper_fits plan races papers ≡ true
    → FillsAs (paper_slots plan ballot races) (paper_lines races papers) (paper_tree as_place ballot races papers)
unfolding paper_slots
papers-as plan ballot [] [] passes = tt
papers-as plan ballot [] (list ∷ papers) passes = cc
papers-as plan ballot (race ∷ races) [] passes = cc
papers-as plan ballot (race ∷ races) (list ∷ papers) passes =
    let parts = and_parts (length list == candidates_of plan race && list_all (is_code plan) list) (paper_fits plan races papers) passes in
    let tests = and_parts (length list == candidates_of plan race) (list_all (is_code plan) list) parts.0 in
    (rw (eq-eqb race race refl, tests.0) refl, papers-as plan ballot races papers parts.1)

are_codes : (plan : Plan) (list : List ℕ) → All (IsCode plan.version) list → list_all (is_code plan) list ≡ true
are_codes plan [] all = refl
are_codes plan (code ∷ list) all =
    and_from (is_code plan code) (list_all (is_code plan) list) (lt-ltb code (codes_of plan.version) (All-head (IsCode plan.version) code list all))
    (are_codes plan list (All-tail (IsCode plan.version) code list all))

papers-back : (plan : Plan) (ballot : ℕ) (races : List ℕ) (lines : List Said) → Fills (paper_slots plan ballot races) lines → AreIn plan.version lines
    → Found (λ (papers : List (List ℕ)). paper_fits plan races papers ≡ true) (paper_lines races) lines
unfolding paper_slots
papers-back plan ballot [] [] fills all = record { item = []; passes = refl; is = refl }
papers-back plan ballot [] (said ∷ lines) fills all = absurd fills
papers-back plan ballot (race ∷ races) [] fills all = absurd fills
papers-back plan ballot (race ∷ races) (Paper named list ∷ lines) fills all =
    let rest = papers-back plan ballot races lines fills.1 all.1 in
    let tests = and_parts (named == race) (length list == candidates_of plan race)
    (passed (named == race && length list == candidates_of plan race) (PaperAt ballot race list) fills.0) in
    let same : named ≡ race = eqb-true named race tests.0 in
    record {
      item = list ∷ rest.item;
      passes = and_from (length list == candidates_of plan race && list_all (is_code plan) list) (paper_fits plan races rest.item)
          (and_from (length list == candidates_of plan race) (list_all (is_code plan) list) tests.1 (are_codes plan list all.0.1)) rest.passes;
      is = ap (λ r. Paper r list ∷ lines) same ∙ ap (λ l. Paper race list ∷ l) rest.is;
    }
papers-back plan ballot (race ∷ races) (said ∷ lines) fills all = absurd (no_paper fills.0)
  where
    no_paper : false ≡ true → ⊥
    no_paper e = cc

papers-one : (plan : Plan) (races : List ℕ) (xs ys : List (List ℕ)) → paper_fits plan races xs ≡ true → paper_fits plan races ys ≡ true → paper_lines races xs ≡ paper_lines races ys → xs ≡ ys
papers-one plan [] [] [] p q same = refl
papers-one plan [] (x ∷ xs) ys p q same = cc
papers-one plan [] [] (y ∷ ys) p q same = cc
papers-one plan (race ∷ races) [] ys p q same = cc
papers-one plan (race ∷ races) (x ∷ xs) [] p q same = cc
papers-one plan (race ∷ races) (x ∷ xs) (y ∷ ys) p q same =
    let first : x ≡ y = cc in
    let others : paper_lines races xs ≡ paper_lines races ys = cc in
    let some = and_parts (length x == candidates_of plan race && list_all (is_code plan) x) (paper_fits plan races xs) p in
    let more = and_parts (length y == candidates_of plan race && list_all (is_code plan) y) (paper_fits plan races ys) q in
    ap (λ z. z ∷ xs) first ∙ ap (λ l. y ∷ l) (papers-one plan races xs ys some.1 more.1 others)

pub papers-spells : (plan : Plan) (ballot : ℕ) (races : List ℕ)
    → Spells plan.version (λ (papers : List (List ℕ)). paper_fits plan races papers ≡ true) (paper_lines races) (paper_tree as_place ballot races) (paper_slots plan ballot races)
papers-spells plan ballot races = record { out = papers-as plan ballot races; back = papers-back plan ballot races; one = papers-one plan races }

-- AN AUDITED BALLOT

-- its papers and its codes
abbrev pub Audit : Type 0
Audit = List (List ℕ) × List CodeLine

abbrev pub IsAudit : Plan → ℕ → Audit → Type 0
IsAudit plan ballot a = (paper_fits plan (races_of_ballot plan ballot) a.0 ≡ true) × AreColumns plan (races_of_ballot plan ballot) a.1

abbrev pub audit_lines : Plan → ℕ → Audit → List Said
audit_lines plan ballot a = paper_lines (races_of_ballot plan ballot) a.0 ++ map Code a.1

abbrev pub audit_places : Plan → ℕ → Audit → List Placed
audit_places plan ballot a = paper_tree as_place ballot (races_of_ballot plan ballot) a.0 ++ map (code_leaf as_place block.Audited ballot) a.1

-- the codes of its races
abbrev pub audit_codes : Plan → ℕ → List Slot
audit_codes plan ballot = flat_map (race_codes plan block.Audited ballot) (races_of_ballot plan ballot)

-- what is due of it is due of its races
pub audit-due : (plan : Plan) (ballot : ℕ) → fault_of plan ≡ None → due_audit plan ballot ≡ paper_slots plan ballot (races_of_ballot plan ballot) ++ audit_codes plan ballot
unfolding paper_slots
audit-due plan ballot fine =
    rw (ballot-each plan ballot (λ race. slot.Paper ballot race (candidates_of plan race) ∷ []) fine, ballot-each plan ballot (race_codes plan block.Audited ballot) fine) refl

pub due_audit-spells : (plan : Plan) (ballot : ℕ) → fault_of plan ≡ None → Spells plan.version (IsAudit plan ballot) (audit_lines plan ballot) (audit_places plan ballot) (due_audit plan ballot)
due_audit-spells plan ballot fine =
    rw (audit-due plan ballot fine)
    (spells-pair plan.version (λ (papers : List (List ℕ)). paper_fits plan (races_of_ballot plan ballot) papers ≡ true) (AreColumns plan (races_of_ballot plan ballot))
    (paper_lines (races_of_ballot plan ballot)) (map Code) (paper_tree as_place ballot (races_of_ballot plan ballot)) (map (code_leaf as_place block.Audited ballot))
    (paper_slots plan ballot (races_of_ballot plan ballot)) (audit_codes plan ballot)
    (papers-spells plan ballot (races_of_ballot plan ballot)) (races-spells plan block.Audited ballot (races_of_ballot plan ballot)))
