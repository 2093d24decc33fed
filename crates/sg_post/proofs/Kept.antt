-- What is kept of the marks, and what stands at a number.
use Rattle.std.proofs.Common.{◌≡◌, ℕ, ◌+◌, ◌<◌, ◌==◌, Bool, true, false, ◌&&◌, ◌||◌, cond, inl, inr, List, [], ◌∷◌, length, map, get_or, set, length-set, slice_get, Some, sym, ap, ◌∙◌, arith}
use Rattle.std.specs.Prelude.{replicate}
use Rattle.std.proofs.lemmas.Option.{get_or_from_slice_get, slice_get_within}
use Rattle.std.specs.List.{list_any}
use Rattle.std.proofs.lemmas.Bool.{cases_eq, eq-eqb, ne_eqb}
use Rattle.std.proofs.lemmas.List.{get_or-set_other, get_or-set_same, get_or-replicate, length-replicate, same_lists}
use Rattle.std.proofs.lemmas.List.Folds.{list_any-append}
use Rattle.std.proofs.Math.Bool.{or-false, or-true, and-false}
use Rattle.sg_plan.specs.Ballots.{entries_of}
use Rattle.sg_plan.specs.declared.plan.Plan.{Plan}
use Rattle.sg_streams.specs.Numbers.{numbers_below}
use Rattle.sg_streams.proofs.NumberLists.{numbers_below-none, numbers_below-push}
use Rattle.sg_tables.proofs.Lists.{get_or-map_below, length-map_below}
use Rattle.sg_tables.specs.Tables.{path_of}
use Rattle.sg_post.specs.inside.Making.{has_bit, leads_to, places_by}

-- with one more entry a place is set where it was set, or where this entry leads to it
pub leads-more : (plan : Plan) (seed : List ℕ) (race : ℕ) (marks : List Bool) (place entry : ℕ)
    → list_any (leads_to plan seed race marks place) (numbers_below (entry + 1)) ≡ (list_any (leads_to plan seed race marks place) (numbers_below entry) || (leads_to plan seed race marks place entry || false))
leads-more plan seed race marks place entry =
    ap (list_any (leads_to plan seed race marks place)) (numbers_below-push entry) ∙ list_any-append (leads_to plan seed race marks place) (numbers_below entry) (entry ∷ [])

pub map-same : {A : Type 0} (f g : ℕ → A) (count : ℕ) (d : A) → ((k : ℕ) → k < count → f k ≡ g k) → map f (numbers_below count) ≡ map g (numbers_below count)
map-same f g count d same =
    same_lists (map f (numbers_below count)) (map g (numbers_below count)) (length-map_below f count ∙ sym (length-map_below g count))
    (λ k e inside. let less : k < count = omega (arith, inside, length-map_below f count) in get_or-map_below f count k e less ∙ (same k less ∙ sym (get_or-map_below g count k e less)))

-- an entry that is not marked sets no place
pub places-same : (plan : Plan) (seed : List ℕ) (race entry : ℕ) (marks : List Bool) → has_bit marks entry ≡ false
    → places_by plan seed race marks entry ≡ places_by plan seed race marks (entry + 1)
places-same plan seed race entry marks none =
    map-same (λ place. list_any (leads_to plan seed race marks place) (numbers_below entry)) (λ place. list_any (leads_to plan seed race marks place) (numbers_below (entry + 1))) (entries_of plan race) false
    (λ place less. sym (leads-more plan seed race marks place entry
    ∙ (ap (λ (b : Bool). list_any (leads_to plan seed race marks place) (numbers_below entry) || ((path_of plan seed race entry == place && b) || false)) none
    ∙ (ap (λ (b : Bool). list_any (leads_to plan seed race marks place) (numbers_below entry) || (b || false)) (and-false (path_of plan seed race entry == place))
    ∙ or-false (list_any (leads_to plan seed race marks place) (numbers_below entry))))))

-- a marked one sets its own
pub places-set : (plan : Plan) (seed : List ℕ) (race entry : ℕ) (marks : List Bool) → has_bit marks entry ≡ true → path_of plan seed race entry < entries_of plan race
    → set (places_by plan seed race marks entry) (path_of plan seed race entry) true ≡ places_by plan seed race marks (entry + 1)
places-set plan seed race entry marks marked within =
    let before = λ (place : ℕ). list_any (leads_to plan seed race marks place) (numbers_below entry) in
    let after = λ (place : ℕ). list_any (leads_to plan seed race marks place) (numbers_below (entry + 1)) in
    let at = path_of plan seed race entry in
    let n = entries_of plan race in
    let list = map before (numbers_below n) in
    let long : length (set list at true) ≡ n = length-set list at true ∙ length-map_below before n in
    same_lists (set list at true) (map after (numbers_below n)) (long ∙ sym (length-map_below after n))
    (λ place d inside.
    let less : place < n = omega (arith, inside, long) in
    let now : after place ≡ (before place || (at == place && true)) =
    leads-more plan seed race marks place entry ∙ (ap (λ (b : Bool). before place || b) (or-false (at == place && has_bit marks entry)) ∙ ap (λ (b : Bool). before place || (at == place && b)) marked) in
    elim (cases_eq place at) [
      | inl here ↦
          ap (λ (k : ℕ). get_or (set list at true) k d) here
          ∙ (get_or-set_same list at true d (omega (arith, within, length-map_below before n))
          ∙ sym (get_or-map_below after n place d less ∙ (now ∙ (ap (λ (b : Bool). before place || (b && true)) (eq-eqb at place (sym here)) ∙ or-true (before place)))))
      | inr other ↦
          get_or-set_other list at place true d other
          ∙ (get_or-map_below before n place d less
          ∙ sym (get_or-map_below after n place d less ∙ (now ∙ (ap (λ (b : Bool). before place || (b && true)) (ne_eqb at place (λ same. other (sym same))) ∙ or-false (before place)))))
    ])

-- one more entry
pub places-next : (plan : Plan) (seed : List ℕ) (race entry : ℕ) (marks : List Bool) (is_marked : Bool) → has_bit marks entry ≡ is_marked → path_of plan seed race entry < entries_of plan race
    → cond is_marked (set (places_by plan seed race marks entry) (path_of plan seed race entry) true) (places_by plan seed race marks entry) ≡ places_by plan seed race marks (entry + 1)
places-next plan seed race entry marks true is within = places-set plan seed race entry marks is within
places-next plan seed race entry marks false is within = places-same plan seed race entry marks is

-- no place is set before the first entry
replicate-map : (n : ℕ) → replicate n false ≡ map (λ (k : ℕ). false) (numbers_below n)
replicate-map n = same_lists (replicate n false) (map (λ (k : ℕ). false) (numbers_below n)) (length-replicate n false ∙ sym (length-map_below (λ (k : ℕ). false) n))
    (λ k d inside. let less : k < n = omega (arith, inside, length-replicate n false) in get_or-replicate n k false d less ∙ sym (get_or-map_below (λ (j : ℕ). false) n k d less))

pub places-none : (plan : Plan) (seed : List ℕ) (race : ℕ) (marks : List Bool) → replicate (entries_of plan race) false ≡ places_by plan seed race marks 0
places-none plan seed race marks =
    replicate-map (entries_of plan race)
    ∙ map-same (λ place. false) (λ place. list_any (leads_to plan seed race marks place) (numbers_below 0)) (entries_of plan race) false (λ place less. sym (ap (list_any (leads_to plan seed race marks place)) numbers_below-none))

-- WHAT STANDS AT A NUMBER

pub item-in : {A : Type 0} (list : List A) (f : ℕ → A) (n k : ℕ) (x : A) → list ≡ map f (numbers_below n) → slice_get list k ≡ Some x → x ≡ f k
item-in list f n k x is found =
    let within : k < n = omega (arith, slice_get_within list k x found, ap length is, length-map_below f n) in
    sym (get_or_from_slice_get list k x x found) ∙ (ap (λ l. get_or l k x) is ∙ get_or-map_below f n k x within)
