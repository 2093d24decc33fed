-- A list of words at the end of a line is read into an array, one word after another.
use Rattle.std.proofs.Common.{◌≡◌, ℕ, ◌+◌, ◌-◌, ◌<◌, ◌≤◌, ◌≢◌, Bool, true, false, cond, List, [], ◌∷◌, ◌++◌, length, take, drop, slice_set, replicate, Option, None, Some, refl, sym, ap, ◌∙◌, arith, append_assoc}
use Rattle.std.proofs.lemmas.Bool.Decides.{nat_tests}
use Rattle.std.proofs.lemmas.Iterator.Adapters.{option_map_id}
use Rattle.std.proofs.lemmas.List.{take_more_set, append-nil, drop-drop, drop-set-lt, drop-replicate, length-replicate}
use Rattle.std.proofs.Math.ListN.{length-set}
use Rattle.std.specs.Option.{option_map, option_and_then}
use Rattle.sg_forms.specs.Reading.{all_by, few_by, is_few}
use Rattle.sg_forms.specs.Zeros.{IsZeroBehind}

-- the first `count` elements of the array are read from the words before `words`
pub record IsReadTo (read : List ℕ → Option ℕ) (most : ℕ) (list : List ℕ) (count : ℕ) (words all : List (List ℕ)) : Type 0 where
  pub few : count ≤ most
  pub size : length list ≡ most
  pub rest : option_map (λ values. take count list ++ values) (all_by read words) ≡ all_by read all
  pub counted : count + length words ≡ length all
  pub zeros : IsZeroBehind most count list

-- nothing is read yet
pub read_start : (read : List ℕ → Option ℕ) (most : ℕ) (all : List (List ℕ)) → IsReadTo read most (replicate most 0) 0 all all
read_start read most all = record {
  few = omega arith;
  size = length-replicate most 0;
  rest = option_map_id (all_by read all);
  counted = omega arith;
  zeros = drop-replicate 0 most 0;
}

-- a value behind the front
one_more : (front longer : List ℕ) (value : ℕ) (rest : Option (List ℕ)) → longer ≡ front ++ value ∷ []
    → option_map (λ values. longer ++ values) rest ≡ option_map (λ values. front ++ values) (option_map (λ values. value ∷ values) rest)
one_more front longer value None is = refl
one_more front longer value (Some values) is = ap Some (ap (λ list. list ++ values) is ∙ append_assoc front (value ∷ []) values)

-- what is read from the words behind one that is read
all_behind : (read : List ℕ → Option ℕ) (value : ℕ) (word : List ℕ) (words now : List (List ℕ)) → now ≡ word ∷ words → Some value ≡ read word
    → all_by read now ≡ option_map (λ values. value ∷ values) (all_by read words)
all_behind read value word words now is found =
    ap (all_by read) is ∙ ap (option_and_then (λ v. option_map (λ values. v ∷ values) (all_by read words))) (sym found)

-- a value behind the front leaves the zeros behind it
zeros_behind : (most count value : ℕ) (list : List ℕ) → IsZeroBehind most count list → IsZeroBehind most (count + 1) (slice_set list count value)
zeros_behind most count value list zeros =
    drop-set-lt (count + 1) list count value (omega arith)
    ∙ sym (drop-drop 1 count list)
    ∙ ap (drop 1) zeros
    ∙ drop-replicate 1 (most - count) 0
    ∙ ap (λ n. replicate n 0) (let e : most - count - 1 ≡ most - (count + 1) = omega arith in e)

-- one word more is read
pub read_more : (read : List ℕ → Option ℕ) (most : ℕ) (list : List ℕ) (count value : ℕ) (word : List ℕ) (words now all : List (List ℕ))
    → IsReadTo read most list count now all → now ≡ word ∷ words → Some value ≡ read word → count ≢ most
    → IsReadTo read most (slice_set list count value) (count + 1) words all
read_more read most list count value word words now all before is found room = record {
  few = omega arith;
  size = length-set list count value ∙ before.size;
  rest =
      one_more (take count list) (take (count + 1) (slice_set list count value)) value (all_by read words) (take_more_set list count value (omega arith))
      ∙ ap (option_map (λ values. take count list ++ values)) (sym (all_behind read value word words now is found))
      ∙ before.rest;
  counted = omega (arith, ap length is);
  zeros = zeros_behind most count value list before.zeros;
}

-- nothing is read where one of the words is not
few_nothing : (read : List ℕ → Option ℕ) (most : ℕ) (all : List (List ℕ)) → all_by read all ≡ None → few_by read most all ≡ None
few_nothing read most all none = either_none (is_few most all) (all_by read all) none where
  either_none : (b : Bool) (o : Option (List ℕ)) → o ≡ None → cond b o None ≡ None
  either_none true o is = is
  either_none false o is = refl

-- too few or too many words are no list
few_outside : (read : List ℕ → Option ℕ) (most : ℕ) (all : List (List ℕ)) → is_few most all ≡ false → few_by read most all ≡ None
few_outside read most all outside = rw outside refl

-- a word is of the wrong kind
pub read_wrong : (read : List ℕ → Option ℕ) (most : ℕ) (list : List ℕ) (count : ℕ) (word : List ℕ) (words now all : List (List ℕ))
    → IsReadTo read most list count now all → now ≡ word ∷ words → None ≡ read word → few_by read most all ≡ None
read_wrong read most list count word words now all before is found =
    let none : all_by read now ≡ None = ap (all_by read) is ∙ ap (option_and_then (λ v. option_map (λ values. v ∷ values) (all_by read words))) (sym found) in
    few_nothing read most all (sym before.rest ∙ ap (option_map (λ values. take count list ++ values)) none)

-- more words than may be
too_many : (most : ℕ) (all : List (List ℕ)) → most < length all → is_few most all ≡ false
too_many most all many = grind (arith, nat_tests)

-- no word at all
no_words : (most : ℕ) (all : List (List ℕ)) → length all ≡ 0 → is_few most all ≡ false
no_words most all none = grind (arith, nat_tests)

-- as many words as may be
are_few : (most : ℕ) (all : List (List ℕ)) → 1 ≤ length all → length all ≤ most → is_few most all ≡ true
are_few most all some few = grind (arith, nat_tests)

-- there are too many words
pub read_many : (read : List ℕ → Option ℕ) (most : ℕ) (list : List ℕ) (word : List ℕ) (words now all : List (List ℕ))
    → IsReadTo read most list most now all → now ≡ word ∷ words → few_by read most all ≡ None
read_many read most list word words now all before is =
    few_outside read most all (too_many most all (omega (arith, before.counted, ap length is)))

-- there is no word
pub read_none : (read : List ℕ → Option ℕ) (most : ℕ) (list : List ℕ) (now all : List (List ℕ)) → IsReadTo read most list 0 now all → now ≡ [] → few_by read most all ≡ None
read_none read most list now all before is =
    few_outside read most all (no_words most all (omega (arith, before.counted, ap length is)))

-- all words are read
pub read_all : (read : List ℕ → Option ℕ) (most : ℕ) (list : List ℕ) (count : ℕ) (now all : List (List ℕ))
    → IsReadTo read most list count now all → now ≡ [] → count ≢ 0 → few_by read most all ≡ Some (take count list)
read_all read most list count now all before is some =
    let inside = are_few most all (omega (arith, before.counted, ap length is)) (omega (arith, before.counted, before.few, ap length is)) in
    let whole_rest : all_by read now ≡ Some [] = ap (all_by read) is in
    rw inside
    (sym before.rest ∙ ap (option_map (λ values. take count list ++ values)) whole_rest ∙ ap Some (append-nil (take count list)))

pub ruleset few_steps = (read_start, read_more, read_wrong, read_many, read_none, read_all)
