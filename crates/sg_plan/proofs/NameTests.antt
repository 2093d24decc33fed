-- The tests of names say what the definitions say.
use Rattle.std.proofs.Common.{◌≡◌, ℕ, ◌≤◌, true, List, length, ◌↔◌, IsTrue, nat_le}
use Rattle.std.proofs.lemmas.Bool.{and_parts, and_from, leb-true, le-leb}
use Rattle.std.proofs.lemmas.List.Sums.{AllPass-from_list_all, list_all-from_AllPass}
use Rattle.std.specs.List.{list_all}
use Rattle.sg_plan.specs.Names.{IsName, is_name_word, is_within}

pub is_within-true : (least most n : ℕ) → is_within least most n ≡ true → (least ≤ n) × (n ≤ most)
is_within-true least most n e = let both = and_parts (nat_le least n) (nat_le n most) e in (leb-true least n both.0, leb-true n most both.1)

pub true-is_within : (least most n : ℕ) → least ≤ n → n ≤ most → is_within least most n ≡ true
true-is_within least most n low high = and_from (nat_le least n) (nat_le n most) (le-leb least n low) (le-leb n most high)

-- a word that passes the test is a name
pub is_name_word-true : (word : List ℕ) → is_name_word word ≡ true → IsName word
is_name_word-true word e =
    let both = and_parts (is_within 1 64 (length word)) (list_all (is_within 0x21 0x7E) word) e in
    let long = is_within-true 1 64 (length word) both.0 in
    let pass = AllPass-from_list_all (is_within 0x21 0x7E) word both.1 in
    (long.0, long.1, λ k d within. is_within-true 0x21 0x7E _ (pass k d within))

-- a name passes the test
pub true-is_name_word : (word : List ℕ) → IsName word → is_name_word word ≡ true
true-is_name_word word name =
    and_from (is_within 1 64 (length word)) (list_all (is_within 0x21 0x7E) word)
    (true-is_within 1 64 (length word) name.0 name.1)
    (list_all-from_AllPass (is_within 0x21 0x7E) word (λ k d within. let byte = name.2 k d within in true-is_within 0x21 0x7E _ byte.0 byte.1))

-- the test and the definition of a name agree
pub name_test : (word : List ℕ) → IsTrue (is_name_word word) ↔ IsName word
name_test word = (is_name_word-true word, true-is_name_word word)
