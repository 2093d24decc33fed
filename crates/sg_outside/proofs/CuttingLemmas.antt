-- How lines are found in a buffer.
use Rattle.std.proofs.Common.{◌≡◌, ℕ, zero, suc, ◌+◌, ◌-◌, ◌<◌, ◌≤◌, List, [], ◌∷◌, ◌++◌, length, take, drop, sym, ap, subst, ◌∙◌, append-nil, arith, take-add, take-take, slice_range}
use Rattle.std.proofs.lemmas.List.{drop-drop, drop_all, length-drop, take_all}
use Rattle.std.proofs.lemmas.List.Folds.{drop_split}
use Rattle.std.specs.Io.KnownBytes.{Consumes, prepend_known}
use Rattle.std.specs.Prelude.{Option}
use Rattle.std.proofs.lemmas.Bool.{eqb-true, eq-eqb}
use Rattle.memchr.specs.Find.{Nowhere, Passes, is_byte}
use Rattle.sg_outside.specs.TextLines.{HasNoFeed, IsLine, lines_of}
use Rattle.sg_outside.specs.inside.Buffer.{HasRead}
use Rattle.sg_outside.proofs.StreamLemmas.{Consumes-front, Consumes-held, Consumes-trans}
use Rattle.sg_outside.proofs.LineLemmas.{HasNoFeed-append, IsLine-append, lines_of-line, lines_of-part}

-- where a search meets no line feed there is none
pub HasNoFeed-nowhere : (xs : List ℕ) → Nowhere (Passes (is_byte 10) xs) 0 (length xs) → HasNoFeed xs
HasNoFeed-nowhere [] none = tt
HasNoFeed-nowhere (x ∷ xs) none =
    (λ e. none 0 (omega arith) (omega arith) (eq-eqb x 10 e), HasNoFeed-nowhere xs (λ k low high feed. none (suc k) (omega arith) (omega arith) feed))

-- the first line feed ends a line
pub IsLine-first : (xs : List ℕ) (k : ℕ) → k < length xs → Nowhere (Passes (is_byte 10) xs) 0 k → Passes (is_byte 10) xs k → IsLine (take (suc k) xs)
IsLine-first [] k inside none feed = absurd (omega arith)
IsLine-first (x ∷ xs) zero inside none feed = eqb-true x 10 feed
IsLine-first (x ∷ []) (suc k) inside none feed = absurd (omega arith)
IsLine-first (x ∷ y ∷ ys) (suc k) inside none feed =
    (λ e. none 0 (omega arith) (omega arith) (eq-eqb x 10 e), IsLine-first (y ∷ ys) k (omega arith) (λ q low high other. none (suc q) (omega arith) (omega arith) other) feed)

-- two ranges side by side are one
range-append : (xs : List ℕ) (i j k : ℕ) → i ≤ j → j ≤ k → slice_range xs i j ++ slice_range xs j k ≡ slice_range xs i k
range-append xs i j k p q =
    let rest : drop j xs ≡ drop (j - i) (drop i xs) = (let e : i + (j - i) ≡ j = omega arith in sym (drop-drop (j - i) i xs ∙ ap (λ n. drop n xs) e)) in
    let count : (j - i) + (k - j) ≡ k - i = omega arith in
    ap (λ l. slice_range xs i j ++ take (k - j) l) rest ∙ (sym (take-add (j - i) (k - j) (drop i xs)) ∙ ap (λ n. take n (drop i xs)) count)

-- a range from the front on
pub range_front : (xs : List ℕ) (k : ℕ) → slice_range xs 0 k ≡ take k xs
range_front xs k = (let e : k - 0 ≡ k = omega arith in ap (λ n. take n xs) e)

-- a range in the front of a range
range_in : (xs : List ℕ) (i n m : ℕ) → n ≤ m → take n (slice_range xs i (i + m)) ≡ slice_range xs i (i + n)
range_in xs i n m p =
    let all : (i + m) - i ≡ m = omega arith in
    let part : (i + n) - i ≡ n = omega arith in
    ap (λ l. take n (take l (drop i xs))) all ∙ (take-take n m (drop i xs) p ∙ ap (λ l. take l (drop i xs)) (sym part))

-- a line is cut from the bytes held
pub cut_held : (xs : List ℕ) (i j k : ℕ) (left : Option (List ℕ)) → i ≤ j → j ≤ k
    → Consumes (prepend_known (slice_range xs i k) left) (prepend_known (slice_range xs j k) left) (slice_range xs i j)
cut_held xs i j k left p q =
    Consumes-held _ left (slice_range xs i j) (slice_range xs j k)
    (subst (Consumes (prepend_known (slice_range xs i k) left) left) (sym (range-append xs i j k p q)) (Consumes-front (slice_range xs i k) left))

-- the buffer's front after a read
front_read : (old new : List ℕ) (end count : ℕ) (b c : Option (List ℕ)) → HasRead old new end count b c
    → take (end + count) new ≡ take end old ++ slice_range new end (end + count)
front_read old new end count b c read =
    sym (range_front new (end + count)) ∙ (sym (range-append new 0 end (end + count) (omega arith) (omega arith))
    ∙ ap (λ l. l ++ slice_range new end (end + count)) (range_front new end ∙ read.front))

-- what a read brings comes behind what was taken before
pub take_read : (a b c : Option (List ℕ)) (old new : List ℕ) (end count : ℕ)
    → Consumes a b (take end old) → HasRead old new end count b c → Consumes a c (take (end + count) new)
take_read a b c old new end count before read =
    subst (Consumes a c) (sym (front_read old new end count b c read)) (Consumes-trans a b c (take end old) (slice_range new end (end + count)) before read.came)

-- a line is cut from what was read
pub cut_read : (a c : Option (List ℕ)) (new : List ℕ) (cut end : ℕ) → cut ≤ end
    → Consumes a c (take end new) → Consumes a (prepend_known (slice_range new cut end) c) (slice_range new 0 cut)
cut_read a c new cut end within taken =
    let parts : take end new ≡ slice_range new 0 cut ++ slice_range new cut end =
    sym (range_front new end) ∙ sym (range-append new 0 cut end (omega arith) within) in
    Consumes-held a c (slice_range new 0 cut) (slice_range new cut end) (subst (Consumes a c) parts taken)

-- a read that brings no line feed leaves none
pub HasNoFeed-read : (old new : List ℕ) (end count : ℕ) (b c : Option (List ℕ)) → HasRead old new end count b c
    → HasNoFeed (take end old) → HasNoFeed (slice_range new end (end + count)) → HasNoFeed (take (end + count) new)
HasNoFeed-read old new end count b c read before none =
    subst HasNoFeed (sym (front_read old new end count b c read)) (HasNoFeed-append (take end old) (slice_range new end (end + count)) before none)

-- the first line feed that a read brings ends a line
pub IsLine-read : (old new : List ℕ) (end count len : ℕ) (b c : Option (List ℕ)) → HasRead old new end count b c
    → len ≤ count → HasNoFeed (take end old) → IsLine (take len (slice_range new end (end + count))) → IsLine (slice_range new 0 (end + len))
IsLine-read old new end count len b c read within before line =
    let front : slice_range new 0 end ≡ take end old = range_front new end ∙ read.front in
    let parts : slice_range new 0 (end + len) ≡ take end old ++ slice_range new end (end + len) =
    sym (range-append new 0 end (end + len) (omega arith) (omega arith)) ∙ ap (λ l. l ++ slice_range new end (end + len)) front in
    subst IsLine (sym parts) (IsLine-append (take end old) (slice_range new end (end + len)) before (subst IsLine (range_in new end len count within) line))

-- LINES OF BYTES THAT ARE THERE

-- a range up to the end
range_rest : (xs : List ℕ) (start : ℕ) → slice_range xs start (length xs) ≡ drop start xs
range_rest xs start = take_all (length xs - start) (drop start xs) (omega (arith, length-drop start xs))

-- a line that is cut from bytes is their first
pub line_first : (bytes : List ℕ) (start count : ℕ) → IsLine (take count (slice_range bytes start (length bytes)))
    → lines_of (drop start bytes) ≡ slice_range bytes start (start + count) ∷ lines_of (drop (start + count) bytes)
line_first bytes start count line =
    let text : List ℕ = slice_range bytes start (start + count) in
    let whole : drop start bytes ≡ text ++ drop (start + count) bytes = drop_split bytes start (start + count) (omega arith) in
    let size : count ≡ (start + count) - start = omega arith in
    let first : IsLine (take count (drop start bytes)) = subst (λ (l : List ℕ). IsLine (take count l)) (range_rest bytes start) line in
    ap lines_of whole ∙ lines_of-line text (drop (start + count) bytes) (subst (λ (k : ℕ). IsLine (take k (drop start bytes))) size first)

-- bytes without a line feed are a line
pub line_rest : (bytes : List ℕ) (start : ℕ) → start < length bytes → HasNoFeed (slice_range bytes start (length bytes))
    → lines_of (drop start bytes) ≡ slice_range bytes start (length bytes) ∷ lines_of (drop (length bytes) bytes)
line_rest bytes start some none =
    let text : List ℕ = slice_range bytes start (length bytes) in
    let nothing : drop (length bytes) bytes ≡ [] = drop_all (length bytes) bytes (omega arith) in
    let whole : drop start bytes ≡ text = drop_split bytes start (length bytes) (omega arith) ∙ (ap (λ (l : List ℕ). text ++ l) nothing ∙ append-nil text) in
    let long : 0 < length text = omega (arith, length-drop start bytes, ap (λ (l : List ℕ). length l) whole) in
    ap lines_of whole ∙ (lines_of-part text none long ∙ ap (λ (l : List ℕ). text ∷ lines_of l) (sym nothing))
