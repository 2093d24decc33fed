-- What calls that follow one another do to the known bytes of a source and of a sink, and to their counts of faults.
use Rattle.std.proofs.Common.{◌≡◌, ◌≤◌, ℕ, List, [], ◌++◌, None, Some, refl, sym, ap, ◌∙◌, append_assoc, append-nil, arith}
use Rattle.std.specs.Prelude.{Option}
use Rattle.std.specs.Io.KnownBytes.{Keeps, Appends, Consumes, IsAtEnd, prepend_known}
use Rattle.sg_outside.specs.Faults.{Rose}
use Rattle.sg_outside.specs.Streams.{AppendsFront}

-- a count that rose later rose
pub Rose-later : (first mid last : ℕ) → first ≤ mid → Rose mid last → Rose first last
Rose-later first mid last le rose = omega (arith, le, rose)

-- a count that rose and did not fall later rose
pub Rose-stays : (first mid last : ℕ) → Rose first mid → mid ≤ last → Rose first last
Rose-stays first mid last rose le = omega (arith, rose, le)

-- bytes that stay twice stay
pub Keeps-trans : (a b c : Option (List ℕ)) → Keeps a b → Keeps b c → Keeps a c
Keeps-trans None b c p q = tt
Keeps-trans (Some x) None c p q = absurd p
Keeps-trans (Some x) (Some y) None p q = absurd q
Keeps-trans (Some x) (Some y) (Some z) p q = q ∙ p

-- bytes stay as they are
pub Keeps-refl : (a : Option (List ℕ)) → Keeps a a
Keeps-refl None = tt
Keeps-refl (Some x) = refl

-- to take nothing is to stay
pub Consumes-nil : (a : Option (List ℕ)) → Consumes a a []
Consumes-nil None = tt
Consumes-nil (Some x) = refl

-- bytes are taken in order
pub Consumes-trans : (a b c : Option (List ℕ)) (bs cs : List ℕ) → Consumes a b bs → Consumes b c cs → Consumes a c (bs ++ cs)
Consumes-trans None b c bs cs p q = tt
Consumes-trans (Some x) None c bs cs p q = absurd p
Consumes-trans (Some x) (Some y) None bs cs p q = absurd q
Consumes-trans (Some x) (Some y) (Some z) bs cs p q = p ∙ (ap (λ l. bs ++ l) q ∙ sym (append_assoc bs cs z))

-- what stays before bytes are taken does not change what is taken
pub Consumes-after_kept : (a b c : Option (List ℕ)) (bs : List ℕ) → Keeps a b → Consumes b c bs → Consumes a c bs
Consumes-after_kept None b c bs p q = tt
Consumes-after_kept (Some x) None c bs p q = absurd p
Consumes-after_kept (Some x) (Some y) None bs p q = absurd q
Consumes-after_kept (Some x) (Some y) (Some z) bs p q = sym p ∙ q

-- nor does what stays afterwards
pub Consumes-kept : (a b c : Option (List ℕ)) (bs : List ℕ) → Consumes a b bs → Keeps b c → Consumes a c bs
Consumes-kept None b c bs p q = tt
Consumes-kept (Some x) None c bs p q = absurd p
Consumes-kept (Some x) (Some y) None bs p q = absurd q
Consumes-kept (Some x) (Some y) (Some z) bs p q = p ∙ ap (λ l. bs ++ l) (sym q)

-- bytes put in front of others are taken first
pub Consumes-front : (bs : List ℕ) (a : Option (List ℕ)) → Consumes (prepend_known bs a) a bs
Consumes-front bs None = tt
Consumes-front bs (Some x) = refl

-- bytes taken and held are still to come
pub Consumes-held : (a b : Option (List ℕ)) (bs cs : List ℕ) → Consumes a b (bs ++ cs) → Consumes a (prepend_known cs b) bs
Consumes-held None b bs cs p = tt
Consumes-held (Some x) None bs cs p = absurd p
Consumes-held (Some x) (Some y) bs cs p = p ∙ append_assoc bs cs y

-- where no bytes are held, the end of the source is the end of all that is to come
pub IsAtEnd-held : (held : List ℕ) (left : Option (List ℕ)) → held ≡ [] → IsAtEnd left → IsAtEnd (prepend_known held left)
IsAtEnd-held held None none ended = tt
IsAtEnd-held held (Some rest) none ended = ap (λ l. l ++ rest) none ∙ ended

-- at the end, all that was told was taken
pub Consumes-all : (bytes : List ℕ) (left : Option (List ℕ)) (cs : List ℕ) → Consumes (Some bytes) left cs → IsAtEnd left → bytes ≡ cs
Consumes-all bytes None cs p q = absurd p
Consumes-all bytes (Some y) cs p q = p ∙ (ap (λ l. cs ++ l) q ∙ append-nil cs)

-- to append nothing is to stay
pub Appends-nil : (a : Option (List ℕ)) → Appends a a []
Appends-nil None = tt
Appends-nil (Some x) = sym (append-nil x)

-- pieces are appended in order
pub Appends-trans : (a b c : Option (List ℕ)) (bs cs : List ℕ) → Appends a b bs → Appends b c cs → Appends a c (bs ++ cs)
Appends-trans None b c bs cs p q = tt
Appends-trans (Some x) None c bs cs p q = absurd p
Appends-trans (Some x) (Some y) None bs cs p q = absurd q
Appends-trans (Some x) (Some y) (Some z) bs cs p q = q ∙ (ap (λ l. l ++ cs) p ∙ append_assoc x bs cs)

-- what stays before bytes are appended does not change what is appended
pub Appends-after_kept : (a b c : Option (List ℕ)) (bs : List ℕ) → Keeps a b → Appends b c bs → Appends a c bs
Appends-after_kept None b c bs p q = tt
Appends-after_kept (Some x) None c bs p q = absurd p
Appends-after_kept (Some x) (Some y) None bs p q = absurd q
Appends-after_kept (Some x) (Some y) (Some z) bs p q = q ∙ ap (λ l. l ++ bs) p

-- nor does what stays afterwards
pub Appends-kept : (a b c : Option (List ℕ)) (bs : List ℕ) → Appends a b bs → Keeps b c → Appends a c bs
Appends-kept None b c bs p q = tt
Appends-kept (Some x) None c bs p q = absurd p
Appends-kept (Some x) (Some y) None bs p q = absurd q
Appends-kept (Some x) (Some y) (Some z) bs p q = q ∙ p

-- all of a piece is a front of it and of what follows it
pub AppendsFront-whole : (a b : Option (List ℕ)) (bs cs : List ℕ) → Appends a b bs → AppendsFront a b (bs ++ cs)
AppendsFront-whole a b bs cs p = (bs, cs, refl, p)

-- nothing is a front of any piece
pub AppendsFront-nothing : (a b : Option (List ℕ)) (bs : List ℕ) → Keeps a b → AppendsFront a b bs
AppendsFront-nothing a b bs p = ([], bs, refl, Appends-kept a a b [] (Appends-nil a) p)

-- a piece, and then a front of the next, is a front of both
pub AppendsFront-trans : (a b c : Option (List ℕ)) (bs cs : List ℕ) → Appends a b bs → AppendsFront b c cs → AppendsFront a c (bs ++ cs)
AppendsFront-trans a b c bs cs p q =
    (bs ++ q.0, q.1, ap (λ l. bs ++ l) q.2 ∙ sym (append_assoc bs q.0 q.1), Appends-trans a b c bs q.0 p q.3)

-- a front of a piece is a front of it and of what follows it
pub AppendsFront-more : (a b : Option (List ℕ)) (bs cs : List ℕ) → AppendsFront a b bs → AppendsFront a b (bs ++ cs)
AppendsFront-more a b bs cs p =
    (p.0, p.1 ++ cs, ap (λ l. l ++ cs) p.2 ∙ append_assoc p.0 p.1 cs, p.3)

-- what stays before a front of a piece is appended does not change what is appended
pub AppendsFront-after_kept : (a b c : Option (List ℕ)) (bs : List ℕ) → Keeps a b → AppendsFront b c bs → AppendsFront a c bs
AppendsFront-after_kept a b c bs p q = (q.0, q.1, q.2, Appends-after_kept a b c q.0 p q.3)

-- nor does what stays afterwards
pub AppendsFront-kept : (a b c : Option (List ℕ)) (bs : List ℕ) → AppendsFront a b bs → Keeps b c → AppendsFront a c bs
AppendsFront-kept a b c bs p q = (p.0, p.1, p.2, Appends-kept a b c p.0 p.3 q)
