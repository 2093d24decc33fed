-- A text that is put line by line.
use Rattle.std.proofs.Common.{◌≡◌, ℕ, List, [], ◌++◌, length, drop, sym, subst, ap, ◌∙◌, append_assoc, append-nil}
use Rattle.std.specs.Prelude.{Option}
use Rattle.std.specs.Io.KnownBytes.{Appends}
use Rattle.std.proofs.Math.Seq.{drop-length}
use Rattle.sg_outside.specs.Streams.{AppendsFront}
use Rattle.sg_outside.proofs.StreamLemmas.{Appends-trans, AppendsFront-more, AppendsFront-trans}

-- all bytes but those that are left were appended
pub record HasPut (before now : Option (List ℕ)) (left all : List ℕ) : Type 0 where
  pub front : List ℕ
  pub whole : front ++ left ≡ all
  pub appended : Appends before now front

-- one more piece was appended
pub one_put : (before now next : Option (List ℕ)) (piece left all : List ℕ) → HasPut before now (piece ++ left) all → Appends now next piece → HasPut before next left all
one_put before now next piece left all has more = record {
  front = has.front ++ piece;
  whole = append_assoc has.front piece left ∙ has.whole;
  appended = Appends-trans before now next has.front piece has.appended more;
}

-- a front of one more piece was appended
pub front_put : (before now next : Option (List ℕ)) (piece left all : List ℕ) → HasPut before now (piece ++ left) all → AppendsFront now next piece → AppendsFront before next all
front_put before now next piece left all has more =
    let P : List ℕ → Type 0 = λ text. AppendsFront before next text in
    subst P has.whole (AppendsFront-trans before now next has.front (piece ++ left) has.appended (AppendsFront-more now next piece left more))

-- nothing is left
pub all_put : (before now : Option (List ℕ)) (all : List ℕ) (has : HasPut before now (drop (length all) all) all) → Appends before now all
all_put before now all has =
    let P : List ℕ → Type 0 = λ text. Appends before now text in
    subst P (grind_nil has.front all (drop (length all) all) has.whole (nothing all)) has.appended
  where
    nothing : (l : List ℕ) → drop (length l) l ≡ []
    nothing l = drop-length l

    grind_nil : (front text left : List ℕ) → front ++ left ≡ text → left ≡ [] → front ≡ text
    grind_nil front text left whole none = sym (append-nil front) ∙ (ap (λ l. front ++ l) (sym none) ∙ whole)
