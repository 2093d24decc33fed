-- How a text is put piece by piece.
use Rattle.std.proofs.Common.{◌≡◌, ℕ, List, ◌++◌, subst, ◌∙◌, append_assoc}
use Rattle.std.specs.Prelude.{Option, Result, Ok, Err}
use Rattle.std.specs.Io.KnownBytes.{Appends}
use Rattle.sg_outside.specs.Streams.{AppendsFront, PutAppends}
use Rattle.sg_outside.proofs.StreamLemmas.{Appends-trans, AppendsFront-more, AppendsFront-trans}

-- all of the text but what is left was put
pub record HasPut (before now : Option (List ℕ)) (left all : List ℕ) : Type 0 where
  pub front : List ℕ
  pub rest : front ++ left ≡ all
  pub appended : Appends before now front

-- one more piece was
pub put_more : (before now next : Option (List ℕ)) (piece left all : List ℕ) → HasPut before now (piece ++ left) all → Appends now next piece → HasPut before next left all
put_more before now next piece left all has more = record {
  front = has.front ++ piece;
  rest = append_assoc has.front piece left ∙ has.rest;
  appended = Appends-trans before now next has.front piece has.appended more;
}

-- a front of one more piece was
pub put_front : (before now next : Option (List ℕ)) (piece left all : List ℕ) → HasPut before now (piece ++ left) all → AppendsFront now next piece → AppendsFront before next all
put_front before now next piece left all has more =
    subst (λ (text : List ℕ). AppendsFront before next text) has.rest
    (AppendsFront-trans before now next has.front (piece ++ left) has.appended (AppendsFront-more now next piece left more))

-- a piece, and then what a put does with the next, is what it does with both
pub put_behind : {T E : Type 0} (before now next : Option (List ℕ)) (result : Result T E) (piece more : List ℕ) → Appends before now piece → PutAppends now next result more
    → PutAppends before next result (piece ++ more)
put_behind before now next (Ok value) piece more p q = Appends-trans before now next piece more p q
put_behind before now next (Err error) piece more p q = AppendsFront-trans before now next piece more p q
