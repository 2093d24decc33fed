-- Lines that are written one after another.
use Rattle.std.proofs.Common.{◌≡◌, ℕ, ◌≤◌, List, [], ◌∷◌, ◌++◌, ◌+◌, ◌-◌, ◌<◌, length, map, drop, slice_get, Option, Some, None, Result, Ok, Err, refl, sym, subst, ap, ◌∙◌, append_assoc, append-nil, arith}
use Rattle.std.specs.Io.KnownBytes.{Appends}
use Rattle.std.specs.List.{concat, flat_map}
use Rattle.std.specs.Prelude.{IsErr}
use Rattle.std.proofs.lemmas.Bool.{true≢false}
use Rattle.std.proofs.lemmas.List.{drop_all, map-append}
use Rattle.std.proofs.lemmas.List.Folds.{concat-append}
use Rattle.sg_lists.proofs.Lists.{drop_from_slice_get}
use Rattle.sg_outside.proofs.StreamLemmas.{Appends-nil, Appends-trans, AppendsFront-more, AppendsFront-trans}
use Rattle.sg_commit.specs.declared.Digest.{Digest}
use Rattle.sg_forms.specs.Said.{Said}
use Rattle.sg_forms.specs.Said.Said.{Seal}
use Rattle.sg_forms.specs.Spelling.{spelling}
use Rattle.sg_grammar.proofs.Each.{each-first, each-none}
use Rattle.sg_grammar.specs.Due.{each}
use Rattle.sg_record.specs.Lines.{lines_in, plan_lines, second_lines}
use Rattle.sg_record.specs.Tree.{as_line, block_tree, commit_tree, dispute_tree, indexed, opening_tree, result_tree, seal_tree}
use Rattle.sg_commit.specs.Seals.{StandsFor}
use Rattle.sg_commit.specs.declared.Sealer.{Sealer}
use Rattle.sg_outside.specs.Streams.{AppendsFront}
use Rattle.sg_record.specs.Pens.{Moment, Puts, SealsWhere, TakesIn}
use Rattle.sg_record.specs.Writing.{text_in}
use Rattle.sg_record.specs.declared.record.Record.{Record}

-- the text of one line
pub one_line : (version : ℕ) (line : Said) → text_in version (line ∷ []) ≡ spelling version line
one_line version line = append-nil (spelling version line)

-- the text of lines and of others behind them
pub text-append : (version : ℕ) (lines more : List Said) → text_in version (lines ++ more) ≡ text_in version lines ++ text_in version more
text-append version lines more =
    ap concat (map-append (spelling version) lines more) ∙ concat-append (map (spelling version) lines) (map (spelling version) more)

-- SEALS THAT TAKE BYTES IN

-- no bytes
takes_nothing : (seal : Option Sealer) → TakesIn seal seal []
takes_nothing None = tt
takes_nothing (Some sealer) = λ taken stands. subst (λ (l : List ℕ). StandsFor sealer l) (sym (append-nil taken)) stands

-- bytes, and then others
takes_then : (a b c : Option Sealer) (first second : List ℕ) → TakesIn a b first → TakesIn b c second → TakesIn a c (first ++ second)
takes_then None None None first second one two = tt
takes_then None None (Some c) first second one two = absurd two
takes_then None (Some b) c first second one two = absurd one
takes_then (Some a) None c first second one two = absurd one
takes_then (Some a) (Some b) None first second one two = absurd two
takes_then (Some a) (Some b) (Some c) first second one two =
    λ taken stands. subst (λ (l : List ℕ). StandsFor c l) (append_assoc taken first second) (two (taken ++ first) (one taken stands))

-- one that stands for bytes stands for these behind them
takes_behind : (wanted : Type 0) (a b : Option Sealer) (before bytes : List ℕ) → TakesIn a b bytes → SealsWhere wanted a before → SealsWhere wanted b (before ++ bytes)
takes_behind wanted None None before bytes takes is = is
takes_behind wanted None (Some b) before bytes takes is = absurd takes
takes_behind wanted (Some a) None before bytes takes is = absurd takes
takes_behind wanted (Some a) (Some b) before bytes takes is = takes before is

-- behind lines that were written it stands for those before and these
pub seals_after : {T E : Type 0} (wanted : Type 0) (before now : Moment) (value : T) (version : ℕ) (old lines : List Said) → before.pen.version ≡ version
    → SealsWhere wanted before.pen.seal (text_in version old) → Puts {E = E} before now (Ok value) lines → SealsWhere wanted now.pen.seal (text_in version (old ++ lines))
seals_after wanted before now value version old lines of is puts =
    let taken = takes_behind wanted before.pen.seal now.pen.seal (text_in version old) (text_in before.pen.version lines) puts.seal is in
    subst (λ (l : List ℕ). SealsWhere wanted now.pen.seal l)
    (ap (λ v. text_in version old ++ text_in v lines) of ∙ sym (text-append version old lines)) taken

-- LINES, ONE AFTER ANOTHER

-- no line
pub puts_none : {T E : Type 0} (now : Moment) (value : T) → Puts {E = E} now now (Ok value) []
puts_none now value = record { bytes = Appends-nil now.out.bytes; cause = record { later = omega arith; failed = tt }; version = refl; seal = takes_nothing now.pen.seal }

-- the sink failed in the first of the lines
pub puts_stop : {S T E F : Type 0} (before now : Moment) (fault : E) (result : Result S F) (lines more : List Said)
    → IsErr result → Puts {T = T} before now (Err fault) lines → Puts before now result (lines ++ more)
puts_stop before now fault (Ok value) lines more is puts = absurd (true≢false (sym is))
puts_stop before now fault (Err other) lines more is puts =
    let version = before.pen.version in
    record {
      bytes = rw (text-append version lines more) (AppendsFront-more before.out.bytes now.out.bytes (text_in version lines) (text_in version more) puts.bytes);
      cause = record { later = puts.cause.later; failed = puts.cause.failed };
      version = puts.version;
      seal = tt;
    }

-- the first of the lines, and then the others
pub puts_then : {S T E F : Type 0} (before now then : Moment) (value : T) (result : Result S F) (lines more : List Said)
    → Puts {E = E} before now (Ok value) lines → Puts now then result more → Puts before then result (lines ++ more)
puts_then before now then value (Ok last) lines more first puts =
    let version = before.pen.version in
    let bytes = subst (λ (v : ℕ). Appends now.out.bytes then.out.bytes (text_in v more)) first.version puts.bytes in
    let seal = subst (λ (v : ℕ). TakesIn now.pen.seal then.pen.seal (text_in v more)) first.version puts.seal in
    record {
      bytes = rw (text-append version lines more) (Appends-trans before.out.bytes now.out.bytes then.out.bytes (text_in version lines) (text_in version more) first.bytes bytes);
      cause = record { later = omega (arith, first.cause.later, puts.cause.later); failed = tt };
      version = puts.version ∙ first.version;
      seal = subst (λ (l : List ℕ). TakesIn before.pen.seal then.pen.seal l) (sym (text-append version lines more)) (takes_then before.pen.seal now.pen.seal then.pen.seal (text_in version lines) (text_in version more) first.seal seal);
    }
puts_then before now then value (Err fault) lines more first puts =
    let version = before.pen.version in
    let bytes = subst (λ (v : ℕ). AppendsFront now.out.bytes then.out.bytes (text_in v more)) first.version puts.bytes in
    record {
      bytes = rw (text-append version lines more) (AppendsFront-trans before.out.bytes now.out.bytes then.out.bytes (text_in version lines) (text_in version more) first.bytes bytes);
      cause = record { later = omega (arith, first.cause.later, puts.cause.later); failed = omega (arith, first.cause.later, puts.cause.failed) };
      version = puts.version ∙ first.version;
      seal = tt;
    }

-- the lines in another form
pub puts_same : {T E : Type 0} (before now : Moment) (result : Result T E) (lines same : List Said) → same ≡ lines → Puts before now result lines → Puts before now result same
puts_same before now result lines same e puts = rw e puts

-- another value for it
pub puts_as : {S T E F : Type 0} (before now : Moment) (value : T) (other : S) (lines : List Said) → Puts {E = E} before now (Ok value) lines → Puts {E = F} before now (Ok other) lines
puts_as before now value other lines puts = record { bytes = puts.bytes; cause = record { later = puts.cause.later; failed = tt }; version = puts.version; seal = puts.seal }

-- a front of the lines was appended, and these are left
pub record Left (before now : Moment) (lines rest : List Said) : Type 0 where
  pub done : List Said
  pub is : lines ≡ done ++ rest
  pub puts : Puts {T = Unit {0}} {E = Unit {0}} before now (Ok tt) done

-- nothing was appended yet
pub left_all : (now : Moment) (lines : List Said) → Left now now lines lines
left_all now lines = record { done = []; is = refl; puts = puts_none now tt }

-- the next of the lines were appended
pub left_behind : {T E : Type 0} (before now then : Moment) (value : T) (lines rest put more : List Said)
    → Left before now lines rest → rest ≡ put ++ more → Puts {E = E} now then (Ok value) put → Left before then lines more
left_behind before now then value lines rest put more left split puts =
    record {
      done = left.done ++ put;
      is = left.is ∙ (ap (λ l. left.done ++ l) split ∙ sym (append_assoc left.done put more));
      puts = puts_then before now then tt (Ok tt) left.done put left.puts (puts_as now then value tt put puts);
    }

-- none of the lines is left
pub left_none : {T E : Type 0} (before now : Moment) (value : T) (lines : List Said) → Left before now lines [] → Puts {E = E} before now (Ok value) lines
left_none before now value lines left = rw (left.is ∙ append-nil left.done) (puts_as before now tt value left.done left.puts)

-- the sink failed at the next of the lines
pub left_at_fault : {S T E F : Type 0} (before now then : Moment) (fault : E) (result : Result S F) (lines rest put more : List Said)
    → Left before now lines rest → rest ≡ put ++ more → IsErr result → Puts {T = T} now then (Err fault) put → Puts before then result lines
left_at_fault before now then fault result lines rest put more left split is puts =
    let stops = puts_stop now then fault result put more is puts in
    let whole = puts_then before now then tt result left.done (put ++ more) left.puts stops in
    rw (left.is, split) whole

-- LISTS

-- the items of a list from a number on, the first of them apart
indexed-step : {A : Type 0} (f : ℕ → A → List Said) (at : ℕ) (xs : List A) (x : A) (ys : List A) → xs ≡ x ∷ ys → indexed f at xs ≡ f at x ++ indexed f (at + 1) ys
unfolding indexed
indexed-step f at xs x ys e = rw e refl

-- no item is left
indexed-end : {A : Type 0} (f : ℕ → A → List Said) (at : ℕ) (xs : List A) → length xs ≤ at → indexed f at (drop at xs) ≡ []
unfolding indexed
indexed-end f at xs end = rw (drop_all at xs end) refl

-- the lines of items that don't tell their numbers
pub indexed-map : {A : Type 0} (f : A → Said) (at : ℕ) (xs : List A) → indexed (λ k x. f x ∷ []) at xs ≡ map f xs
unfolding indexed
indexed-map f at [] = refl
indexed-map f at (x ∷ xs) = ap (λ l. f x ∷ l) (indexed-map f (at + 1) xs)

-- the items of a list from a number on are left
abbrev pub LeftFrom : {A : Type 0} → Moment → Moment → (ℕ → A → List Said) → List A → ℕ → Type 0
LeftFrom before now f xs at = Left before now (indexed f 0 xs) (indexed f at (drop at xs))

pub list_next : {A T E : Type 0} (before now then : Moment) (value : T) (f : ℕ → A → List Said) (xs : List A) (at : ℕ) (x : A)
    → LeftFrom before now f xs at → drop at xs ≡ x ∷ drop (at + 1) xs → Puts {E = E} now then (Ok value) (f at x) → LeftFrom before then f xs (at + 1)
list_next before now then value f xs at x left split puts =
    left_behind before now then value (indexed f 0 xs) (indexed f at (drop at xs)) (f at x) (indexed f (at + 1) (drop (at + 1) xs)) left
    (indexed-step f at (drop at xs) x (drop (at + 1) xs) split) puts

pub list_fault : {A S T E F : Type 0} (before now then : Moment) (fault : E) (result : Result S F) (f : ℕ → A → List Said) (xs : List A) (at : ℕ) (x : A)
    → LeftFrom before now f xs at → drop at xs ≡ x ∷ drop (at + 1) xs → IsErr result → Puts {T = T} now then (Err fault) (f at x) → Puts before then result (indexed f 0 xs)
list_fault before now then fault result f xs at x left split is puts =
    left_at_fault before now then fault result (indexed f 0 xs) (indexed f at (drop at xs)) (f at x) (indexed f (at + 1) (drop (at + 1) xs)) left
    (indexed-step f at (drop at xs) x (drop (at + 1) xs) split) is puts

pub list_end : {A T E : Type 0} (before now : Moment) (value : T) (f : ℕ → A → List Said) (xs : List A) (at : ℕ)
    → LeftFrom before now f xs at → length xs ≤ at → Puts {E = E} before now (Ok value) (indexed f 0 xs)
list_end before now value f xs at left end =
    left_none before now value (indexed f 0 xs) (rw (indexed-end f at xs end) at left)

-- SEALS

-- the seal of a section
pub seal_is : (number : ℕ) (seals : List Digest) (digest : Digest) → slice_get seals (number - 1) ≡ Some digest → seal_tree as_line number seals ≡ Seal number digest ∷ []
seal_is number seals digest e =
    let split = drop_from_slice_get seals (number - 1) digest e in
    rw split refl

-- LISTS THAT ANOTHER FUNCTION PUTS TOGETHER

-- the items from a number on are left
abbrev pub LeftOf : {A : Type 0} → Moment → Moment → (List A → List Said) → List A → ℕ → Type 0
LeftOf before now whole xs at = Left before now (whole xs) (whole (drop at xs))

pub items_next : {A T E : Type 0} (before now then : Moment) (value : T) (whole : List A → List Said) (xs : List A) (at : ℕ) (put : List Said)
    → LeftOf before now whole xs at → whole (drop at xs) ≡ put ++ whole (drop (at + 1) xs) → Puts {E = E} now then (Ok value) put → LeftOf before then whole xs (at + 1)
items_next before now then value whole xs at put left split puts =
    left_behind before now then value (whole xs) (whole (drop at xs)) put (whole (drop (at + 1) xs)) left split puts

pub items_fault : {A S T E F : Type 0} (before now then : Moment) (fault : E) (result : Result S F) (whole : List A → List Said) (xs : List A) (at : ℕ) (put : List Said)
    → LeftOf before now whole xs at → whole (drop at xs) ≡ put ++ whole (drop (at + 1) xs) → IsErr result → Puts {T = T} now then (Err fault) put → Puts before then result (whole xs)
items_fault before now then fault result whole xs at put left split is puts =
    left_at_fault before now then fault result (whole xs) (whole (drop at xs)) put (whole (drop (at + 1) xs)) left split is puts

pub items_end : {A T E : Type 0} (before now : Moment) (value : T) (whole : List A → List Said) (xs : List A) (at : ℕ)
    → whole [] ≡ [] → LeftOf before now whole xs at → length xs ≤ at → Puts {E = E} before now (Ok value) (whole xs)
items_end before now value whole xs at none left end =
    let over : whole (drop at xs) ≡ [] = rw (drop_all at xs end) none in
    left_none before now value (whole xs) (rw over at left)

-- NUMBERED LINES

-- the lines of the numbers from one on are left
abbrev pub LeftEach : Moment → Moment → (ℕ → List Said) → ℕ → ℕ → Type 0
LeftEach before now f at end = Left before now (each f 0 end) (each f at end)

pub each_next : {T E : Type 0} (before now then : Moment) (value : T) (f : ℕ → List Said) (at end : ℕ)
    → at < end → LeftEach before now f at end → Puts {E = E} now then (Ok value) (f at) → LeftEach before then f (at + 1) end
each_next before now then value f at end within left puts =
    left_behind before now then value (each f 0 end) (each f at end) (f at) (each f (at + 1) end) left (each-first f at end within) puts

pub each_fault : {S T E F : Type 0} (before now then : Moment) (fault : E) (result : Result S F) (f : ℕ → List Said) (at end : ℕ)
    → at < end → LeftEach before now f at end → IsErr result → Puts {T = T} now then (Err fault) (f at) → Puts before then result (each f 0 end)
each_fault before now then fault result f at end within left is puts =
    left_at_fault before now then fault result (each f 0 end) (each f at end) (f at) (each f (at + 1) end) left (each-first f at end within) is puts

pub each_end : {T E : Type 0} (before now : Moment) (value : T) (f : ℕ → List Said) (at end : ℕ)
    → LeftEach before now f at end → end ≤ at → Puts {E = E} before now (Ok value) (each f 0 end)
each_end before now value f at end left over =
    left_none before now value (each f 0 end) (rw (each-none f at end over) at left)

-- THE WHOLE

-- the lines of a record are those of the first two sections, and the others behind them
pub whole-is : (posted : Record) → lines_in posted ≡ second_lines posted ++ (opening_tree as_line posted ++ flat_map (dispute_tree as_line) posted.disputes)
whole-is posted = join (plan_lines posted.plan) (commit_tree as_line posted) (flat_map (block_tree as_line posted.plan) posted.ballots) (result_tree as_line posted) (opening_tree as_line posted ++ flat_map (dispute_tree as_line) posted.disputes)
  where
    join : (a b c d e : List Said) → a ++ (b ++ (c ++ (d ++ e))) ≡ ((a ++ b) ++ (c ++ d)) ++ e
    join a b c d e =
        ap (λ (l : List Said). a ++ (b ++ l)) (sym (append_assoc c d e))
        ∙ (sym (append_assoc a b ((c ++ d) ++ e)) ∙ sym (append_assoc (a ++ b) (c ++ d) e))
