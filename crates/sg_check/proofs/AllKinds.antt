-- No kind is left out of the list of kinds.
use Rattle.std.proofs.Common.{◌≡◌, ℕ, false, cond, List, [], length, Some, None, refl, ap, ◌∙◌, ltb-true}
use Rattle.std.specs.List.{position_or_len}
use Rattle.std.specs.Prelude.{Contains, bytes_eq}
use Rattle.sg_lists.proofs.Finding.{fails-each}
use Rattle.sg_plan.specs.declared.plan.Plan.{Plan}
use Rattle.sg_grammar.specs.Placed.{Placed}
use Rattle.sg_grammar.specs.Walk.{Posted}
use Rattle.sg_check.proofs.Late.{form_never}
use Rattle.sg_check.specs.Judging.{first_late}
use Rattle.sg_check.specs.Kinds.{bad_placed, first_bad, is_bad, kind_word, kinds}
use Rattle.sg_check.specs.Laws.{AreAllKinds}
use Rattle.sg_check.specs.Verdict.{late}
use Rattle.sg_check.specs.declared.judged.Kind.{Kind}
use Rattle.sg_check.specs.declared.judged.Kind.TheVariants as kind

-- where the kind's word stands among those of the kinds
abbrev place : Kind → ℕ
place k = position_or_len (λ j. bytes_eq (kind_word j) (kind_word k)) kinds

pub each_kind : (k : Kind) → Contains kinds k
each_kind kind.Form = (place kind.Form, ltb-true (place kind.Form) (length kinds) refl, refl)
each_kind k = (place k, ltb-true (place k) (length kinds) refl, refl)

pub all_kinds : AreAllKinds
all_kinds = record { each = each_kind; later = refl }

-- where no kind is found, the line is bad in none
pub none_bad : (plan : Plan) (lines : List Placed) (line : Placed) → first_bad plan lines line ≡ None → (k : Kind) → bad_placed k plan lines line ≡ false
none_bad plan lines line none k = fails-each (λ j. bad_placed j plan lines line) kinds k none (each_kind k)

-- and where none is found behind form, none of the lines is bad in any
pub none_late : (plan : Plan) (lines : List Posted) → first_late plan lines ≡ None → (k : Kind) → late (is_bad k plan) [] lines ≡ false
none_late plan lines none k =
    fails-each (λ j. late (is_bad j plan) [] lines) kinds k (ap (λ b. cond b (Some kind.Form) (first_late plan lines)) (form_never plan [] lines) ∙ none) (each_kind k)
