-- What is said of the command that was run is said of the one that the words ask for; and what is said where memory for the
-- words was wanted.
use Rattle.std.proofs.Common.{◌≡◌, ℕ, Some, false, subst}
use Rattle.std.specs.Prelude.{List, Option}
use Rattle.sg_outside.specs.Outcomes.{status_of}
use Rattle.sg_outside.specs.declared.outcome.Outcome.{Outcome}
use Rattle.sg_keeper.specs.declared.rows.Rows.{Rows}
use Rattle.sg_words.specs.declared.command.Command.{Command}
use Rattle.sg_clerk.specs.Outside.{Outside}
use Rattle.sg_app.specs.Says.{CommandSays, Ended}
use Rattle.sg_app.specs.Touches.{changes_rows}
use Rattle.sg_app.proofs.Commands.{says_complete}
use Rattle.sg_links.specs.Board.{Board}

-- what stands outside, by its parts
abbrev pub outside : Option (List ℕ) → Option Board → Option (List ℕ) → ℕ → ℕ → ℕ → ℕ → Outside
outside left board written reads links writes keeps =
    record { left = left; board = board; written = written; read_faults = reads; link_faults = links; write_faults = writes; keep_faults = keeps }

-- they are one
pub asked_is : (here asked : Command) (found : Option Command) → Some here ≡ found → found ≡ Some asked → here ≡ asked
asked_is here asked found is said = cc

pub says_for : (here asked : Command) (found : Option Command) (how : Outcome) (tells : Type 0) (rows rows' : Rows) (before now : Outside) → Some here ≡ found → found ≡ Some asked
    → CommandSays here how tells rows rows' before now → CommandSays asked how tells rows rows' before now
says_for here asked found how tells rows rows' before now is said says =
    subst (λ (a : Command). CommandSays a how tells rows rows' before now) (asked_is here asked found is said) says

pub ended_for : (here asked : Command) (found : Option Command) (status : ℕ) (how : Outcome) (tells : Type 0) (rows rows' : Rows) (before now : Outside) → Some here ≡ found → found ≡ Some asked
    → status ≡ status_of how → CommandSays here how tells rows rows' before now → (changes_rows here ≡ false → tells → rows' ≡ rows) → Ended asked status tells rows rows' before now
ended_for here asked found status how tells rows rows' before now is said status_is says same =
    let found_says = says_for here asked found how tells rows rows' before now is said says in
    record {
      outcome = how;
      status_is = status_is;
      says = found_says;
      complete = says_complete asked how tells rows rows' before now found_says;
      same = subst (λ (a : Command). changes_rows a ≡ false → tells → rows' ≡ rows) (asked_is here asked found is said) same;
    }
