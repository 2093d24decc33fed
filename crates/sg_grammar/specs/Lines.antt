-- The lines of a record in their places, and which of them stand there (this project's rules for the record).
use Rattle.std.specs.Prelude.{◌≡◌, Bool, true, false, List, ◌∷◌, ◌++◌, map}
use Rattle.sg_grammar.specs.Placed.{Placed}
use Rattle.sg_grammar.specs.Walk.{Posted}
use Rattle.sg_grammar.specs.declared.state.Block.{Block}
use Rattle.sg_grammar.specs.declared.state.Block.TheVariants as block

-- the lines in their places
abbrev pub placed_of : List Posted → List Placed
placed_of lines = map (λ line. line.line) lines

-- one of the lines is this one
abbrev pub IsAmong : List Placed → Placed → Type 0
IsAmong lines line = (front rest : List Placed) × (lines ≡ front ++ line ∷ rest)

-- the block is that of a cast ballot
abbrev pub is_cast : Block → Bool
is_cast block.Cast = true
is_cast other = false

-- the block is that of an audited ballot
abbrev pub is_audit : Block → Bool
is_audit block.Audited = true
is_audit other = false

-- the block is that of a dispute
abbrev pub is_dispute : Block → Bool
is_dispute block.Dispute = true
is_dispute other = false
