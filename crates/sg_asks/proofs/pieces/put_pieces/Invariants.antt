use Rattle.std.proofs.Common.{◌≡◌, ◌++◌, drop}
use Rattle.std.specs.Prelude.{map}
use Rattle.std.specs.List.{concat}
use Rattle.sg_asks.specs.inside.Pieces.{ArePieces, piece_text}
use Rattle.sg_asks.proofs.pieces.put_pieces.Given as goal

abbrev pub invariant-loop-piece : goal.invariant-loop-piece
invariant-loop-piece l = record {
  fit : ArePieces l.version (drop l.piece-index l.pieces);
  written : l.out ++ concat (map (piece_text l.version) (drop l.piece-index l.pieces)) ≡ l.fn.out ++ concat (map (piece_text l.version) l.pieces);
}
