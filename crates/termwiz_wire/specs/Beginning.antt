-- What a text begins with.
use Rattle.std.specs.Prelude.{◌≡◌, ℕ, ◌+◌, ◌<◌, ◌≤◌, true, List, length}
use Rattle.termwiz_wire.specs.Pieces.{before, needs_pieces, runs}
use Rattle.termwiz_wire.specs.declared.pieces.Run.{Run}

-- the text begins with this run, which may go on in the rest
pub record IsBeginning (measure : List ℕ → ℕ) (text : List ℕ) (run : Run) (rest : List ℕ) :
    Type 0 where
  pub runs_are : runs measure text ≡ before run (runs measure rest)
  pub some : 0 < run.count
  pub within : run.count + length rest ≤ length text

-- a text of these runs needs its pieces, and has `count` runs
pub record NeedsPieces (count : ℕ) (rs : List Run) : Type 0 where
  pub needed : needs_pieces rs ≡ true
  pub counted : count ≡ length rs
