use Rattle.std.proofs.Common.{◌≡◌, ◌+◌, length, take}
use Rattle.termwiz_storage.specs.CellTexts.{cell_texts}
use Rattle.tikeburo_c.proofs.row_parts.texts_fit.Given as goal

-- the rest of the room is left by the texts so far
abbrev pub invariant-loop-cell : goal.invariant-loop-cell
invariant-loop-cell l = record {
  left : length (cell_texts (take l.cell-index l.cells)) + l.left ≡ l.fn.room;
}
