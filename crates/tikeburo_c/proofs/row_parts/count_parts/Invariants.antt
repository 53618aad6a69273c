use Rattle.std.proofs.Common.{◌≡◌, ◌+◌, ◌≤◌, None, length}
use Rattle.std.specs.Option.{option_copied}
use Rattle.termwiz_storage.specs.CellTexts.{texts_of}
use Rattle.tikeburo_c.specs.Rows.{runs_of}
use Rattle.tikeburo_c.proofs.row_parts.count_parts.Given as goal

-- what is counted and what is left make up the whole
abbrev pub invariant-loop-cell : goal.invariant-loop-cell
invariant-loop-cell l = record {
  cells : l.counts.cells + length l.cell-iterator ≡ length l.fn.cells;
  attributes : l.counts.attributes + length (runs_of (option_copied l.before) l.cell-iterator) ≡ length (runs_of None l.fn.cells);
  few : l.counts.attributes ≤ l.counts.cells;
  text : l.counts.text + length (texts_of l.cell-iterator) ≡ length (texts_of l.fn.cells);
}
