use Rattle.std.proofs.Common.{◌+◌, ◌≤◌, None, Some, length}
use Rattle.std.specs.Option.{option_copied}
use Rattle.termwiz_storage.specs.CellTexts.{texts_of}
use Rattle.tikeburo_c.specs.Rows.{cell_fields_from, runs_of}
use Rattle.tikeburo_c.proofs.Filled.{Fills}
use Rattle.tikeburo_c.proofs.row_parts.write_parts.Given as goal

-- each array has what was written, and what is left leads to the whole
abbrev pub invariant-loop-cell : goal.invariant-loop-cell
invariant-loop-cell l = record {
  cells : Fills l.written (cell_fields_from l.end l.runs (option_copied l.before) l.cells) (cell_fields_from 0 0 None l.fn.cells) l.fn.row_cells l.row_cells;
  attributes : Fills l.runs (runs_of (option_copied l.before) l.cells) (runs_of None l.fn.cells) l.fn.attributes l.attributes;
  text : Fills l.end (texts_of l.cells) (texts_of l.fn.cells) l.fn.text l.text;
}

abbrev pub decreases-loop-cell : goal.decreases-loop-cell
decreases-loop-cell l = length l.cells

-- `plain` plain cells of the run are written too
abbrev pub invariant-loop-byte : goal.invariant-loop-byte
invariant-loop-byte l = record {
  cells : Fills (l.written + l.plain) (cell_fields_from (l.end + l.plain) l.runs (Some l.attrs) l.cells) (cell_fields_from 0 0 None l.fn.cells) l.fn.row_cells l.row_cells;
  attributes : Fills l.runs (runs_of (Some l.attrs) l.cells) (runs_of None l.fn.cells) l.fn.attributes l.attributes;
  text : Fills (l.end + l.plain) (texts_of l.cells) (texts_of l.fn.cells) l.fn.text l.text;
  shorter : length l.cells ≤ length l.initial.cells;
}

abbrev pub decreases-loop-byte : goal.decreases-loop-byte
decreases-loop-byte l = length l.cells
