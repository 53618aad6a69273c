use Rattle.std.proofs.Common.{take}
use Rattle.std.specs.Fmt.{HasWritten, IsPlainFormatter}
use Rattle.termwiz_screen.specs.ScreenValue.{cells_of}
use Rattle.sessions.specs.Printed.{row_lines}
use Rattle.sessions.proofs.printed.write_rows.Given as goal

-- the rows so far are written
abbrev pub invariant-loop-row : goal.invariant-loop-row
invariant-loop-row g l = IsPlainFormatter l.initial.f → HasWritten g.W.Write.write_str_gives l.initial.f (row_lines (cells_of (take l.row-index l.rows))) l.f
