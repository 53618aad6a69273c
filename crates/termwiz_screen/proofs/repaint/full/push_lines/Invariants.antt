use Rattle.std.proofs.Common.{◌≡◌, ◌++◌, map}
use Rattle.termwiz_screen.specs.FullScreen.{line_attribute}
use Rattle.termwiz_screen.specs.Repaint.{lines_upto}
use Rattle.termwiz_screen.specs.Sides.{row_flags}
use Rattle.termwiz_screen.proofs.repaint.full.push_lines.Given as goal

abbrev pub invariant-loop-i : goal.invariant-loop-i
invariant-loop-i l = record {
  printed : l.writer.printed ≡ record l.fn.writer.printed { entries = l.fn.writer.printed.entries ++ lines_upto (map line_attribute (row_flags l.rows.items)) l.i };
  spaces : l.writer.spaces ≡ l.fn.writer.spaces;
}
