use Rattle.std.proofs.Common.{◌≤◌, replicate}
use Rattle.std.specs.Prelude.{nat_lt}
use Rattle.termwiz_cell.specs.CellValue.{blank}
use Rattle.termwiz_line.specs.LineFlags.{no_flags}
use Rattle.termwiz_surface.specs.ScrolledOff.{ScrollsOff, first_rows, topped}
use Rattle.termwiz_surface.specs.Surface.{Becomes, screen_of, kept_of}
use Rattle.termwiz_surface.proofs.surface.Surface.take_rows.Given as goal

-- the rows above this one are taken
abbrev pub invariant-loop-row : goal.invariant-loop-row
invariant-loop-row g l =
    let s = screen_of l.fn.self in
    let k = kept_of l.fn.self in
    record {
      taken : Becomes l.fn.self (record s { rows = topped (replicate s.width blank) l.row s.rows }) (record k { lengths = topped s.width l.row k.lengths; flags = topped no_flags l.row k.flags }) (λ j. nat_lt j l.row) l.self;
      lines : ScrollsOff l.fn.self.width (first_rows s k l.row) (g.L.LineSink.lines_of l.fn.lines) (g.L.LineSink.lines_of l.lines);
      spare : g.L.LineSink.spare_of l.lines ≤ g.L.LineSink.spare_of l.fn.lines;
    }
