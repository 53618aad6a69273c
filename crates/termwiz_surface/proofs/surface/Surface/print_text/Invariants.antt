use Rattle.std.proofs.Common.{◌≡◌, ◌≤◌, fold, length, true}
use Rattle.std.specs.Prelude.{IsTrue}
use Rattle.std.specs.Str.{IsUtf8}
use Rattle.unicode_segmentation.specs.Grapheme.{graphemes}
use Rattle.termwiz_cell.specs.Measure.{measure}
use Rattle.termwiz_screen.specs.Print.{print, print_one, kept_after, print_kept}
use Rattle.termwiz_surface.specs.ScrolledOff.{LeavesRows, left_by}
use Rattle.termwiz_surface.specs.Surface.{SameFrame, screen_of, kept_of}
use Rattle.termwiz_surface.specs.Touching.{touched_by}
use Rattle.termwiz_surface.proofs.RowNumbers.{MarksSome}
use Rattle.termwiz_surface.proofs.surface.Surface.print_text.Given as goal

-- what is left to print leads to the whole print, and scrolls off what is left of the rows
abbrev pub invariant-pieces : goal.invariant-pieces
invariant-pieces g l =
    let f = measure g.W.Widths.width_of l.fn.self.widths in
    record {
      is_text : IsUtf8 l.rest;
      frame : SameFrame l.fn.self l.self;
      mark : l.self.mark ≡ l.fn.self.mark;
      rows : MarksSome (touched_by f (screen_of l.fn.self) (graphemes true l.text)) (touched_by f (screen_of l.self) (graphemes true l.rest)) l.fn.self l.self;
      screen : fold (print_one f) (screen_of l.self) (graphemes true l.rest) ≡ print f (screen_of l.fn.self) l.text;
      kept : kept_after f (screen_of l.self) (kept_of l.self) (graphemes true l.rest) ≡ print_kept f (screen_of l.fn.self) l.text (kept_of l.fn.self);
      leaves : IsTrue g.L.LineSink.KEEPS → LeavesRows l.fn.self.width (left_by f (screen_of l.fn.self) (kept_of l.fn.self) (graphemes true l.text)) (left_by f (screen_of l.self) (kept_of l.self) (graphemes true l.rest)) (g.L.LineSink.lines_of l.fn.lines) (g.L.LineSink.lines_of l.lines);
      spare : g.L.LineSink.spare_of l.lines ≤ g.L.LineSink.spare_of l.fn.lines;
    }

abbrev pub decreases-pieces : goal.decreases-pieces
decreases-pieces g l = length l.rest
