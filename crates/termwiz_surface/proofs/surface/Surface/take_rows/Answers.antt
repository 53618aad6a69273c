use Rattle.std.proofs.Common.{◌<◌, List, arith, subst, sym}
use Rattle.termwiz_cell.specs.Measure.{measure}
use Rattle.termwiz_line.specs.LineValue.{LineValue}
use Rattle.termwiz_line.proofs.Fills.{on_err}
use Rattle.termwiz_surface.specs.ScrolledOff.{BeginsRows, first_rows}
use Rattle.termwiz_surface.specs.Surface.{screen_of, kept_of}
use Rattle.termwiz_surface.proofs.ScrolledOff.{begins-first, taken-lines, taken-more}
use Rattle.termwiz_surface.proofs.surface.Surface.take_rows.Goals as goal

pub loop-row-preserved : goal.loop-row-preserved
loop-row-preserved g c =
    let f = measure g.W.Widths.width_of c.loop-row.self.widths in
    let before = c.loop-row.invariant in
    let row = c.in_ok-take_row.ensures in
    let inside : c.loop-row.row < c.loop-row.self.height = omega (arith, before.taken.height) in
    record {
      taken = taken-more f c.args.self.now c.loop-row.self c.take_row.new.self c.loop-row.row row.sound inside before.taken row.ok;
      lines = taken-lines f c.args.self.now c.loop-row.self c.take_row.new.self c.loop-row.row row.sound inside before.taken (g.L.LineSink.lines_of c.args.lines.now) (g.L.LineSink.lines_of c.loop-row.lines) (g.L.LineSink.lines_of c.take_row.new.lines) before.lines row.moves;
      spare = omega (arith, before.spare, c.take_row.ensures.spare);
    }

pub returns-in_err-take_row-clause-kept : goal.returns-in_err-take_row-clause-kept
returns-in_err-take_row-clause-kept g c =
    let s = screen_of c.args.self.now in
    let k = kept_of c.args.self.now in
    let u : List LineValue = (g.L.LineSink.lines_of c.args.lines.now) in
    on_err _ (subst (BeginsRows c.args.self.now.width (first_rows s k c.args.count) u) (sym c.in_err-take_row.ensures.kept)
    (begins-first c.args.self.now.width s k c.loop-row.row c.args.count u (g.L.LineSink.lines_of c.loop-row.lines) (omega arith) c.loop-row.invariant.lines))
