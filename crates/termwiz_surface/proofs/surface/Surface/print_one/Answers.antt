use Rattle.std.proofs.Common.{◌≡◌, ◌∙◌, ap, sym, subst, rules}
use Rattle.std.specs.Prelude.{◌||◌}
use Rattle.termwiz_cell.specs.Measure.{measure}
use Rattle.termwiz_screen.specs.Print.{piece_of}
use Rattle.termwiz_screen.specs.Screen.{Screen}
use Rattle.termwiz_screen.specs.declared.print.Piece.{Piece}
use Rattle.termwiz_screen.specs.declared.print.Piece.TheVariants.{Cell}
use Rattle.termwiz_surface.specs.Surface.{SurfaceValue, screen_of}
use Rattle.termwiz_surface.specs.Touching.{cursor_row, one_touches, piece_touches, wrap_touches}
use Rattle.termwiz_surface.proofs.RowNumbers.{marks-alike, marks-then}
use Rattle.termwiz_surface.proofs.surface.Surface.print_one.Goals as goal

pub returns-in_ok-put-in-Cell-clause-ok : goal.returns-in_ok-put-in-Cell-clause-ok
returns-in_ok-put-in-Cell-clause-ok g c =
    let f = measure g.W.Widths.width_of c.args.self.now.widths in
    let s : Screen = screen_of c.args.self.now in
    let mid : Screen = screen_of c.wrap.new.self in
    let wrapped = c.in_ok-wrap-in-Cell.ensures.ok in
    let is_cell : piece_of f c.args.self.now.pen c.args.grapheme.now ≡ Cell c.in-Cell.cell =
    subst (λ (v : SurfaceValue _). piece_of (measure g.W.Widths.width_of v.widths) v.pen c.args.grapheme.now ≡ Cell c.in-Cell.cell) c.self.view_is (sym c.in_ok-printed_piece.ensures.piece ∙ c.in-Cell.is) in
    record {
      widths = search rules;
      width = search rules;
      height = search rules;
      full = search rules;
      log = search rules;
      screen_is = search rules;
      kept_is = search rules;
      mark = search rules;
      rows = marks-alike _ (one_touches f s c.args.grapheme.now) c.args.self.now c.put.new.self
          (λ j. ap (λ (p : Piece). piece_touches s p j) is_cell ∙ ap (λ (z : Screen). wrap_touches s j || cursor_row z j) (sym wrapped.screen_is))
          (marks-then (wrap_touches s) (cursor_row mid) c.args.self.now c.wrap.new.self c.put.new.self wrapped.height wrapped.mark wrapped.rows c.in_ok-put-in-Cell.ensures.ok.rows);
    }
