use Rattle.std.proofs.Common.{◌≡◌, ℕ, ◌+◌, ◌-◌, ◌<◌, ◌^◌, min, length, refl, sym, ap, ◌∙◌, subst, arith}
use Rattle.std.specs.Prelude.{None, nat_le, string_bytes}
use Rattle.termwiz_cell.specs.Measure.{measure}
use Rattle.termwiz_screen.specs.ScreenValue.{cells_of}
use Rattle.termwiz_screen.specs.Log.{next_number, restarted}
use Rattle.termwiz_surface.specs.Resizing.{resize_touches}
use Rattle.termwiz_surface.specs.Surface.{SurfaceValue}
use Rattle.termwiz_screen.proofs.Logs.{restarted_fits}
use Rattle.termwiz_screen.proofs.Sides.{sides-full}
use Rattle.termwiz_screen.proofs.RowChanges.Resized.{length-resized_stored, stored-resized, lengths-resized, shown-resized}
use Rattle.termwiz_surface.proofs.KeptRows.{resize-marks}
use Rattle.termwiz_surface.proofs.surface.Surface.change_size.Goals as goal

pub invariant_of-self-2 : goal.invariant_of-self-2
invariant_of-self-2 g c =
    let s = c.self.inside in
    let form = c.self.invariant.0 in (
      rw (c.in_ok-resize_rows.ensures.ok, c.restart.ensures, c.min-self-inside.ensures, c.min-self-inside-2.ensures) (record {
        some_column = c.requires.size.some_column;
        some_row = c.requires.size.some_row;
        fits = c.requires.size.fits;
        fits_height = c.requires.size.fits_height;
        full = length-resized_stored c.args.width c.args.height (cells_of s.rows.items);
        sides = sides-full c.resize_rows.new.rows.items (ap length c.in_ok-resize_rows.ensures.ok ∙ length-resized_stored c.args.width c.args.height (cells_of s.rows.items));
        column = omega (arith, c.requires.size.some_column);
        row = omega (arith, c.requires.size.some_row);
        stored_so = stored-resized (measure g.W.Widths.width_of s.widths) s.width c.args.width c.args.height s.height (cells_of s.rows.items) (record { space = g.met.W.Widths.space_has_one s.widths None }) c.requires.size.some_column form.full form.stored_so;
        regions = refl;
        number_fits = restarted_fits s.log (subst (λ (v : SurfaceValue _). next_number v.log + 1 < 2 ^ 64) (sym c.self.view_is) c.requires.number);
      }),
      c.in_ok-resize_rows.ensures.vectors c.self.invariant.1,
      c.renew.ensures.len,
    )

pub returns-clause-ok : goal.returns-clause-ok
returns-clause-ok g c =
    let s = c.self.inside in
    let form = c.self.invariant.0 in
    let number_is : c.next_number-self-inside.result ≡ next_number (restarted s.log) = c.next_number-self-inside.ensures ∙ ap next_number c.restart.ensures in
    let x_is : min s.x (c.args.width - 1) ≡ min (s.x + 0) (c.args.width - 1) = omega arith in
    let y_is : min s.y (c.args.height - 1) ≡ min (s.y + 0) (c.args.height - 1) = omega arith in
    rw (← c.self.view_is, c.in_ok-resize_rows.ensures.ok, c.restart.ensures, c.min-self-inside.ensures, c.min-self-inside-2.ensures) (record {
      widths = refl;
      width = refl;
      height = refl;
      full = refl;
      log = refl;
      mark = number_is;
      rows = resize-marks (measure g.W.Widths.width_of s.widths) _ _ c.args.width c.args.height c.first_touched-first.result (record { space = g.met.W.Widths.space_has_one s.widths None }) c.requires.size.some_column form
          (subst (λ (v : SurfaceValue _). (j : ℕ) → j < c.args.height → resize_touches v c.args.width j ≡ nat_le c.first_touched-first.result j) (sym c.self.view_is) c.first_touched-first.ensures.touched)
          (rw (c.in_ok-reserve.ensures.all, c.in_ok-reserve.ensures.own, number_is) at c.renew.ensures.marked) refl refl c.in_ok-resize_rows.ensures.flags;
      screen_is = λ i. record {
        width = c.args.width;
        height = c.args.height;
        rows = shown-resized (measure g.W.Widths.width_of s.widths) s.width c.args.width c.args.height s.height (cells_of s.rows.items) (record { space = g.met.W.Widths.space_has_one s.widths None }) c.requires.size.some_column form.full form.stored_so i;
        x = x_is i;
        y = y_is i;
        visibility = s.visibility;
        pen = s.pen;
      };
      kept_is = λ i. record {
        lengths = lengths-resized (measure g.W.Widths.width_of s.widths) s.width c.args.width c.args.height s.height (cells_of s.rows.items) (record { space = g.met.W.Widths.space_has_one s.widths None }) c.requires.size.some_column form.full form.stored_so i;
        flags = c.in_ok-resize_rows.ensures.flags i;
        title = string_bytes s.title;
        shape = s.shape;
        color = s.color;
      };
    })
