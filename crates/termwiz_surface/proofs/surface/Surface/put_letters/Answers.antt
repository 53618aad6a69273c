use Rattle.std.proofs.Common.{◌∙◌, ◌+◌, ◌*◌, ◌≤◌, length, refl, sym, subst}
use Rattle.std.specs.Prelude.{None, encode_utf8}
use Rattle.std.specs.Str.{chars}
use Rattle.termwiz_cell.specs.Measure.{measure}
use Rattle.termwiz_storage.specs.Letters.{letter_cell, set_letters}
use Rattle.termwiz_screen.specs.Runs.{AreWide}
use Rattle.termwiz_surface.specs.Surface.{SurfaceValue}
use Rattle.termwiz_surface.proofs.Drawn.{any_numbers}
use Rattle.termwiz_surface.proofs.RowNumbers.{marks-alike, marks-set}
use Rattle.termwiz_surface.proofs.Printing.{AllPrint-letters, IsPrinted-letters, letter_run, run-touches}
use Rattle.termwiz_surface.proofs.surface.Surface.put_letters.Goals as goal

pub invariant_of-self-2 : goal.invariant_of-self-2
invariant_of-self-2 g c =
    let fits : c.self.inside.x + 2 * length (chars c.args.run.now) ≤ c.self.inside.width = subst (λ (s : SurfaceValue _). s.x + 2 * length (chars c.args.run.now) ≤ s.width) (sym c.self.view_is) c.requires.fits in
    let wide : AreWide (measure g.W.Widths.width_of c.self.inside.widths) (chars c.args.run.now) = subst (λ (s : SurfaceValue _). AreWide (measure g.W.Widths.width_of s.widths) (chars c.args.run.now)) (sym c.self.view_is) c.requires.wide in
    (rw (c.in_ok-paint_letters.ensures.ok, c.letter_count.ensures, c.in_ok-paint_letters.ensures.sides.flags) (any_numbers _ _ _ _ (IsPrinted-letters (measure g.W.Widths.width_of c.self.inside.widths) (record { space = g.met.W.Widths.space_has_one c.self.inside.widths None }) (chars c.args.run.now) _ c.self.invariant.0 fits c.requires.letters wide).sound), c.in_ok-paint_letters.ensures.sides.vectors c.self.invariant.1, c.mark_row.ensures.len ∙ c.self.invariant.2)

pub returns-clause-ok : goal.returns-clause-ok
returns-clause-ok g c =
    let fits : c.self.inside.x + 2 * length (chars c.args.run.now) ≤ c.self.inside.width = subst (λ (s : SurfaceValue _). s.x + 2 * length (chars c.args.run.now) ≤ s.width) (sym c.self.view_is) c.requires.fits in
    let wide : AreWide (measure g.W.Widths.width_of c.self.inside.widths) (chars c.args.run.now) = subst (λ (s : SurfaceValue _). AreWide (measure g.W.Widths.width_of s.widths) (chars c.args.run.now)) (sym c.self.view_is) c.requires.wide in
    rw (← c.self.view_is, c.in_ok-paint_letters.ensures.ok, c.letter_count.ensures, c.in_ok-paint_letters.ensures.sides.flags) (record {
      widths = refl;
      width = refl;
      height = refl;
      full = refl;
      log = refl;
      mark = refl;
      rows = marks-alike _ _ _ _
          (λ j. run-touches (measure g.W.Widths.width_of c.self.inside.widths) encode_utf8 letter_cell set_letters (λ ls. 2 * length ls) letter_run j (chars c.args.run.now) _ c.requires.some fits (AllPrint-letters _ c.self.inside.pen (chars c.args.run.now) c.requires.letters wide))
          (marks-set c.self.inside.y _ _ _ refl c.mark_row.ensures.marked refl refl);
      screen_is = (IsPrinted-letters (measure g.W.Widths.width_of c.self.inside.widths) (record { space = g.met.W.Widths.space_has_one c.self.inside.widths None }) (chars c.args.run.now) _ c.self.invariant.0 fits c.requires.letters wide).screen;
      kept_is = (IsPrinted-letters (measure g.W.Widths.width_of c.self.inside.widths) (record { space = g.met.W.Widths.space_has_one c.self.inside.widths None }) (chars c.args.run.now) _ c.self.invariant.0 fits c.requires.letters wide).kept;
    })
