use Rattle.std.proofs.Common.{◌∙◌, ◌+◌, ◌≤◌, [], ◌∷◌, length, refl, sym, subst}
use Rattle.std.specs.Prelude.{None}
use Rattle.termwiz_cell.specs.CellValue.{plain_cell}
use Rattle.termwiz_cell.specs.Measure.{measure}
use Rattle.termwiz_storage.specs.Stored.{set_run}
use Rattle.termwiz_screen.specs.Runs.{AreNarrow}
use Rattle.termwiz_surface.specs.Surface.{SurfaceValue}
use Rattle.termwiz_surface.proofs.Drawn.{any_numbers}
use Rattle.termwiz_surface.proofs.RowNumbers.{marks-alike, marks-set}
use Rattle.termwiz_surface.proofs.Printing.{AllPrint-plain, IsPrinted-plain, plain_run, run-touches}
use Rattle.termwiz_surface.proofs.surface.Surface.put_run.Goals as goal

pub invariant_of-self-2 : goal.invariant_of-self-2
invariant_of-self-2 g c =
    let fits : c.self.inside.x + length c.args.run.now ≤ c.self.inside.width = subst (λ (s : SurfaceValue _). s.x + length c.args.run.now ≤ s.width) (sym c.self.view_is) c.requires.fits in
    let narrow : AreNarrow (measure g.W.Widths.width_of c.self.inside.widths) c.args.run.now = subst (λ (s : SurfaceValue _). AreNarrow (measure g.W.Widths.width_of s.widths) c.args.run.now) (sym c.self.view_is) c.requires.narrow in
    (rw (c.in_ok-paint_run.ensures.ok, c.in_ok-paint_run.ensures.sides.flags) (any_numbers _ _ _ _ (IsPrinted-plain (measure g.W.Widths.width_of c.self.inside.widths) (record { space = g.met.W.Widths.space_has_one c.self.inside.widths None }) c.args.run.now _ c.self.invariant.0 fits c.requires.plain narrow).sound), c.in_ok-paint_run.ensures.sides.vectors c.self.invariant.1, c.mark_row.ensures.len ∙ c.self.invariant.2)

pub returns-clause-ok : goal.returns-clause-ok
returns-clause-ok g c =
    let fits : c.self.inside.x + length c.args.run.now ≤ c.self.inside.width = subst (λ (s : SurfaceValue _). s.x + length c.args.run.now ≤ s.width) (sym c.self.view_is) c.requires.fits in
    let narrow : AreNarrow (measure g.W.Widths.width_of c.self.inside.widths) c.args.run.now = subst (λ (s : SurfaceValue _). AreNarrow (measure g.W.Widths.width_of s.widths) c.args.run.now) (sym c.self.view_is) c.requires.narrow in
    rw (← c.self.view_is, c.in_ok-paint_run.ensures.ok, c.in_ok-paint_run.ensures.sides.flags) (record {
      widths = refl;
      width = refl;
      height = refl;
      full = refl;
      log = refl;
      mark = refl;
      rows = marks-alike _ _ _ _
          (λ j. run-touches (measure g.W.Widths.width_of c.self.inside.widths) (λ b. b ∷ []) plain_cell set_run length plain_run j c.args.run.now _ c.requires.some fits (AllPrint-plain _ c.self.inside.pen c.args.run.now c.requires.plain narrow))
          (marks-set c.self.inside.y _ _ _ refl c.mark_row.ensures.marked refl refl);
      screen_is = (IsPrinted-plain (measure g.W.Widths.width_of c.self.inside.widths) (record { space = g.met.W.Widths.space_has_one c.self.inside.widths None }) c.args.run.now _ c.self.invariant.0 fits c.requires.plain narrow).screen;
      kept_is = (IsPrinted-plain (measure g.W.Widths.width_of c.self.inside.widths) (record { space = g.met.W.Widths.space_has_one c.self.inside.widths None }) c.args.run.now _ c.self.invariant.0 fits c.requires.plain narrow).kept;
    })
