use Rattle.std.proofs.Common.{false, refl}
use Rattle.termwiz_cell.specs.Measure.{measure}
use Rattle.termwiz_surface.specs.Surface.{blank_surface}
use Rattle.termwiz_surface.proofs.ManyRuns.{remembers-blank}
use Rattle.termwiz_surface.proofs.view.many.run_many.Goals as goal

pub serve_all-requires-clause-remembers : goal.serve_all-requires-clause-remembers
serve_all-requires-clause-remembers g c =
    let first = blank_surface c.args.widths c.args.width c.args.height false in
    rw (c.in_ok-seats.ensures, c.in_ok-surface.ensures) (remembers-blank (measure g.W.Widths.width_of) first c.args.viewers refl)

pub returns : goal.returns
returns g c = rw (c.in_ok-seats.ensures, c.in_ok-surface.ensures) at c.serve_all.ensures
