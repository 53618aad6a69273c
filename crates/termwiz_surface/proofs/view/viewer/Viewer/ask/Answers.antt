use Rattle.std.proofs.Common.{◌≡◌, Err, ap, subst, sym, rules}
use Rattle.termwiz_cell.specs.Measure.{measure}
use Rattle.termwiz_screen.specs.Stream.{stream_of}
use Rattle.termwiz_surface.specs.Following.{ViewerValue, IsAnswer, Fetches}
use Rattle.termwiz_surface.proofs.Viewing.{Fetches-unfitted}
use Rattle.termwiz_surface.proofs.view.viewer.Viewer.ask.Goals as goal

pub returns-clause-fetches : goal.returns-clause-fetches
returns-clause-fetches g c =
    let s = c.args.source.now in
    let got = c.in_ok-number.ensures in (
      got.number,
      c.in_ok-fit.ensures.fits,
      subst (λ n. IsAnswer (measure g.W.Widths.width_of s.widths) s n (stream_of c.in_ok-number.changes)) (ap (λ (v : ViewerValue _). v.last) c.self.view_is)
          (record { stream = got.stream; full = got.full; regions = got.regions; entries = got.entries; short = got.short }),
    )

pub returns-in_err-fit-clause-fetches : goal.returns-in_err-fit-clause-fetches
returns-in_err-fit-clause-fetches g c =
    let error = c.in_err-fit.field-0.0 in
    let missed : c.from_residual.result ≡ Err error = search rules in
    subst (λ r. Fetches (measure g.W.Widths.width_of c.args.source.now.widths) c.args.source.now c.args.self.now r c.fit.new.self) (sym missed)
    (Fetches-unfitted (measure g.W.Widths.width_of c.args.source.now.widths) c.args.source.now c.args.self.now c.fit.new.self error c.in_err-fit.ensures.fits)
