use Rattle.std.proofs.Common.{subst}
use Rattle.termwiz_cell.specs.Measure.{measure}
use Rattle.termwiz_screen.specs.FullScreen.{HasFullSize}
use Rattle.termwiz_surface.specs.Surface.{SurfaceValue, screen_of, full_of}
use Rattle.termwiz_screen.specs.Printable.{HasSize, IsPrintable}
use Rattle.termwiz_surface.proofs.SoundRepaint.{sound_has_size, sound_has_full_size, sound_is_printable}
use Rattle.termwiz_surface.proofs.surface.Surface.dimensions.Goals as goal

pub returns-clause-sized : goal.returns-clause-sized
returns-clause-sized g c = subst (λ (v : SurfaceValue _). HasSize v.width v.height (screen_of v)) c.self.view_is (sound_has_size _ _ c.self.invariant.0)

pub returns-clause-fully_sized : goal.returns-clause-fully_sized
returns-clause-fully_sized g c = subst (λ (v : SurfaceValue _). HasFullSize v.width v.height (full_of v)) c.self.view_is (sound_has_full_size _ _ c.self.invariant.0)

pub returns-clause-printable : goal.returns-clause-printable
returns-clause-printable g c = subst (λ (v : SurfaceValue _). IsPrintable (measure g.W.Widths.width_of v.widths) (screen_of v)) c.self.view_is (sound_is_printable _ _ c.self.invariant.0)
