use Rattle.std.proofs.Common.{◌-◌, ap, ◌∙◌, arith}
use Rattle.termwiz_screen.specs.Step.{regions_fit}
use Rattle.termwiz_screen.proofs.LogRegions.{regions-drop}
use Rattle.termwiz_surface.proofs.Remembering.{known_reaches}
use Rattle.termwiz_surface.proofs.surface.Surface.delta.Goals as goal

pub invariant_of-result : goal.invariant_of-result
invariant_of-result g c =
    let s = c.self.inside in
    let sound = c.self.invariant.0 in
    record {
      some_column = sound.some_column;
      some_row = sound.some_row;
      fits = sound.fits;
      fits_height = sound.fits_height;
      ordered = omega (arith, known_reaches c.delta_limit.result s.log c.args.seq c.in_ok-due.ensures.some.0, c.next_number.ensures);
      regions = ap (regions_fit s.height) c.in_ok-due.ensures.some.1 ∙ regions-drop s.height (c.args.seq - s.log.first) s.log.changes sound.regions;
    }
