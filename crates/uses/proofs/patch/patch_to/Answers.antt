use Rattle.std.proofs.Common.{◌≤◌, ◌*◌, ap, length, subst, sym}
use Rattle.termwiz_surface.specs.{measure, screen_of}
use Rattle.uses.proofs.RowsOfForm.{rows_of_form}
use Rattle.uses.proofs.patch.patch_to.Goals as goal

pub returns-clause-few : goal.returns-clause-few
returns-clause-few g c ps within leads =
    let s = screen_of c.args.surface.now in
    let own = rows_of_form (measure g.W.Widths.width_of c.args.surface.now.widths) s c.dimensions-form.ensures.printable in
    subst (λ n. n ≤ 3 * length ps) (sym (ap length (c.in_ok-patch.ensures.prints c.requires.same_width c.requires.same_height c.requires.alike)))
    (c.fewest_prints.ensures.thirds s.width s.height s.rows (screen_of c.args.target.now).rows ps own within leads)
