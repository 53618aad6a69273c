use Rattle.std.proofs.Common.{map}
use Rattle.std.proofs.lemmas.Result.{IfOk-weaker}
use Rattle.termwiz_cell.specs.ChangeValue.{change_value}
use Rattle.termwiz_cell.specs.Measure.{measure}
use Rattle.termwiz_screen.specs.Diff.{Region}
use Rattle.termwiz_surface.specs.Surface.{screen_of}
use Rattle.termwiz_screen.proofs.Diffs.Calls.{cut_region}
use Rattle.termwiz_surface.proofs.surface.Surface.diff_region.Goals as goal

pub returns-clause-region : goal.returns-clause-region
returns-clause-region g c =
    let f = measure g.W.Widths.width_of c.args.self.now.widths in
    let h = measure g.W.Widths.width_of c.args.other.now.widths in
    let r : Region = record { x = c.args.x; y = c.args.y; width = c.args.width; height = c.args.height; other_x = c.args.other_x; other_y = c.args.other_y } in
    IfOk-weaker c.diff_of.result _ _
    (λ l d. cut_region f h (screen_of c.args.self.now) (screen_of c.args.other.now) (map change_value l.items) c.diff_of.ensures.own c.diff_of.ensures.other r d)
    c.diff_of.ensures.diff
