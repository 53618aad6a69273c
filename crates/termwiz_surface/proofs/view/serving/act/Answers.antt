use Rattle.std.proofs.Common.{◌+◌, ◌-◌, map}
use Rattle.std.specs.Prelude.{vec_len}
use Rattle.termwiz_cell.specs.ChangeValue.{change_value}
use Rattle.termwiz_cell.specs.Measure.{measure}
use Rattle.termwiz_screen.specs.Log.{next_number}
use Rattle.termwiz_surface.specs.Adding.{Adds}
use Rattle.termwiz_surface.specs.Copies.{IsDrawn, IsCopied, whole_at}
use Rattle.termwiz_surface.proofs.Running.{Reports-answer}
use Rattle.termwiz_surface.proofs.view.serving.act.Goals as goal

pub returns-in-Changes-clause-step : goal.returns-in-Changes-clause-step
returns-in-Changes-clause-step g c =
    let s = c.args.surface.now in
    let changes = c.in-Changes.changes in
    rw c.in-Changes.is
    (Reports-answer (λ result. Adds (measure g.W.Widths.width_of s.widths) s (map change_value changes.items) (next_number s.log - 1 + vec_len changes) result c.add_changes.new.self) c.add_changes.result c.answered.result c.answered.ensures c.add_changes.ensures.adds)

pub returns-in-Draw-clause-step : goal.returns-in-Draw-clause-step
returns-in-Draw-clause-step g c =
    let at = c.in-Draw in
    rw c.in-Draw.is
    (Reports-answer (λ result. IsDrawn (measure g.W.Widths.width_of) c.args.surface.now at.other (whole_at at.other at.x at.y) result c.draw_from_screen.new.self) c.draw_from_screen.result c.answered-in-Draw.result c.answered-in-Draw.ensures c.draw_from_screen.ensures.drawn)

pub returns-in-Copy-clause-step : goal.returns-in-Copy-clause-step
returns-in-Copy-clause-step g c =
    let at = c.in-Copy in
    rw c.in-Copy.is
    (Reports-answer (λ result. IsCopied (measure g.W.Widths.width_of) c.args.surface.now at.src_x at.src_y at.width at.height at.dest_x at.dest_y result c.copy_region-answer.new.self) c.copy_region-answer.result c.answered-in-Copy.result c.answered-in-Copy.ensures c.copy_region-answer.ensures.copied)
