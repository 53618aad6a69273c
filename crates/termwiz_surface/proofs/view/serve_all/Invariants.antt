use Rattle.std.proofs.Common.{◌≡◌, List, ◌++◌, length}
use Rattle.std.specs.List.{All}
use Rattle.termwiz_cell.specs.Measure.{measure}
use Rattle.termwiz_surface.specs.Following.{Follows}
use Rattle.termwiz_surface.specs.Schedule.{IsInRange, Runs}
use Rattle.termwiz_surface.specs.declared.view.Event.{Event}
use Rattle.termwiz_surface.proofs.view.serve_all.Given as goal

-- some events are done, the others wait, and the outcomes so far are those of a run to here
abbrev pub invariant-loop-event : goal.invariant-loop-event
invariant-loop-event g l =
    (done : List (Event g.row.W.Denot)) × (done ++ l.waiting ≡ l.fn.events.items) × All IsInRange l.waiting × Follows (measure g.W.Widths.width_of) l.viewer l.surface
    × Runs (measure g.W.Widths.width_of) l.fn.surface l.fn.viewer done l.outcomes.items l.surface l.viewer

abbrev pub decreases-loop-event : goal.decreases-loop-event
decreases-loop-event g l = length l.waiting
