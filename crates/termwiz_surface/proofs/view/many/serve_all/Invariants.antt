use Rattle.std.proofs.Common.{◌≡◌, List, [], ◌++◌, length}
use Rattle.std.specs.List.{All}
use Rattle.termwiz_cell.specs.Measure.{measure}
use Rattle.termwiz_surface.specs.ManySchedule.{Held, IsManyInRange, RunsMany}
use Rattle.termwiz_surface.specs.ManySteps.{Remembers, many_state}
use Rattle.termwiz_surface.specs.declared.view.many.ManyEvent.{ManyEvent}
use Rattle.termwiz_surface.proofs.view.many.serve_all.Given as goal

-- some events are done, the others wait, the outcomes so far are those of a run to here, and what the numbers so far name holds of all viewers and answers
abbrev pub invariant-loop-event : goal.invariant-loop-event
invariant-loop-event g l =
    (done : List (ManyEvent g.row.W.Denot)) × (done ++ l.waiting ≡ l.fn.events.items) × All IsManyInRange l.waiting
    × (held : List Held) × Remembers (measure g.W.Widths.width_of) l.surface l.viewers.items l.answers.items held
    × RunsMany (measure g.W.Widths.width_of) (many_state l.fn.surface l.fn.viewers.items []) done l.outcomes.items (many_state l.surface l.viewers.items held)

abbrev pub decreases-loop-event : goal.decreases-loop-event
decreases-loop-event g l = length l.waiting
