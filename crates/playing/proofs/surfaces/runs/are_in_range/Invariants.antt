use Rattle.std.specs.List.{AllWithin}
use Rattle.termwiz_surface.specs.{IsInRange}
use Rattle.playing.proofs.surfaces.runs.are_in_range.Given as goal

-- the events so far are in range
abbrev pub invariant-loop-event : goal.invariant-loop-event
invariant-loop-event l = AllWithin IsInRange l.events 0 l.event-index
