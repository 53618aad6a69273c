-- The sizes that the events of a script name are such as a surface may have.
use Rattle.std.specs.List.{All}
use Rattle.termwiz_surface.specs.ManySchedule.{IsManyInRange}
use Rattle.termwiz_surface.specs.Schedule.{IsInRange}
use Rattle.sessions.specs.declared.view.script.Events.{Events}
use Rattle.sessions.specs.declared.view.script.Events.TheVariants.{OfOne, OfMany}

abbrev pub AreInRange : Events → Type 0
AreInRange (OfOne events) = All IsInRange events.items
AreInRange (OfMany events) = All IsManyInRange events.items
