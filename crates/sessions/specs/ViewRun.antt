-- What comes of a script: the outcomes of some events on a blank surface of the size that the words
-- give, with one viewer or with ten.
use Rattle.std.specs.Prelude.{ℕ, List, String}
use Rattle.termwiz_cell.specs.Width.{unicode_columns}
use Rattle.termwiz_cell.specs.declared.emoji.UnicodeWidths.{UnicodeWidths}
use Rattle.termwiz_surface.specs.ManySchedule.{IsManySchedule}
use Rattle.termwiz_surface.specs.Schedule.{IsSchedule}
use Rattle.sessions.specs.declared.view.script.Events.{Events}
use Rattle.sessions.specs.declared.view.script.Events.TheVariants as script
use Rattle.sessions.specs.declared.view.runs.Outcomes.{Outcomes}
use Rattle.sessions.specs.declared.view.runs.Outcomes.TheVariants.{OfOne, OfMany}
use Rattle.sessions.specs.Size.{GiveSizes}

-- the width value, which has no parts
abbrev pub unicode : UnicodeWidths
unicode = record {}

-- the schedule allows these outcomes for the events, on a blank surface of this width and height
abbrev pub ComeFrom : ℕ → ℕ → Events → Outcomes → Type 0
ComeFrom w h (script.OfOne events) (OfOne outcomes) =
    IsSchedule (λ widths. unicode_columns) unicode w h events.items outcomes.items
ComeFrom w h (script.OfMany events) (OfMany outcomes) =
    IsManySchedule (λ widths. unicode_columns) unicode w h 10 events.items outcomes.items
ComeFrom _ _ _ _ = ⊥

pub record IsViewRun {A : Type 0} (words : List (String A)) (outcomes : Outcomes) : Type 0 where
  pub width : ℕ
  pub height : ℕ
  pub sizes : GiveSizes words width height
  pub events : Events
  pub schedule : ComeFrom width height events outcomes
