-- What a surface answers to a viewer's number.
use Rattle.std.specs.Prelude.{◌≡◌, ℕ, ◌-◌, Bool, List}
use Rattle.termwiz_cell.specs.ChangeValue.{ChangeValue}
use Rattle.termwiz_screen.specs.Log.{LogValue, next_number, flushed, is_known, delta_limit}
use Rattle.termwiz_screen.specs.Printable.{HasSize}
use Rattle.termwiz_screen.specs.Repaint.{repaint_in}
use Rattle.termwiz_screen.specs.Screen.{Screen}
use Rattle.termwiz_screen.specs.Step.{replay}
use Rattle.termwiz_screen.specs.Stream.{IsStream, IsFullStream, most_entries}
use Rattle.termwiz_surface.specs.Surface.{SurfaceValue, screen_of, kept_of, full_of}

-- the log with only its last changes, at most `most` of them
abbrev pub forgotten : ℕ → LogValue → LogValue
forgotten most l = flushed l (next_number l - most)

module _ {W : Type 0} where
  -- whether the surface answers this number by the changes that are due, rather than by a repaint
  abbrev pub knows : SurfaceValue W → ℕ → Bool
  knows s n = is_known (delta_limit s.width s.height) s.log n

  -- the surface's repaint
  abbrev pub own_repaint : SurfaceValue W → List ChangeValue
  own_repaint s = repaint_in s.full (screen_of s) (kept_of s)

  -- how many entries the surface's repaint has at most
  abbrev pub most_own_entries : SurfaceValue W → ℕ
  most_own_entries s = most_entries s.full s.width s.height

  module _ (measure_of : W → List ℕ → ℕ) (s : SurfaceValue W) where
    -- replayed on any screen of its size, whatever that shows, the changes give its screen
    abbrev pub Repaints : List ChangeValue → Type 0
    Repaints changes =
        (t : Screen) → HasSize s.width s.height t →
        replay (measure_of s.widths) t changes ≡ screen_of s

    -- the changes bring a viewer that was last given number n to its screen, or to its full screen
    abbrev pub StreamsFrom : ℕ → List ChangeValue → Type 0
    StreamsFrom n changes = IsStream (measure_of s.widths) (screen_of s) s.log n changes

    abbrev pub StreamsFullyFrom : ℕ → List ChangeValue → Type 0
    StreamsFullyFrom n changes = IsFullStream (measure_of s.widths) (full_of s) s.log n changes
