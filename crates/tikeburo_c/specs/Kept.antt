-- What a handle may have.
use Rattle.std.specs.Prelude.{ℕ, ◌==◌, if◌then◌else◌, List, Option, Some, None}
use Rattle.termwiz_line.specs.LineValue.{LineValue}
use Rattle.termwiz_screen.specs.Log.{next_number}
use Rattle.termwiz_surface.specs.Surface.{SurfaceValue}
use Rattle.tikeburo_c.specs.declared.kept.Kept.{Kept}
use Rattle.tikeburo_c.specs.declared.kept.Kept.TheVariants.{Surface, Viewer, Client, Lines}
use Rattle.tikeburo_c.specs.declared.widths.ChosenWidths.{ChosenWidths}

-- what is read of it: the surface, or the one that the viewer or the client shows; lines show none
abbrev pub shown_of : Kept → Option (SurfaceValue ChosenWidths)
shown_of (Surface s) = Some s.surface
shown_of (Viewer f) = Some f.viewer.surface
shown_of (Client c) = Some c.surface
shown_of (Lines l) = None

-- the lines, where it has some
abbrev pub lines_of : Kept → Option (List LineValue)
lines_of (Lines l) = Some l
lines_of (Surface s) = None
lines_of (Viewer f) = None
lines_of (Client c) = None

-- the surface's number as a source, or 0, which is none
abbrev pub number_of : Kept → ℕ
number_of (Surface s) = s.number
number_of (Viewer f) = 0
number_of (Client c) = 0
number_of (Lines l) = 0

-- the number of the surface that it shows, which may be itself, as a source, or 0 where it shows
-- none
abbrev pub source_shown : Kept → ℕ
source_shown (Surface s) = s.number
source_shown (Viewer f) = f.source
source_shown (Client c) = c.source
source_shown (Lines l) = 0

-- the number of that surface's coming change when it showed this, or 0 where there is none
abbrev pub number_reached : Kept → ℕ
number_reached (Surface s) = next_number s.surface.log
number_reached (Viewer f) = if f.source == 0 then 0 else f.viewer.last
number_reached (Client c) = c.number
number_reached (Lines l) = 0
