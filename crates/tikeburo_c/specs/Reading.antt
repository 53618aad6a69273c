-- What is read of surfaces.
use Rattle.std.specs.Prelude.{ℕ, ℤ, List}
use Rattle.termwiz_screen.specs.ShownChars.{shown_chars}
use Rattle.termwiz_surface.specs.Surface.{SurfaceValue, lengths_of, screen_of}
use Rattle.tikeburo_c.specs.Handles.{handle_value}
use Rattle.tikeburo_c.specs.Outcomes.{Reports}
use Rattle.tikeburo_c.specs.Results.{ReadsInto, Returns}
use Rattle.tikeburo_c.specs.declared.handle.Handle.{Handle}
use Rattle.tikeburo_c.specs.declared.widths.ChosenWidths.{ChosenWidths}

-- the call returned this value of the surface that the handle has or its viewer shows
abbrev pub ReadsValue : {B : Type 0} → (SurfaceValue ChosenWidths → B) → Handle → B → ℤ → B → Type 0
ReadsValue read handle old number new =
    Reports number
    (λ outcome. ReadsInto (λ s. Returns (read s)) (handle_value handle) old outcome new)

-- the texts of all rows
abbrev pub screen_text : SurfaceValue ChosenWidths → List ℕ
screen_text s = shown_chars (screen_of s).rows (lengths_of s)
