-- What is set beside the rows, as the struct that C has of it.
use Rattle.std.specs.Prelude.{Option, Some, None, is_some}
use Rattle.termwiz_cell.specs.{shape_number}
use Rattle.termwiz_screen.specs.FullScreen.{shape_of}
use Rattle.termwiz_surface.specs.Surface.{SurfaceValue}
use Rattle.tikeburo_c.specs.Fields.{attribute_fields, color_fields}
use Rattle.tikeburo_c.specs.Kept.{number_reached, shown_of, source_shown}
use Rattle.tikeburo_c.specs.Outcomes.{Outcome}
use Rattle.tikeburo_c.specs.Results.{Refused, Returns, OfKind}
use Rattle.tikeburo_c.specs.declared.failure.Failure.TheVariants.{NoHandle}
use Rattle.tikeburo_c.specs.declared.kept.Kept.{Kept}
use Rattle.tikeburo_c.specs.declared.states.StateFields.{StateFields}
use Rattle.tikeburo_c.specs.declared.widths.ChosenWidths.{ChosenWidths}

abbrev pub state_fields : Kept → SurfaceValue ChosenWidths → StateFields
state_fields kept s = record {
  source = source_shown kept;
  number = number_reached kept;
  is_full = s.full;
  has_link = is_some s.pen.hyperlink;
  cursor_shape = shape_number (shape_of s.shape);
  cursor_color = color_fields s.color;
  pen = attribute_fields s.pen;
}

-- the call returned this value of what the handle has, and of the surface that this shows
abbrev pub ReadsKept :
    {B : Type 0} → (Kept → SurfaceValue ChosenWidths → B) → Option Kept → B → Outcome → B → Type 0
ReadsKept read (Some kept) = OfKind (λ s. Returns (read kept s)) (shown_of kept)
ReadsKept read None = Refused NoHandle
