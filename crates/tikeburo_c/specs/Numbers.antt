-- The variants that the numbers of C name.
use Rattle.std.specs.Prelude.{ℕ, Option, Some, None, nat_lt, if◌then◌else◌}
use Rattle.termwiz_cell.specs.{blink_at, intensity_at, line_at, semantic_at, shape_at, underline_at, vertical_at}
use Rattle.termwiz_cell.specs.declared.cell.style.Blink.{Blink}
use Rattle.termwiz_cell.specs.declared.cell.style.Intensity.{Intensity}
use Rattle.termwiz_cell.specs.declared.cell.style.SemanticType.{SemanticType}
use Rattle.termwiz_cell.specs.declared.cell.style.Underline.{Underline}
use Rattle.termwiz_cell.specs.declared.cell.style.VerticalAlign.{VerticalAlign}
use Rattle.termwiz_cell.specs.declared.change.CursorShape.{CursorShape}
use Rattle.termwiz_cell.specs.declared.change.LineAttribute.{LineAttribute}

-- the variant of this number, if it is below the limit
abbrev pub numbered : {A : Type 0} → ℕ → (ℕ → A) → ℕ → Option A
numbered limit at n = if nat_lt n limit then Some (at n) else None

abbrev pub intensity_in : ℕ → Option Intensity
intensity_in = numbered 3 intensity_at

abbrev pub underline_in : ℕ → Option Underline
underline_in = numbered 6 underline_at

abbrev pub blink_in : ℕ → Option Blink
blink_in = numbered 3 blink_at

abbrev pub semantic_in : ℕ → Option SemanticType
semantic_in = numbered 3 semantic_at

abbrev pub align_in : ℕ → Option VerticalAlign
align_in = numbered 3 vertical_at

abbrev pub cursor_shape_in : ℕ → Option CursorShape
cursor_shape_in = numbered 7 shape_at

abbrev pub line_in : ℕ → Option LineAttribute
line_in = numbered 4 line_at
