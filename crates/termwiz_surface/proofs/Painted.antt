-- What becomes of a surface whose rows are written anew.
use Rattle.std.proofs.Common.{◌≡◌, ℕ, List, length, map, refl, ap, ap₂}
use Rattle.std.specs.Prelude.{Bool}
use Rattle.termwiz_cell.specs.Attributes.{Attributes}
use Rattle.termwiz_cell.specs.CellValue.{CellValue}
use Rattle.termwiz_line.specs.LineFlags.{LineFlags}
use Rattle.termwiz_line.specs.Row.{row_of}
use Rattle.termwiz_surface.specs.Surface.{SurfaceValue, Becomes, MarksRows, kept_of, screen_of}

module _ {W : Type 0} {s : SurfaceValue W} {lines rows : List (List CellValue)} {flags others : List LineFlags} {lengths numbers : List ℕ} {x y : ℕ} {pen : Attributes} {touched : ℕ → Bool} where
  pub becomes-painted : MarksRows touched s (record s { lines = lines; flags = flags; numbers = numbers; x = x; y = y; pen = pen }) → map (row_of s.width) lines ≡ rows → map length lines ≡ lengths → flags ≡ others
      → Becomes s (record (screen_of s) { rows = rows; x = x; y = y; pen = pen }) (record (kept_of s) { lengths = lengths; flags = others }) touched (record s { lines = lines; flags = flags; numbers = numbers; x = x; y = y; pen = pen })
  becomes-painted marks rows_are lengths_are flags_are = record {
    widths = refl;
    width = refl;
    height = refl;
    full = refl;
    log = refl;
    screen_is = ap (λ (rs : List (List CellValue)). record (screen_of s) { rows = rs; x = x; y = y; pen = pen }) rows_are;
    kept_is = ap₂ (λ (ls : List ℕ) (fs : List LineFlags). record (kept_of s) { lengths = ls; flags = fs }) lengths_are flags_are;
    mark = refl;
    rows = marks;
  }
