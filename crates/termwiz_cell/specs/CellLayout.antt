-- How the fields of a `Cell` give the cell.
use Rattle.std.specs.Prelude.{◌≡◌, ℕ, ◌≤◌, Bool, true, false, List, length, string_bytes}
use Rattle.termwiz_cell.specs.declared.cell.Cell.TheInside.{Inside}
use Rattle.termwiz_cell.specs.declared.cell.text.CellText.{CellText}
use Rattle.termwiz_cell.specs.declared.cell.text.CellText.TheVariants.{Narrow, Wide, Long}
use Rattle.termwiz_cell.specs.CellValue.{CellValue, clean}

-- the bytes of a text in any form
abbrev pub text_in : CellText → List ℕ
text_in (Narrow short) = short.bytes
text_in (Wide short) = short.bytes
text_in (Long b) = string_bytes b.value.text

-- whether it takes two columns
abbrev pub wide_in : CellText → Bool
wide_in (Narrow _) = false
wide_in (Wide _) = true
wide_in (Long b) = b.value.wide

-- a text is clean, and on the heap exactly where it has more than seven bytes
abbrev pub HasTextForm : CellText → Type 0
HasTextForm (Narrow short) = (clean short.bytes ≡ short.bytes) × (length short.bytes ≤ 7)
HasTextForm (Wide short) = (clean short.bytes ≡ short.bytes) × (length short.bytes ≤ 7)
HasTextForm (Long b) =
    (clean (string_bytes b.value.text) ≡ string_bytes b.value.text) ×
    (8 ≤ length (string_bytes b.value.text))

abbrev pub cell_value : Inside → CellValue
cell_value c = record { text = text_in c.text; wide = wide_in c.text; attrs = c.attrs }
