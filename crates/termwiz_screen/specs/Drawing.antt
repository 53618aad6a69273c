-- The rows of a repaint as they are written, after the first entries.
use Rattle.std.specs.Prelude.{◌≡◌, ℕ, Bool, false, List, Option, Some, None}
use Rattle.termwiz_cell.specs.Attributes.{Attributes}
use Rattle.termwiz_cell.specs.CellValue.{CellValue}
use Rattle.termwiz_cell.specs.declared.change.Change.{Change}
use Rattle.termwiz_cell.specs.ChangeValue.{ChangeValue, change_value, is_text}
use Rattle.termwiz_line.specs.LastChange.{last_is}
use Rattle.termwiz_line.specs.Writing.{Writing, behind}
use Rattle.termwiz_screen.specs.Repaint.{is_clear_of, rows_upto}

-- an entry that is there clears to the end of the line with attributes a
abbrev pub clears : Attributes → Option Change → Bool
clears a None = false
clears a (Some e) = is_clear_of a (change_value e)

-- row i may be written next: nothing is held back, and the first row's text does not grow one
-- before it
pub record IsBeforeRow (i : ℕ) (writer : Writing) : Type 0 where
  pub between : writer.spaces ≡ 0
  pub apart : i ≡ 0 → last_is is_text writer.printed.entries ≡ false

-- the last of these entries is no text, and clears no line, so that rows may be written after them
pub record AreApart (first : List ChangeValue) : Type 0 where
  pub no_text : last_is is_text first ≡ false
  pub no_clear : (a : Attributes) → last_is (is_clear_of a) first ≡ false

-- the rows above row i are written after these entries, and nothing of that row
pub record IsWrittenUpto (first : List ChangeValue) (w : ℕ) (rows : List (List CellValue)) (i : ℕ)
    (writer : Writing) : Type 0 where
  pub printed : writer.printed ≡ behind first (rows_upto w rows i)
