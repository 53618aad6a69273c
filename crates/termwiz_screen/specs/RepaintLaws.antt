-- What repaints and row entries do when they are replayed, by any width function that gives a
-- single space one column.
use Rattle.std.specs.Prelude.{◌≡◌, ℕ, ◌+◌, ◌*◌, ◌<◌, ◌≤◌, List, length, Option}
use Rattle.termwiz_cell.specs.declared.change.CursorShape.{CursorShape}
use Rattle.termwiz_cell.specs.CellValue.{CellValue, space}
use Rattle.termwiz_storage.specs.Stored.{visible}
use Rattle.termwiz_line.specs.Row.{row_of}
use Rattle.termwiz_line.specs.Entries.{row_entries}
use Rattle.termwiz_screen.specs.Screen.{Screen}
use Rattle.termwiz_screen.specs.Step.{replay}
use Rattle.termwiz_screen.specs.Repaint.{repaint}
use Rattle.termwiz_screen.specs.Printable.{ArePrintable, IsPrintable, IsAtBlankRow, HasSize, LeavesRow}

-- the repaint of a screen that text can print, with any title and shape, replayed on any screen of
-- that size, gives the screen: its rows, cursor, visibility and pen
abbrev pub RepaintGivesScreen : Type 0
RepaintGivesScreen =
    (measure : List ℕ → ℕ) → measure space ≡ 1 →
    (t s : Screen) (title : List ℕ) (shape : Option CursorShape) → IsPrintable measure t →
    HasSize t.width t.height s →
    replay measure s (repaint t title shape) ≡ t

-- the repaint of a screen with a row has at most two entries for each column of each row, one more
-- for each row, and six more, the title and the shape among them
abbrev pub RepaintIsShort : Type 0
RepaintIsShort =
    (t : Screen) (title : List ℕ) (shape : Option CursorShape) → 0 < t.height →
    length (repaint t title shape) ≤ 2 * (t.width * t.height) + t.height + 6

-- the entries of a line that is as wide as the screen, replayed from the start of a blank row on,
-- leave the line's row there, and nothing else is changed but the pen and the cursor's column
abbrev pub LineEntriesGiveRow : Type 0
LineEntriesGiveRow =
    (measure : List ℕ → ℕ) → measure space ≡ 1 → (s : Screen) (cells : List CellValue) →
    length cells ≡ s.width → ArePrintable measure cells → IsAtBlankRow s →
    let d = row_entries s.pen (visible cells) in
    LeavesRow s (row_of s.width cells) d.pen (replay measure s d.entries)
