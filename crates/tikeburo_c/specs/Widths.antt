-- How wide texts are by each choice, the choice of each number, and that of a table.
use Rattle.std.specs.Borrow.{Bor}
use Rattle.std.specs.Prelude.{◌≡◌, ℕ, List, [], Option, Some, None, true, false, ◌==◌, if◌then◌else◌}
use Rattle.termwiz_cell.specs.Width.{unicode_columns, variation}
use Rattle.termwiz_cell.specs.declared.emoji.Presentation.{Presentation}
use Rattle.termwiz_cell.specs.declared.emoji.Presentation.TheVariants.{Text}
use Rattle.tikeburo_c.specs.WidthRanges.{columns_in, is_table}
use Rattle.tikeburo_c.specs.declared.tables.WidthRange.{WidthRange}
use Rattle.tikeburo_c.specs.declared.tables.WidthTable.{WidthTable}
use Rattle.tikeburo_c.specs.declared.widths.Choice.{Choice}
use Rattle.tikeburo_c.specs.declared.widths.Choice.TheVariants.{Unicode, OneColumn, Table}
use Rattle.tikeburo_c.specs.declared.widths.ChosenWidths.{ChosenWidths}

abbrev pub columns_of_choice : Choice WidthTable → List ℕ → ℕ
columns_of_choice Unicode text = unicode_columns text
columns_of_choice OneColumn text = 1
columns_of_choice (Table table) text = columns_in table.ranges.now text

abbrev pub columns_by : ChosenWidths → List ℕ → ℕ
columns_by widths = columns_of_choice widths.choice

abbrev pub presentation_by : ChosenWidths → List ℕ → Presentation × Option Presentation
presentation_by widths text = of_choice widths.choice
  where
    of_choice : Choice WidthTable → Presentation × Option Presentation
    of_choice OneColumn = (Text, None)
    of_choice _ = (Text, variation text)

abbrev pub choice_at : ℕ → Option (Choice WidthTable)
choice_at n = if n == 0 then Some Unicode else if n == 1 then Some OneColumn else None

abbrev pub widths_at : ℕ → Option ChosenWidths
widths_at n =
    if n == 0 then Some (record { choice = Unicode })
    else if n == 1 then Some (record { choice = OneColumn })
    else None

-- the number of each choice, and the ranges of a table
abbrev pub choice_number : Choice WidthTable → ℕ
choice_number Unicode = 0
choice_number OneColumn = 1
choice_number (Table table) = 2

abbrev pub ranges_of : Choice WidthTable → List WidthRange
ranges_of (Table table) = table.ranges.now
ranges_of Unicode = []
ranges_of OneColumn = []

-- the widths are by these ranges, or there are none, as the ranges are no table
abbrev pub AreBy : Bor (List WidthRange) → Option ChosenWidths → Type 0
AreBy ranges (Some widths) =
    (rises : is_table ranges.now ≡ true) ×
    (widths ≡ record { choice = Table (record { ranges = ranges; rises = rises }) })
AreBy ranges None = is_table ranges.now ≡ false
