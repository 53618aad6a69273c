-- Where the last cell of a diff ended.
use Rattle.std.specs.Prelude.{ℕ, List, Option, Some, None}
use Rattle.termwiz_cell.specs.Attributes.{Attributes}
use Rattle.termwiz_cell.specs.ChangeValue.{ChangeValue}
use Rattle.termwiz_screen.specs.Diff.{End, PrintedOut}
use Rattle.termwiz_screen.specs.declared.diff.writer.End as code

-- as the writer has it
abbrev pub end_value : Option code.End → Option End
end_value None = None
end_value (Some e) = Some (record { x = e.x; y = e.y; pen = e.pen.now })

-- at column x of row y, with a pen
abbrev pub ended_at : List ChangeValue → ℕ → ℕ → Attributes → PrintedOut
ended_at entries x y pen =
    record { entries = entries; end = Some (record { x = x; y = y; pen = pen }) }
