use Rattle.std.proofs.Common.{◌≡◌, ◌++◌, map}
use Rattle.termwiz_text.specs.Left.{graphemes_to_come}
use Rattle.termwiz_cell.specs.CellValue.{measured}
use Rattle.termwiz_cell.specs.Width.{at_version}
use Rattle.termwiz_storage.specs.Edits.{with_halves}
use Rattle.termwiz_line.specs.Texts.{cells_of_text, at_columns}
use Rattle.termwiz_line.proofs.line.line.texts.push_text.Given as goal

-- what is left to push leads to the whole text
abbrev pub invariant-loop-grapheme : goal.invariant-loop-grapheme
invariant-loop-grapheme g l =
    let measure = at_version (g.W.Widths.width_of l.widths) l.version in
    l.cells.items ++ with_halves (at_columns 0 (map (λ t. measured measure t l.attrs) (graphemes_to_come l.grapheme-iterator)))
    ≡ l.fn.cells.items ++ with_halves (at_columns 0 (cells_of_text measure l.attrs l.text))
