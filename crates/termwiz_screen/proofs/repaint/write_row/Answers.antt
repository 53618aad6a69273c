use Rattle.std.proofs.Common.{◌≡◌, ◌-◌, ◌++◌, length, sym, ap, ◌∙◌}
use Rattle.termwiz_cell.specs.Attributes.{default_attributes}
use Rattle.termwiz_cell.specs.CellValue.{CellValue}
use Rattle.termwiz_line.specs.Entries.{all_spaces, row_entries}
use Rattle.termwiz_line.specs.Writing.{behind}
use Rattle.termwiz_screen.specs.Padding.{blanks_from}
use Rattle.termwiz_screen.proofs.ShownCells.{padded_visible, blanks_spaces, length-blanks}
use Rattle.termwiz_screen.proofs.repaint.write_row.Goals as goal

pub returns-clause-row : goal.returns-clause-row
returns-clause-row c =
    let cells = c.args.row.now.cells in
    let n = c.args.width - c.len.result in
    let blanks = blanks_from (length cells) n in
    let plain : default_attributes ≡ c.attrs.result.now = sym (c.attrs.ensures ∙ ap (λ (b : CellValue). b.attrs) c.requires.blank) in
    c.in_ok-row.ensures.row blanks (ap (λ a. all_spaces a blanks) (sym plain) ∙ blanks_spaces (length cells) n) (length-blanks (length cells) n)
    ∙ ap (λ ps. behind c.args.writer.now.printed.entries (row_entries c.args.writer.now.printed.pen ps))
    ((λ i. c.visible_cells.ensures i ++ blanks_from (length cells) (c.args.width - c.len.ensures i)) ∙ padded_visible c.args.width cells c.requires.paddable)
