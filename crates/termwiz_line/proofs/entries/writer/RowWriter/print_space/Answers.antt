use Rattle.std.proofs.Common.{◌++◌, ap, sym, ◌∙◌, refl}
use Rattle.termwiz_cell.specs.CellValue.{blank_of}
use Rattle.termwiz_storage.specs.VisibleCell.{at_column}
use Rattle.termwiz_line.specs.Entries.{Penned, pen_entry}
use Rattle.termwiz_line.specs.GrowingText.{ends_printable}
use Rattle.termwiz_line.specs.LastChange.{last_is}
use Rattle.termwiz_line.specs.Writing.{Writing}
use Rattle.termwiz_line.proofs.JoinedTexts.{ends_with_plain}
use Rattle.termwiz_line.proofs.entries.writer.RowWriter.print_space.Goals as goal

pub returns-clause-printed : goal.returns-clause-printed
returns-clause-printed c =
    let attrs = sym (ap (λ (v : Writing). v.space_attrs) c.self.view_is) in
    ap (λ (v : Writing). v.printed) c.self-2.view_is ∙ c.in_ok-print.ensures.printed (at_column 0 (blank_of c.args.self.now.space_attrs)) refl attrs

pub returns-clause-text : goal.returns-clause-text
returns-clause-text c =
    let w = c.args.self.now in
    let printed = returns-clause-printed c in
    record {
      text = ap (λ (d : Penned). last_is ends_printable d.entries) printed ∙ ends_with_plain (w.printed.entries ++ pen_entry w.printed.pen w.space_attrs) 32 refl;
      spaces = ap (λ (v : Writing). v.space_attrs) c.self-2.view_is ∙ c.in_ok-print.ensures.space_attrs ∙ sym (ap (λ (d : Penned). d.pen) printed);
    }
