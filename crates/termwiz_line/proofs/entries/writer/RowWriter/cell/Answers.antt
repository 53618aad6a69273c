use Rattle.std.proofs.Common.{◌∷◌, [], refl, ap, sym, ◌∙◌, true, bytes_eq}
use Rattle.std.proofs.lemmas.Bool.{and_from}
use Rattle.std.proofs.lemmas.Result.{on_ok_weaker}
use Rattle.termwiz_cell.specs.Attributes.{attributes_eq, attributes_eq-Decides}
use Rattle.termwiz_cell.specs.CellValue.{space}
use Rattle.termwiz_line.specs.Entries.{is_space_of, cell_out}
use Rattle.termwiz_line.proofs.WrittenRows.{written_cell}
use Rattle.termwiz_line.proofs.entries.writer.RowWriter.cell.Goals as goal

pub returns-then-is_space : goal.returns-then-is_space
returns-then-is_space c =
    let a = c.args.attrs.now in
    on_ok_weaker c.spaces.result
    (λ h from cells p text attrs z. h from cells (p ∷ [])
    (and_from (is_space_of a p) true
    (and_from (bytes_eq p.cell.text space) (attributes_eq p.cell.attrs a) (ap (λ t. bytes_eq t space) text ∙ sym c.is_space.ensures ∙ c.if-is_space.true) ((attributes_eq-Decides p.cell.attrs a).1 attrs))
    refl) refl z)
    c.spaces.ensures

pub returns : goal.returns
returns c =
    on_ok_weaker c.print.result
    (λ h from cells p text attrs z. written_cell from cells c.args.self.now c.print.new.self z p
    (ap (λ t. bytes_eq t space) text ∙ sym c.is_space.ensures ∙ c.if-is_space.false)
    (c.print.ensures.spaces ∙ c.in_ok-print_spaces.ensures.spaces)
    (h p text attrs ∙ ap (λ d. cell_out d p) c.in_ok-print_spaces.ensures.printed))
    c.print.ensures.printed
