use Rattle.std.proofs.Common.{◌≡◌, ◌∙◌, List, length, string_bytes, sym, ap, arith}
use Rattle.std.proofs.lemmas.Bool.{eq-eqb, eqb-true}
use Rattle.termwiz_cell.specs.CellValue.{CellValue}
use Rattle.termwiz_storage.specs.declared.line.clusterline.runs.ShapeRun.{ShapeRun}
use Rattle.termwiz_storage.specs.CellRuns.{attrs_of, shapes_of}
use Rattle.termwiz_storage.specs.CellTexts.{texts_of}
use Rattle.termwiz_storage.specs.Clustered.{IsClusteredText}
use Rattle.termwiz_storage.specs.Stored.{visible}
use Rattle.termwiz_storage.proofs.ByteCells.{enough_columns, length-visible}
use Rattle.termwiz_storage.proofs.line.clusterline.ClusteredLine.has_byte_cells.Goals as goal

pub cell_count-requires : goal.cell_count-requires
cell_count-requires c =
    let s = c.self.inside in
    let h = c.self.invariant in
    rw c.deref.ensures.value (omega (arith, enough_columns (string_bytes s.text) (shapes_of s.shapes.items) (attrs_of s.attrs.items) h.aligned, h.len, h.fits))

pub returns-then-text-self : goal.returns-then-text-self
returns-then-text-self c =
    let s = c.self.inside in
    let h : IsClusteredText (string_bytes s.text) (shapes_of s.shapes.items) (attrs_of s.attrs.items) s.len = c.self.invariant in
    let cs : List CellValue = c.args.self.now in
    let len : s.len ≡ length cs = h.len ∙ ap length c.self.view_is in
    let cells : length (visible cs) ≡ length (shapes_of s.shapes.items) = length-visible cs (string_bytes s.text) (shapes_of s.shapes.items) (attrs_of s.attrs.items) s.len c.self.view_is h in
    let count : c.cell_count.result ≡ length (visible cs) = c.cell_count.ensures ∙ ap (λ (rs : List ShapeRun). length (shapes_of rs)) c.deref.ensures.value ∙ sym cells in
    let bytes : length (texts_of (visible cs)) ≡ length cs = ap length (sym c.text.ensures) ∙ c.if-text-self.true ∙ len in
    (λ t. record { columns = sym count ∙ eqb-true c.cell_count.result s.len t ∙ len; bytes = bytes }, λ b. eq-eqb c.cell_count.result s.len (count ∙ b.columns ∙ sym len))
