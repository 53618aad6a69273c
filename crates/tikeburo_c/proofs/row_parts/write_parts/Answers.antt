use Rattle.std.proofs.Common.{◌≡◌, ◌+◌, ◌-◌, ◌≤◌, None, Some, add-zero, ap, arith, le_refl, length, refl, subst, sym, ◌∙◌}
use Rattle.std.specs.Option.{option_copied}
use Rattle.termwiz_storage.specs.CellRef.{indexed_cell}
use Rattle.termwiz_storage.specs.CellTexts.{texts_of}
use Rattle.tikeburo_c.specs.Rows.{cell_fields_from, row_cell, runs_of}
use Rattle.tikeburo_c.proofs.Filled.{Fills}
use Rattle.tikeburo_c.proofs.RowParts.{cell_fits, cells_go_on, plain_cell_goes_on, plain_field, plain_run, plain_text_goes_on, run_fits, runs_go_on, text_fits, texts_go_on}
use Rattle.tikeburo_c.proofs.row_parts.write_parts.Goals as goal

pub put_run-runs-requires : goal.put_run-runs-requires
put_run-runs-requires c =
    let l = c.loop-cell in
    run_fits l.cells c.next.new.self (indexed_cell c.in-Some.cell) c.in-Some.ensures.steps.0 c.attrs-attrs.result.now c.attrs-attrs.ensures l.runs (option_copied l.before) (runs_of None c.args.cells) c.args.attributes.now l.attributes c.requires.attributes l.invariant.attributes

pub put_cell-written-requires : goal.put_cell-written-requires
put_cell-written-requires c =
    let l = c.loop-cell in
    let fits : l.written + 1 ≤ length l.row_cells = cell_fits l.cells c.next.new.self (indexed_cell c.in-Some.cell) c.in-Some.ensures.steps.0 c.attrs-attrs.result.now c.attrs-attrs.ensures l.written l.end l.runs (option_copied l.before) (cell_fields_from 0 0 None c.args.cells) c.args.row_cells.now l.row_cells c.requires.cells l.invariant.cells c.put_run-runs.result c.put_run-runs.ensures.next in
    omega (arith, fits)

pub put_bytes-requires : goal.put_bytes-requires
put_bytes-requires c =
    let l = c.loop-cell in
    text_fits l.cells c.next.new.self (indexed_cell c.in-Some.cell) c.in-Some.ensures.steps.0 c.attrs-attrs.result.now c.attrs-attrs.ensures l.end c.as_bytes-bytes.result.now (c.as_bytes-bytes.ensures.value ∙ c.str.ensures) (texts_of c.args.cells) c.args.text.now l.text c.requires.text l.invariant.text

pub loop-byte-init : goal.loop-byte-init
loop-byte-init c =
    let l = c.loop-cell in
    let p = indexed_cell c.in-Some.cell in
    let first = c.in-Some.ensures.steps.0 in
    let rest = c.next.new.self in
    let a = c.attrs-attrs.result.now in
    let n = c.put_run-runs.result in
    let w = c.put_cell-written.result in
    let e = l.end + length c.as_bytes-bytes.result.now in
    let text = c.as_bytes-bytes.ensures.value ∙ c.str.ensures in
    let field : c.row_cell-first.result ≡ row_cell l.end (n - 1) p.cell = c.row_cell-first.ensures ∙ ap (λ k. row_cell l.end k p.cell) c.saturating_sub.ensures in
    record {
      cells =
          subst (λ k. Fills k (cell_fields_from (e + 0) n (Some a) rest) (cell_fields_from 0 0 None c.args.cells) c.args.row_cells.now c.put_cell-written.new.room) (sym (add-zero w))
          (subst (λ k. Fills w (cell_fields_from k n (Some a) rest) (cell_fields_from 0 0 None c.args.cells) c.args.row_cells.now c.put_cell-written.new.room) (sym (add-zero e))
          (cells_go_on l.cells rest p first a c.attrs-attrs.ensures l.written l.end l.runs (option_copied l.before) (cell_fields_from 0 0 None c.args.cells) c.args.row_cells.now l.row_cells c.requires.cells l.invariant.cells n c.put_run-runs.ensures.next c.as_bytes-bytes.result.now c.row_cell-first.result w c.put_cell-written.new.room text field c.put_cell-written.ensures.next c.put_cell-written.ensures.room));
      attributes = runs_go_on l.cells rest p first a c.attrs-attrs.ensures l.runs (option_copied l.before) (runs_of None c.args.cells) c.args.attributes.now l.attributes c.requires.attributes l.invariant.attributes n c.put_run-runs.new.room c.put_run-runs.ensures.next c.put_run-runs.ensures.room;
      text =
          subst (λ k. Fills k (texts_of rest) (texts_of c.args.cells) c.args.text.now c.put_bytes.new.room) (sym (add-zero e))
          (texts_go_on l.cells rest p first a c.attrs-attrs.ensures l.end c.as_bytes-bytes.result.now text (texts_of c.args.cells) c.args.text.now l.text c.requires.text l.invariant.text c.put_bytes.new.room c.put_bytes.ensures);
      shorter = le_refl (length rest);
    }

pub loop-byte-preserved : goal.loop-byte-preserved
loop-byte-preserved c =
    let l = c.loop-byte in
    let a = c.attrs-attrs.result.now in
    let n = c.put_run-runs.result in
    let byte = c.in-Some-next_plain.byte in
    let plain = c.in-Some-next_plain.ensures in
    let w = c.put_cell-written.result in
    let e = c.loop-cell.end + length c.as_bytes-bytes.result.now in
    let field = plain_field c.loop-cell.end c.saturating_sub.result n (e + l.plain) byte (indexed_cell c.in-Some.cell).cell a c.row_cell-first.result c.plain_cell.result c.row_cell-first.ensures c.saturating_sub.ensures c.attrs-attrs.ensures c.plain_cell.ensures in
    record {
      cells = plain_cell_goes_on a l.cells c.next_plain.new.self byte plain w l.plain e n (cell_fields_from 0 0 None c.args.cells) c.args.row_cells.now l.row_cells c.requires.cells l.invariant.cells c.plain_cell.result _ field refl;
      attributes = plain_run a l.cells c.next_plain.new.self byte plain n (runs_of None c.args.cells) c.args.attributes.now c.put_run-runs.new.room l.invariant.attributes;
      text = plain_text_goes_on a l.cells c.next_plain.new.self byte plain e l.plain (texts_of c.args.cells) c.args.text.now l.text c.requires.text l.invariant.text _ refl;
      shorter = omega (arith, l.invariant.shorter, ap length plain.first);
    }
