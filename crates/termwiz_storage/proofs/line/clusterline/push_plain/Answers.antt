use Rattle.std.proofs.Common.{◌≡◌, ap, arith, length, length-append, length-take-le, List, string_bytes, take}
use Rattle.termwiz_cell.specs.CellValue.{CellValue}
use Rattle.termwiz_storage.specs.CellTexts.{cell_texts}
use Rattle.termwiz_storage.proofs.PlainCells.{length-plain_texts}
use Rattle.termwiz_storage.proofs.line.clusterline.push_plain.Goals as goal

pub unwrap-requires : goal.unwrap-requires
unwrap-requires c =
    let cells : List CellValue = c.args.cells.now in
    let done : List CellValue = take c.loop-i.i cells in
    let texts : length (cell_texts done) ≡ length done = length-plain_texts done c.args.attrs.now c.loop-i.invariant.plain in
    let count = length-take-le c.loop-i.i cells (omega arith) in
    let all = length-append (string_bytes c.args.text.now) (cell_texts done) in
    c.push.ensures.succeeds (omega (arith, c.push.ensures.ascii_len, c.in-Some.ensures.ascii, ap length c.loop-i.invariant.bytes, c.requires))
