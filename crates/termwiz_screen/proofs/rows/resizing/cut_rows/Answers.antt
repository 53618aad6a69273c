use Rattle.std.proofs.Common.{◌≡◌, ◌<◌, get_or, length, slice_set, ◌∙◌, ap, arith}
use Rattle.std.proofs.lemmas.List.{get_or_default}
use Rattle.std.proofs.lemmas.List.Edits.{map_over_more}
use Rattle.termwiz_screen.specs.Resized.{in_width}
use Rattle.termwiz_screen.proofs.rows.resizing.cut_rows.Goals as goal

pub loop-i-preserved : goal.loop-i-preserved
loop-i-preserved c =
    let old = c.args.rows.now in
    let rows = c.loop-i.rows in
    let i = c.loop-i.i in
    let row = get_or rows i c.index-rows-i.result in
    let inside : i < length old = omega arith in
    let read : row ≡ get_or rows i row = get_or_default rows i c.index-rows-i.result row (omega arith) in
    ap (slice_set rows i) c.cut_row.ensures ∙ map_over_more (in_width c.args.width) old rows i row inside c.loop-i.invariant read
