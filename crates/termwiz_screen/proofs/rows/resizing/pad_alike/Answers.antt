use Rattle.std.proofs.Common.{◌≡◌, ◌<◌, get_or, length, slice_set, ◌∙◌, ap, arith}
use Rattle.std.proofs.lemmas.List.{get_or_default}
use Rattle.std.proofs.lemmas.List.Edits.{map_over_more}
use Rattle.termwiz_screen.specs.Resized.{in_width}
use Rattle.termwiz_screen.proofs.AlikeRows.{first_cut, restored, row_is_vector}
use Rattle.termwiz_screen.proofs.rows.resizing.pad_alike.Goals as goal

pub cut_rows-requires : goal.cut_rows-requires
cut_rows-requires c =
    let k = c.args.len in
    let w = c.args.width in
    let i = c.loop-i.i in
    let old = c.args.rows.now in
    let rows = c.loop-i.rows in
    let row = get_or rows i c.index-rows-i.result in
    let inside : i < length old = omega arith in
    let read : row ≡ get_or rows i row = get_or_default rows i c.index-rows-i.result row (omega arith) in
    let same : c.fit_row.new.row ≡ row = c.in-Err.ensures.err (row_is_vector k w i old rows row inside c.requires.longer c.requires.alike c.loop-i.invariant read) in
    first_cut k w i old rows row inside c.requires.longer c.requires.alike c.loop-i.invariant read c.fit_row.new.row same

pub returns-in-Err-clause-err : goal.returns-in-Err-clause-err
returns-in-Err-clause-err c =
    let k = c.args.len in
    let w = c.args.width in
    let i = c.loop-i.i in
    let old = c.args.rows.now in
    let rows = c.loop-i.rows in
    let row = get_or rows i c.index-rows-i.result in
    let inside : i < length old = omega arith in
    let read : row ≡ get_or rows i row = get_or_default rows i c.index-rows-i.result row (omega arith) in
    let same : c.fit_row.new.row ≡ row = c.in-Err.ensures.err (row_is_vector k w i old rows row inside c.requires.longer c.requires.alike c.loop-i.invariant read) in
    restored k w i old rows row inside c.requires.longer c.requires.alike c.loop-i.invariant read c.fit_row.new.row same c.cut_rows.new.rows c.cut_rows.ensures

pub loop-i-preserved : goal.loop-i-preserved
loop-i-preserved c =
    let old = c.args.rows.now in
    let rows = c.loop-i.rows in
    let i = c.loop-i.i in
    let row = get_or rows i c.index-rows-i.result in
    let inside : i < length old = omega arith in
    let read : row ≡ get_or rows i row = get_or_default rows i c.index-rows-i.result row (omega arith) in
    ap (slice_set rows i) c.in_default.ensures.ok ∙ map_over_more (in_width c.args.width) old rows i row inside c.loop-i.invariant read
