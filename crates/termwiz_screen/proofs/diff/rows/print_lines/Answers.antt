use Rattle.std.proofs.Common.{◌≡◌, ◌+◌, ◌<◌, [], fold, map, length, min, arith, sym, ap, ◌∙◌, subst}
use Rattle.std.proofs.lemmas.List.{get_or-map}
use Rattle.std.specs.VecDeque.{deque_len}
use Rattle.termwiz_line.specs.Row.{HasHalves, row_of}
use Rattle.termwiz_screen.specs.Diff.{Region, band, in_row, print_out, row_need}
use Rattle.termwiz_screen.specs.Screen.{row_at}
use Rattle.termwiz_screen.specs.ScreenValue.{cells_of}
use Rattle.termwiz_screen.proofs.Lines.{cells-read, row-read, length-cells_of}
use Rattle.termwiz_screen.proofs.Diffs.NeededRows.{more_rows}
use Rattle.termwiz_screen.proofs.diff.rows.print_lines.Goals as goal

pub loop-row-preserved : goal.loop-row-preserved
loop-row-preserved c = λ h.
    let w = c.args.width in
    let i = c.loop-row.row in
    let own = c.args.own.now.items in
    let lines = c.args.lines.now in
    let r = c.band-region.result in
    let height = min (deque_len c.args.own.now) (length lines) in
    let x : r.x ≡ 0 = ap (λ (s : Region). s.x) c.band-region.ensures in
    let other_x : r.other_x ≡ 0 = ap (λ (s : Region). s.other_x) c.band-region.ensures in
    let width : r.width ≡ w = ap (λ (s : Region). s.width) c.band-region.ensures in
    let rows : r.height ≡ height = ap (λ (s : Region). s.height) c.band-region.ensures ∙ c.min.ensures ∙ ap (λ n. min n (length lines)) c.len.ensures in
    let own_in : i < length own = omega (arith, rows, c.loop-row-test.true) in
    let line_in : i < length lines = omega (arith, rows, c.loop-row-test.true) in
    let same : i ≡ 0 + i = omega arith in
    let halves : HasHalves w c.index.result.now.cells = subst (HasHalves w) (cells-read own i c.index.result.now own_in c.index.ensures) (h.each i (omega (arith, own_in, length-cells_of own))) in
    let other : row_of w c.index-lines-row.result.now.cells ≡ row_at (map (λ line. row_of w line.now.cells) lines) i = ap (λ line. row_of w line.now.cells) c.index-lines-row.is ∙ sym (get_or-map (λ line. row_of w line.now.cells) lines i c.index-lines-row.result [] line_in) in
    let own_row : row_of w c.index.result.now.cells ≡ row_at (map (row_of w) (cells_of own)) i = sym (row-read w own i c.index.result.now own_in c.index.ensures) in
    more_rows (map (row_of w) (cells_of own)) (map (λ line. row_of w line.now.cells) lines) (band w 0 0 height) i c.args.writer.now c.loop-row.writer c.print_row.new.writer (c.loop-row.invariant h)
    (c.in_ok-print_row.ensures w w halves (omega (arith, x, width)) (omega (arith, other_x, width))
    ∙ (λ j. fold print_out c.loop-row.writer (map (in_row i) (row_need (own_row j) (x j) (other j) (other_x j) (width j))))
    ∙ ap (λ k. fold print_out c.loop-row.writer (map (in_row k) (row_need (row_at (map (row_of w) (cells_of own)) k) 0 (row_at (map (λ line. row_of w line.now.cells) lines) k) 0 w))) same)
