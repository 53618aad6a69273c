use Rattle.std.proofs.Common.{◌≡◌, ◌+◌, ◌-◌, ◌<◌, [], ◌∷◌, fold, map, length, min, arith, sym, ap, ◌∙◌, subst}
use Rattle.std.proofs.lemmas.Result.{IfOk-weaker}
use Rattle.std.specs.VecDeque.{deque_len}
use Rattle.termwiz_line.specs.Row.{HasHalves, row_of}
use Rattle.termwiz_screen.specs.Diff.{Region, PrintedOut, band, diff, in_row, print_out, row_need}
use Rattle.termwiz_screen.specs.Screen.{row_at}
use Rattle.termwiz_screen.specs.ScreenValue.{cells_of}
use Rattle.termwiz_screen.proofs.Lines.{cells-read, row-read, length-cells_of}
use Rattle.termwiz_screen.proofs.diff.lists.diff_line.Goals as goal

pub returns : goal.returns
returns c =
    let w = c.args.width in
    let row = c.args.row in
    let own = c.args.own.now.items in
    let r = c.band-region.result in
    let x : r.x ≡ 0 = ap (λ (s : Region). s.x) c.band-region.ensures in
    let other_x : r.other_x ≡ 0 = ap (λ (s : Region). s.other_x) c.band-region.ensures in
    let width : r.width ≡ w = ap (λ (s : Region). s.width) c.band-region.ensures in
    let there : row < length own = omega (arith, c.if-row-len.false, c.len.ensures, c.args.own.now.ok.0) in
    let one : 1 ≡ min 1 (deque_len c.args.own.now - row) = omega (arith, c.if-row-len.false, c.len.ensures) in
    let place : row ≡ row + 0 = omega arith in
    let halves : HasHalves w c.index.result.now.cells = subst (HasHalves w) (cells-read own row c.index.result.now there c.index.ensures) (c.requires.halved.each row (omega (arith, there, length-cells_of own))) in
    let own_row : row_of w c.index.result.now.cells ≡ row_at (map (row_of w) (cells_of own)) (row + 0) = sym (row-read w own row c.index.result.now there c.index.ensures) ∙ ap (row_at (map (row_of w) (cells_of own))) place in
    IfOk-weaker c.into_vec.result _ _
    (λ l e. e ∙ ap (λ (d : PrintedOut). d.entries) (c.in_ok-print_row.ensures w w halves (omega (arith, x, width)) (omega (arith, other_x, width)))
    ∙ (λ i. (fold print_out (c.new-writer.ensures i) (map (in_row (place i)) (row_need (own_row i) (x i) (row_of w c.args.line.now.cells) (other_x i) (width i)))).entries)
    ∙ ap (λ n. diff (map (row_of w) (cells_of own)) (row_of w c.args.line.now.cells ∷ []) (band w row 0 n)) one)
    c.into_vec.ensures
