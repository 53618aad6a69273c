use Rattle.std.proofs.Common.{◌≡◌, ◌+◌, ◌-◌, length, min, arith}
use Rattle.termwiz_line.specs.Row.{row_of}
use Rattle.termwiz_screen.proofs.Diffs.NeededRows.{needed_whole}
use Rattle.termwiz_screen.proofs.diff.rows.print_cells.Goals as goal

pub returns : goal.returns
returns c = λ w l.
    let r = c.args.region in
    let cells = c.args.other.now.cells in
    let met : c.min-met.result ≡ min r.width (c.in_ok-next.next - r.other_x) = omega (arith, c.min-met.ensures, c.saturating_sub.ensures) in
    let count : c.saturating_sub-count.result ≡ min (r.x + r.width) (length c.args.own.now + 1) - (r.x + c.min-met.result) = omega (arith, c.saturating_sub-count.ensures, c.min.ensures) in
    needed_whole c.args.own.now r.x (row_of w cells) r.other_x r.width w c.args.row c.in_ok-next.next c.min-met.result c.saturating_sub-count.result
    c.args.writer.now c.print_visible.new.writer c.print_blanks.new.writer (c.in_ok-next.ensures.rest w) l met count (c.in_ok-next.ensures.printed w l) c.in_ok-print_blanks.ensures
