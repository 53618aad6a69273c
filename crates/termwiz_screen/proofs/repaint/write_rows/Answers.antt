use Rattle.std.proofs.Common.{◌+◌, ◌<◌, map, length, arith, subst, sym, ap, ◌∙◌}
use Rattle.termwiz_line.specs.Row.{row_of}
use Rattle.termwiz_screen.specs.ScreenValue.{cells_of}
use Rattle.termwiz_screen.specs.Drawing.{IsWrittenUpto}
use Rattle.termwiz_screen.specs.Padding.{IsPaddable}
use Rattle.termwiz_screen.proofs.Lines.{length-cells_of, cells-read, row-read}
use Rattle.termwiz_screen.proofs.RowChanges.Joined.{no_text, row_drawn}
use Rattle.termwiz_screen.proofs.repaint.write_rows.Goals as goal

pub write_row-requires-clause-between : goal.write_row-requires-clause-between
write_row-requires-clause-between c = c.push_next_line.ensures.spaces ∙ c.loop-i.invariant.before.between

pub write_row-requires-clause-apart : goal.write_row-requires-clause-apart
write_row-requires-clause-apart c =
    let w = c.args.width in
    no_text w (map (row_of w) (cells_of c.args.rows.now.items)) c.loop-i.writer c.push_next_line.new.writer c.push_next_line.new.writer c.loop-i.i c.loop-i.invariant.before c.in_ok-push_next_line.ensures.printed

pub write_row-requires-clause-paddable : goal.write_row-requires-clause-paddable
write_row-requires-clause-paddable c =
    let ls = c.args.rows.now.items in
    let inside : c.loop-i.i < length ls = omega (arith, c.requires.within, length-cells_of ls) in
    subst (IsPaddable c.args.width) (cells-read ls c.loop-i.i c.index.result.now inside c.index.ensures) (c.requires.paddable.each c.loop-i.i (omega (arith, length-cells_of ls)))

pub loop-i-preserved : goal.loop-i-preserved
loop-i-preserved c =
    let w = c.args.width in
    let i = c.loop-i.i in
    let ls = c.args.rows.now.items in
    let inside : i < length ls = omega (arith, c.requires.within, length-cells_of ls) in
    record {
      before = record { between = ap (λ v. v.spaces) c.expect_rows.ensures ∙ c.in_ok-write_row.ensures.between; apart = λ e. absurd (omega (arith, e)) };
      upto = λ first drawn.
          subst (IsWrittenUpto first w (map (row_of w) (cells_of ls)) (i + 1)) (sym c.expect_rows.ensures)
          (row_drawn w (map (row_of w) (cells_of ls)) c.loop-i.writer c.push_next_line.new.writer c.write_row.new.writer first i (row_of w c.index.result.now.cells) (c.loop-i.invariant.upto first drawn)
          c.in_ok-push_next_line.ensures.printed c.in_ok-write_row.ensures.row (row-read w ls i c.index.result.now inside c.index.ensures));
    }
