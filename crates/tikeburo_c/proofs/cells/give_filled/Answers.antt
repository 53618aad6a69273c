use Rattle.std.proofs.Common.{inr, ap}
use Rattle.termwiz_line.specs.LineValue.{LineValue}
use Rattle.tikeburo_c.specs.Results.{Buffer}
use Rattle.tikeburo_c.specs.Widths.{columns_by}
use Rattle.tikeburo_c.proofs.RowTexts.{gives_filled}
use Rattle.tikeburo_c.proofs.cells.give_filled.Goals as goal

pub returns : goal.returns
returns c =
    let s = c.args.surface.now in
    let old : Buffer = (c.args.room.now, c.args.len.now) in
    let new : Buffer = (c.give_line.new.room, c.give_line.new.len) in
    inr (gives_filled s c.args.row old c.give_line.result new (columns_by s.widths) c.in_ok-line.line.now.cells c.in_ok-filled.filled.cells _
    c.dimensions-width.ensures.sound c.in_ok-line.ensures.found c.dimensions-width.ensures.width (ap (λ (l : LineValue). l.cells) c.in_ok-filled.ensures) c.give_line.ensures)
