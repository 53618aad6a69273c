use Rattle.std.proofs.Common.{subst}
use Rattle.termwiz_line.specs.Row.{row_of, visible_upto}
use Rattle.tikeburo_c.specs.Results.{OrNoMemory}
use Rattle.tikeburo_c.specs.Rows.{GivesParts, RowPlace, row_place, row_value}
use Rattle.tikeburo_c.proofs.ShownRow.{gives_shown}
use Rattle.tikeburo_c.proofs.rows.give_shown.Goals as goal

pub returns : goal.returns
returns c =
    let old : RowPlace = row_place c.args.cells.now c.args.attributes.now c.args.text.now c.args.counts.now in
    let new : RowPlace = row_place c.give_filled.new.cells c.give_filled.new.attributes c.give_filled.new.text c.give_filled.new.counts in
    let cs = c.in_ok-stored.stored.now in
    gives_shown c.args.surface.now c.args.row old c.give_filled.result new cs c.in_ok-stored.ensures.found
    (subst (λ w. OrNoMemory (GivesParts (row_value (visible_upto (row_of w cs) w))) old c.give_filled.result new) c.dimensions-width.ensures.width c.give_filled.ensures)
