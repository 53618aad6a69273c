use Rattle.termwiz_line.proofs.Walk.{walk_grows}
use Rattle.termwiz_line.proofs.RowOf.{row_of_row, row-visible, row_of-fixed}
use Rattle.termwiz_line.proofs.Resized.{resized_is_row}
use Rattle.termwiz_line.proofs.StoredRows.{row-set_cell, row-pruned}
use Rattle.termwiz_line.proofs.laws.stored_row_laws.Goals as goal

pub returns : goal.returns
returns c = record { row = λ w cs. (row_of_row w cs, row-visible w cs); fixed = row_of-fixed; walk = λ cs. walk_grows 0 0 cs; resized = resized_is_row; set_cell = λ w c x cs h l. row-set_cell w c x cs (record { halves = h.halves }) l; pruned = row-pruned }
