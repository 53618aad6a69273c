use Rattle.std.proofs.Common.{◌==◌, ap, ◌∙◌}
use Rattle.termwiz_screen.proofs.ShownCells.{narrow_columns}
use Rattle.termwiz_storage.specs.CellRef.{ref_cell}
use Rattle.termwiz_screen.proofs.shown.is_narrow.Goals as goal

pub returns : goal.returns
returns c = ap (λ n. n == 1) (c.width.ensures ∙ c.requires) ∙ narrow_columns (ref_cell c.args.shown.now)
