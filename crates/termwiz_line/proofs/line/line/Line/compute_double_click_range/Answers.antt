use Rattle.std.proofs.Common.{◌<◌, List, sym, subst, arith}
use Rattle.termwiz_storage.specs.VisibleCell.{VisibleCell}
use Rattle.std.specs.List.{All}
use Rattle.termwiz_line.proofs.Walk.{walk_within}
use Rattle.termwiz_line.proofs.line.line.Line.compute_double_click_range.Goals as goal

pub upper_end-upper-requires-clause-indices : goal.upper_end-upper-requires-clause-indices
upper_end-upper-requires-clause-indices g c = subst (λ (cells : List VisibleCell). All (λ p. p.column < c.len-len.result) cells) (sym c.visible_cells.ensures) (walk_within c.len-len.result 0 0 c.args.self.now.cells (omega (arith, c.len-len.ensures)))
