use Rattle.std.proofs.Common.{length}
use Rattle.termwiz_cell.specs.Measure.{measure}
use Rattle.termwiz_surface.specs.RowNumbers.{NumbersRows}
use Rattle.termwiz_share.proofs.Taking.{HasCounted}
use Rattle.termwiz_share.proofs.client.Client.take_all.Given as goal

-- some first answers of the bytes are taken
abbrev pub invariant-answers : goal.invariant-answers
invariant-answers g l = record {
  taken : HasCounted (measure g.W.Widths.width_of) l.initial.self l.count l.self;
  numbered : NumbersRows l.initial.self.surface l.self.surface;
}

abbrev pub decreases-answers : goal.decreases-answers
decreases-answers g l = length l.self.kept
