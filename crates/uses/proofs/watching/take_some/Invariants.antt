use Rattle.std.proofs.Common.{ℕ, List}
use Rattle.termwiz_cell.specs.Measure.{measure}
use Rattle.termwiz_surface.specs.{FullScreen}
use Rattle.termwiz_share.specs.Histories.{ClientFollows, Given}
use Rattle.uses.specs.Watching.{TakesInTurn}
use Rattle.uses.proofs.Taken.{HasTakenSome}
use Rattle.uses.proofs.watching.take_some.Given as goal

-- `count` answers are taken
abbrev pub invariant-loop-count : goal.invariant-loop-count
invariant-loop-count g l = record {
  follows : (histories : ℕ → ℕ → FullScreen) (sent : List Given) (future : List ℕ) → ClientFollows (measure g.W.Widths.width_of) histories sent l.fn.client future → HasTakenSome (measure g.W.Widths.width_of) histories sent future l.fn.client l.count l.client;
  takes : TakesInTurn (measure g.W.Widths.width_of) l.count l.fn.client l.client;
}
