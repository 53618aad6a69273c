use Rattle.std.proofs.Common.{◌+◌, ◌≤◌, ℕ, List, length, map}
use Rattle.termwiz_cell.specs.Measure.{measure}
use Rattle.termwiz_share.specs.Histories.{ClientFollows, Given}
use Rattle.termwiz_surface.specs.{FullScreen, full_value}
use Rattle.uses.specs.Watching.{TakesAFew}
use Rattle.uses.proofs.Taken.{HasShown}
use Rattle.uses.proofs.watching.show_each.Given as goal

-- what was taken is shown, one answer after another, and no more was stale than there were bytes
abbrev pub invariant-loop-taken : goal.invariant-loop-taken
invariant-loop-taken g l = record {
  few : l.stale + length l.client.kept ≤ length l.initial.client.kept;
  takes : TakesAFew (measure g.W.Widths.width_of) l.initial.client l.client;
  shown : (histories : ℕ → ℕ → FullScreen) (sent : List Given) (future : List ℕ) → ClientFollows (measure g.W.Widths.width_of) histories sent l.initial.client future → HasShown (measure g.W.Widths.width_of) histories sent future l.initial.client (map full_value l.initial.screens.items) l.stale l.client (map full_value l.screens.items);
}

abbrev pub decreases-loop-taken : goal.decreases-loop-taken
decreases-loop-taken g l = length l.client.kept
