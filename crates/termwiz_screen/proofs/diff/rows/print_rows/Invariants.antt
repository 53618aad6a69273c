use Rattle.std.proofs.Common.{◌≡◌, ◌+◌, ◌≤◌, ℕ, fold, map}
use Rattle.termwiz_line.specs.Row.{row_of}
use Rattle.termwiz_screen.specs.Diff.{need_upto, print_out}
use Rattle.termwiz_screen.specs.RegionValue.{region_value}
use Rattle.termwiz_screen.specs.ScreenValue.{cells_of}
use Rattle.termwiz_screen.specs.Walked.{AreHalved}
use Rattle.termwiz_screen.proofs.diff.rows.print_rows.Given as goal

-- what the rows so far need is printed
abbrev pub invariant-loop-i : goal.invariant-loop-i
invariant-loop-i l = (v w : ℕ) → AreHalved v (cells_of l.own.items) → l.region.x + l.region.width ≤ v → l.region.other_x + l.region.width ≤ w →
    l.writer ≡ fold print_out l.fn.writer (need_upto (map (row_of v) (cells_of l.own.items)) (map (row_of w) (cells_of l.other.items)) (region_value l.region) l.i)
