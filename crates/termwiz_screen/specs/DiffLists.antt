-- What a list of changes prints, and what the list of a diff may be.
use Rattle.std.specs.Prelude.{◌≡◌, ℕ, ◌*◌, ◌≤◌, true, ◌⊎◌, List, [], length}
use Rattle.termwiz_cell.specs.ChangeValue.{ChangeValue, is_text}
use Rattle.termwiz_line.specs.LastChange.{last_is}
use Rattle.termwiz_screen.specs.Screen.{Screen}
use Rattle.termwiz_screen.specs.Step.{replay}
use Rattle.termwiz_screen.specs.Prints.{Print, printed, print_all}
use Rattle.termwiz_screen.specs.Diff.{all_diff_entries}

-- the changes paint these cells, in this order, and move no row: what they don't cover stays
pub record PrintsJust (measure : List ℕ → ℕ) (s : Screen) (ps : List Print) (l : List ChangeValue) :
    Type 0 where
  pub prints : printed measure s l ≡ ps
  pub rows : (replay measure s l).rows ≡ print_all s.rows ps

-- moves, pens and texts, at most three for each cell that they print, with a text at the end; where
-- the width functions are the same they print just these cells
-- Same is the equation of width functions under which these exact prints are promised: of the own
-- one and the other's, or of one with itself, which says always
pub record IsDiff (measure : List ℕ → ℕ) (s : Screen) (Same : Type 0) (ps : List Print)
    (l : List ChangeValue) : Type 0 where
  pub drawing : all_diff_entries l ≡ true
  pub ends : (l ≡ []) ⊎ (last_is is_text l ≡ true)
  pub few : length l ≤ 3 * length (printed measure s l)
  pub exact : Same → PrintsJust measure s ps l
