-- How texts and moves take the cursor of a sequence.
use Rattle.std.specs.Prelude.{◌≡◌, ℕ, ◌<◌, ℤ, pos, ◌-ℤ◌, unsigned_abs, List}
use Rattle.termwiz_cell.specs.ChangeValue.{Text}
use Rattle.termwiz_cell.specs.declared.change.Position.TheVariants.{Relative}
use Rattle.termwiz_screen.specs.Screen.{Screen}
use Rattle.termwiz_cell.specs.Sequence.{change_place, position_place}
use Rattle.termwiz_screen.specs.Step.{step}

-- from equal columns a text leaves the cursor of a screen, and that of a sequence of its width, in
-- equal columns
abbrev pub TextsMoveAlike : Type 0
TextsMoveAlike =
    (measure : List ℕ → ℕ) (s : Screen) (rows : ℕ) (at : ℕ × ℤ) (text : List ℕ) → s.x ≡ at.0 →
    (step measure s (Text text)).x ≡ (change_place measure rows s.width at (Text text)).0

-- a move by the distances to a place on the screen, or to one as many rows above its first row,
-- leads there
abbrev pub MovesLeadThere : Type 0
MovesLeadThere =
    (rows columns : ℕ) (from to : ℕ × ℤ) → to.0 < columns → unsigned_abs to.1 < rows →
    position_place rows columns from (Relative (pos to.0 -ℤ pos from.0)) (Relative (to.1 -ℤ from.1))
    ≡
    to
