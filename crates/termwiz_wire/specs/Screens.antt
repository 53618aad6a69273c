-- Screens that the limits of a decoder allow.
use Rattle.std.specs.Prelude.{ℕ, ◌*◌, ◌≤◌, nat_lt, Bool, ◌||◌}
use Rattle.termwiz_wire.specs.declared.fault.Limits.{Limits}

-- whether a screen of w columns and h rows has too many cells or rows
abbrev pub is_past : Limits → ℕ → ℕ → Bool
is_past limits w h = nat_lt limits.cells (w * h) || nat_lt limits.rows h

-- a screen of w columns and h rows has no more cells and rows than these limits
pub record FitsLimits (limits : Limits) (w h : ℕ) : Type 0 where
  pub cells : w * h ≤ limits.cells
  pub rows : h ≤ limits.rows
