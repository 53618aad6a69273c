-- Where a position takes a cursor.
use Rattle.std.specs.Prelude.{ℕ, suc, ◌+◌, ◌-◌, min, nat_le, ℤ, pos, negsuc, if◌then◌else◌}
use Rattle.termwiz_screen.specs.Screen.{Screen}
use Rattle.termwiz_cell.specs.ChangeValue.{ChangeValue, CursorPosition}
use Rattle.termwiz_cell.specs.declared.change.Position.{Position}
use Rattle.termwiz_cell.specs.declared.change.Position.TheVariants.{Relative, Absolute, EndRelative}

-- from c by d, of n columns or rows
abbrev pub moved : ℤ → ℕ → ℕ → ℕ
moved (pos d) c n = min (c + d) (n - 1)
moved (negsuc d) c n = c - suc d

abbrev pub place_column : Position → ℕ → ℕ → ℕ
place_column (Relative d) c w = moved d c w
place_column (Absolute a) c w = if nat_le a w then a else w - 1
place_column (EndRelative d) c w = w - d

abbrev pub place_row : Position → ℕ → ℕ → ℕ
place_row (Relative d) c h = moved d c h
place_row (Absolute a) c h = min a (h - 1)
place_row (EndRelative d) c h = min (h - d) (h - 1)

abbrev pub placed : Screen → Position → Position → Screen
placed s x y = record s { x = place_column x s.x s.width; y = place_row y s.y s.height }

-- the change that takes a cursor to column x and row y
abbrev pub cursor_at : ℕ → ℕ → ChangeValue
cursor_at x y = CursorPosition (Absolute x) (Absolute y)
