-- Which rows may have changed since a surface had a number.
use Rattle.std.specs.Prelude.{ℕ, ◌==◌, ◌||◌, nat_lt, List, map, if◌then◌else◌}
use Rattle.std.specs.List.{range_with_len}
use Rattle.termwiz_surface.specs.Surface.{SurfaceValue, number_at}
use Rattle.tikeburo_c.specs.declared.widths.ChosenWidths.{ChosenWidths}

-- 1 for a row that may have changed since, or else 0
abbrev pub changed_byte : ℕ → SurfaceValue ChosenWidths → ℕ → ℕ
changed_byte since s row = if since == 0 || nat_lt since (number_at s row) then 1 else 0

-- that of each row from the top
abbrev pub changed_rows : ℕ → SurfaceValue ChosenWidths → List ℕ
changed_rows since s = map (changed_byte since s) (range_with_len 0 s.height)
