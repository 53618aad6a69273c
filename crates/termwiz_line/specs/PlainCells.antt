-- Bytes that have narrow cells of their own, one after another.
use Rattle.std.specs.Prelude.{ℕ, ◌-◌, List, map}
use Rattle.std.specs.List.{range_with_len}

-- the column and the width of each of the cells in the columns from start to end - 1
abbrev pub plain_cells : ℕ → ℕ → List (ℕ × ℕ)
plain_cells start end = map (λ i. (i, 1)) (range_with_len start (end - start))
