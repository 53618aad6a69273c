-- Copies of the rows of a surface, taken at a number that it had.
use Rattle.std.specs.Prelude.{◌≡◌, ◌⊎◌, ℕ, ◌<◌, ◌≤◌, List, length, map, slice_index_or, Result, Ok, Err}
use Rattle.termwiz_surface.specs.{CellValue, LineValue, SurfaceValue, cells_of, number_at, row_at, row_of, shown_at}
use Rattle.termwiz_surface.specs.declared.surface.SurfaceError.{SurfaceError}
use Rattle.termwiz_surface.specs.declared.surface.SurfaceError.TheVariants.{Memory}

-- the rows that lines show in a width
abbrev pub rows_shown : ℕ → List LineValue → List (List CellValue)
rows_shown width lines = map (row_of width) (cells_of lines)

module _ {W : Type 0} (n : ℕ) (s : SurfaceValue W) where
  -- each shows its row, if that hasn't changed since the surface had the number n; of 0 nothing is
  -- known
  pub record AreCopiesAt (copies : List (List CellValue)) : Type 0 where
    pub all : length copies ≡ s.height
    pub rows :
        (j : ℕ) → 0 < n → j < s.height → number_at s j ≤ n →
        row_of s.width (row_at copies j) ≡ shown_at s j

  -- row j may have changed since
  abbrev pub MayDiffer : ℕ → Type 0
  MayDiffer j = (n ≡ 0) ⊎ (n < number_at s j)

  -- where it can't have, its copy is the very line that it was
  abbrev pub KeepsOthers : List LineValue → List LineValue → Type 0
  KeepsOthers old new =
      (j : ℕ) (d : LineValue) → 0 < n → number_at s j ≤ n →
      slice_index_or new j d ≡ slice_index_or old j d

  -- copying fails for want of memory, and only where there is a row to copy
  abbrev pub CopiesRows : Result (Unit {0}) SurfaceError → Type 0
  CopiesRows (Ok u) = Unit {0}
  CopiesRows (Err e) = (e ≡ Memory) × (j : ℕ) × (j < s.height) × MayDiffer j
