-- The columns of a text by each measure.
use Rattle.std.specs.Prelude.{ℕ, List, [], ◌∷◌, bytes_eq, if◌then◌else◌}
use Rattle.termwiz_cell.specs.Width.{unicode_columns}
use Rattle.playing.specs.declared.surfaces.measure.Measure.{Measure}
use Rattle.playing.specs.declared.surfaces.measure.Measure.TheVariants.{Unicode, One, Wide}

unfoldable pub columns_of_measure : Measure → List ℕ → ℕ
columns_of_measure Unicode text = unicode_columns text
columns_of_measure One _ = 1
columns_of_measure Wide text = if bytes_eq text (32 ∷ []) then 1 else 2
