-- The laws of width values, of each measure.
use Rattle.std.specs.Prelude.{◌≡◌, ◌≤◌, ℕ, List, [], ◌∷◌, refl}
use Rattle.std.proofs.Common.{arith}
use Rattle.termwiz_cell.specs.WidthLaws.{unicode_columns-le, unicode_columns-space}
use Rattle.playing.specs.Measured.{columns_of_measure}
use Rattle.playing.specs.declared.surfaces.measure.Measure.{Measure}
use Rattle.playing.specs.declared.surfaces.measure.Measure.TheVariants.{Unicode, One, Wide}

pub measured-le : (measure : Measure) (text : List ℕ) → columns_of_measure measure text ≤ 2
unfolding columns_of_measure
measured-le Unicode text = unicode_columns-le text
measured-le One text = Prim.grind arith
measured-le Wide text = Prim.grind arith

pub measured-space : (measure : Measure) → columns_of_measure measure (32 ∷ []) ≡ 1
unfolding columns_of_measure
measured-space Unicode = unicode_columns-space
measured-space One = refl
measured-space Wide = refl
