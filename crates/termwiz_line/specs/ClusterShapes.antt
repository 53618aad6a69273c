-- What a cluster holds so far, and which cells it takes.
use Rattle.std.specs.Prelude.{Bool, true, false, Option, Some, None}
use Rattle.termwiz_line.specs.declared.cellcluster.shape.Shape.{Shape}
use Rattle.termwiz_line.specs.declared.cellcluster.shape.Shape.TheVariants.{Spaces, Word, WordAndSpace}

-- the shape of one cell
abbrev pub shape_of_one : Bool → Shape
shape_of_one true = Spaces
shape_of_one false = Word

-- the shape with one more cell, where it looks alike and may be added
abbrev pub grown : Shape → Bool → Bool → Option Shape
grown Spaces true true = Some Spaces
grown Word true false = Some Word
grown Word true true = Some WordAndSpace
grown Spaces true false = None
grown WordAndSpace true b = None
grown s false b = None
