-- Runs of cells that are alike, written out: one value for each cell.
use Rattle.std.specs.Prelude.{◌≡◌, ℕ, Bool, List, [], ◌∷◌, ◌++◌, Option, Some, None, replicate}
use Rattle.std.specs.Borrow.{Bor}
use Rattle.std.specs.List.{flat_map}
use Rattle.termwiz_cell.specs.Attributes.{Attributes}
use Rattle.termwiz_storage.specs.declared.line.clusterline.runs.Shape.{Shape}
use Rattle.termwiz_storage.specs.declared.line.clusterline.runs.ShapeRun.{ShapeRun}
use Rattle.termwiz_storage.specs.declared.line.clusterline.runs.AttrsRun.{AttrsRun}

-- the shape of the cells of a run
abbrev pub shape_in : ShapeRun → Shape
shape_in r = record { bytes = r.bytes; one_char = r.one_char; wide = r.wide }

abbrev pub shapes_of : List ShapeRun → List Shape
shapes_of rs = flat_map (λ r. replicate r.cells (shape_in r)) rs

abbrev pub attrs_of : List AttrsRun → List Attributes
attrs_of rs = flat_map (λ r. replicate r.cells r.attrs) rs

-- runs that have n more cells, with these attributes
abbrev pub AddsAttrs : List AttrsRun → ℕ → Attributes → List AttrsRun → Type 0
AddsAttrs old n a new = attrs_of new ≡ attrs_of old ++ replicate n a

-- runs of as many cells with the same attributes
abbrev pub same_run : AttrsRun → AttrsRun → Type 0
same_run a b = (b.attrs ≡ a.attrs) × (b.cells ≡ a.cells)

-- the attributes of n cells of a run, where there is one
abbrev pub same_attrs : ℕ → Option (Bor Attributes) → List Attributes
same_attrs n None = []
same_attrs n (Some a) = replicate n a.now

-- attributes that are marked as wrapped, or not
abbrev pub marked : Bool → Attributes → Attributes
marked b a = record a { wrapped = b }

-- the last of a list is changed
abbrev pub map_last : {X : Type 0} → (X → X) → List X → List X
map_last f [] = []
map_last f (x ∷ []) = f x ∷ []
map_last f (x ∷ y ∷ xs) = x ∷ map_last f (y ∷ xs)
