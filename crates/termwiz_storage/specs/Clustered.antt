-- A list of cells as one text, with the shape and the attributes of each visible cell.
use Rattle.std.specs.Prelude.{◌≡◌, ℕ, suc, ◌+◌, ◌^◌, ◌<◌, true, false, List, [], ◌∷◌, ◌++◌, length, slice_index_or, take, drop, nat_lt, if◌then◌else◌}
use Rattle.std.specs.Str.{IsCharBoundary}
use Rattle.termwiz_cell.specs.Attributes.{Attributes}
use Rattle.termwiz_cell.specs.CellValue.{CellValue, clean, columns, half}
use Rattle.termwiz_storage.specs.declared.line.clusterline.runs.Shape.{Shape}
use Rattle.termwiz_storage.specs.CellTexts.{texts_of}
use Rattle.termwiz_storage.specs.Edits.{with_half}
use Rattle.termwiz_storage.specs.Stored.{hides, stored, visible}
use Rattle.termwiz_storage.specs.VisibleCell.{VisibleCell, at_column}

-- each hidden cell is a blank with the attributes of the cell that hides it, and no visible wide
-- cell lacks its half
pub record IsWhole (cs : List CellValue) : Type 0 where
  pub halves :
      (k : ℕ) → suc k < length cs → hides cs (suc k) ≡ true → stored cs (suc k) ≡ half (stored cs k)
  pub complete : hides cs (length cs) ≡ false

-- each cell takes one column, and one byte
pub record HasByteCells (cs : List CellValue) : Type 0 where
  pub columns : length (visible cs) ≡ length cs
  pub bytes : length (texts_of (visible cs)) ≡ length cs

-- how many bytes a character has, by its first one
abbrev pub char_len : ℕ → ℕ
char_len b = if nat_lt b 128 then 1 else if nat_lt b 224 then 2 else if nat_lt b 240 then 3 else 4

-- how many bytes of a text its first cell takes
abbrev pub cell_len : Shape → List ℕ → ℕ
cell_len s t = if s.one_char then char_len (slice_index_or t 0 0) else s.bytes

-- the cell of this shape and these attributes with which a text begins
abbrev pub first_cell : List ℕ → Shape → Attributes → CellValue
first_cell t s a = record { text = take (cell_len s t) t; wide = s.wide; attrs = a }

-- the cells of a text, of these shapes and attributes, each wide one with its half
abbrev pub cells_from : List ℕ → List Shape → List Attributes → List CellValue
cells_from t [] ps = []
cells_from t (s ∷ ss) [] = []
cells_from t (s ∷ ss) (a ∷ ps) =
    with_half (first_cell t s a) ++ cells_from (drop (cell_len s t) t) ss ps

-- the cells without the halves, each at its column, the first at column i
abbrev pub shown_cells : ℕ → List ℕ → List Shape → List Attributes → List VisibleCell
shown_cells i t [] ps = []
shown_cells i t (s ∷ ss) [] = []
shown_cells i t (s ∷ ss) (a ∷ ps) =
    at_column i (first_cell t s a) ∷
    shown_cells (i + columns (first_cell t s a)) (drop (cell_len s t) t) ss ps

-- the first n bytes of a text are whole characters, and a text that cells have
pub record IsCellText (t : List ℕ) (n : ℕ) : Type 0 where
  pub boundary : IsCharBoundary t n
  pub clean : clean (take n t) ≡ take n t

-- the shapes cut the whole text into texts of cells
abbrev pub AreCuts : List ℕ → List Shape → Type 0
AreCuts t [] = t ≡ []
AreCuts t (s ∷ ss) = IsCellText t (cell_len s t) × AreCuts (drop (cell_len s t) t) ss

-- a text, with the shapes and the attributes of cells that take n columns, fewer than 2^64
pub record IsClusteredText (t : List ℕ) (ss : List Shape) (ps : List Attributes) (n : ℕ) :
    Type 0 where
  pub cuts : AreCuts t ss
  pub aligned : length ss ≡ length ps
  pub len : n ≡ length (cells_from t ss ps)
  pub fits : n < 2 ^ 64

-- a walk that is at column i, and has these cells left
pub record IsStepping (t : List ℕ) (ss : List Shape) (ps : List Attributes) (i : ℕ) : Type 0 where
  pub cuts : AreCuts t ss
  pub aligned : length ss ≡ length ps
  pub fits : i + length (cells_from t ss ps) < 2 ^ 64
