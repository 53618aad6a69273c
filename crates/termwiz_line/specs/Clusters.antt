-- Shaper clusters: the visible cells are cut where their look changes, and each piece into words
-- and spaces.
use Rattle.std.specs.Prelude.{◌≡◌, ◌≢◌, ℕ, ◌+◌, List, [], ◌∷◌, ◌++◌, map, sum_by, length, replicate, Option, unwrap_or, false}
use Rattle.termwiz_storage.specs.VisibleCell.{VisibleCell}
use Rattle.std.specs.List.{All, flat_map}
use Rattle.termwiz_cell.specs.Attributes.{Attributes, default_attributes}
use Rattle.termwiz_cell.specs.CellValue.{columns}
use Rattle.termwiz_cell.specs.declared.emoji.Presentation.{Presentation}
use Rattle.termwiz_cell.specs.declared.emoji.Presentation.TheVariants.{Text}
use Rattle.termwiz_line.specs.declared.line.bidi.Direction.{Direction}
use Rattle.termwiz_line.specs.declared.line.bidi.Direction.TheVariants.{LeftToRight}
use Rattle.termwiz_line.specs.Pieces.{IsCut, AreEqualBy}
use Rattle.termwiz_line.specs.Texts.{texts_of}
use Rattle.termwiz_line.specs.Wraps.{IsSpace, columns_taken}
use Rattle.termwiz_line.specs.Zones.{first_index}

-- the attributes without the mark of a line that goes on
abbrev pub unmarked_attributes : Attributes → Attributes
unmarked_attributes a = record a { wrapped = false }

-- the variation, where there is one, and else the presentation without it
abbrev pub shown_as : Presentation × Option Presentation → Presentation
shown_as p = unwrap_or p.1 p.0

-- what is one for all cells of a cluster: the attributes without the mark, and the presentation
abbrev pub look_of :
    (List ℕ → Presentation × Option Presentation) → VisibleCell → Attributes × Presentation
look_of shown c = (unmarked_attributes c.cell.attrs, shown_as (shown c.cell.text))

abbrev pub IsNoSpace : VisibleCell → Type 0
IsNoSpace c = IsSpace c → ⊥

-- spaces alone, or one or more other cells and at most one space
pub data IsWordOrSpaces : List VisibleCell → Type 0 where
  spaces : {p : List VisibleCell} → All IsSpace p → IsWordOrSpaces p
  word : {p : List VisibleCell} → p ≢ [] → All IsNoSpace p → IsWordOrSpaces p
  word_and_space :
      (p : List VisibleCell) (s : VisibleCell) → p ≢ [] → All IsNoSpace p → IsSpace s →
      IsWordOrSpaces (p ++ s ∷ [])

-- a cluster, as contracts see it; each byte of the text has the column and the width of a cell
pub record ClusterValue : Type 0 where
  pub attrs : Attributes
  pub presentation : Presentation
  pub direction : Direction
  pub text : List ℕ
  pub width : ℕ
  pub first_cell_idx : ℕ
  pub cells_of_bytes : List (ℕ × ℕ)

-- the column and the width of a cell, once for each byte of its text
abbrev pub cell_of_bytes : VisibleCell → List (ℕ × ℕ)
cell_of_bytes c = replicate (length c.cell.text) (c.column, columns c.cell)

-- the column and the width of each byte's cell
abbrev pub cells_of_bytes : List VisibleCell → List (ℕ × ℕ)
cells_of_bytes cells = flat_map cell_of_bytes cells

abbrev pub look_of_first :
    (List ℕ → Presentation × Option Presentation) → List VisibleCell → Attributes × Presentation
look_of_first shown [] = (default_attributes, Text)
look_of_first shown (c ∷ cs) = look_of shown c

abbrev pub cluster_of :
    (List ℕ → Presentation × Option Presentation) → List VisibleCell → ClusterValue
cluster_of shown p = record {
  attrs = (look_of_first shown p).0;
  presentation = (look_of_first shown p).1;
  direction = LeftToRight;
  text = texts_of p;
  width = columns_taken p;
  first_cell_idx = first_index p;
  cells_of_bytes = cells_of_bytes p;
}

-- the cluster with one more cell
abbrev pub with_cell : ClusterValue → VisibleCell → ClusterValue
with_cell k c =
    record k {
      text = k.text ++ c.cell.text;
      width = k.width + columns c.cell;
      cells_of_bytes = k.cells_of_bytes ++ cell_of_bytes c;
    }

-- each run is cut into longest parts, and these are the parts of all
pub data AreCutInto {A : Type 0} (IsPiece : List A → Type 0) :
    List (List A) → List (List A) → Type 0 where
  no_run : AreCutInto IsPiece [] []
  next_run :
      {run : List A} {runs parts others : List (List A)} → IsCut IsPiece run parts →
      AreCutInto IsPiece runs others → AreCutInto IsPiece (run ∷ runs) (parts ++ others)

-- visible cells are cut into longest runs of one look, each run into longest parts, and each part
-- is a cluster
pub record AreClusters (shown : List ℕ → Presentation × Option Presentation)
    (cells : List VisibleCell) (clusters : List ClusterValue) : Type 0 where
  pub runs : List (List VisibleCell)
  pub parts : List (List VisibleCell)
  pub runs_are : IsCut (AreEqualBy (look_of shown)) cells runs
  pub parts_are : AreCutInto IsWordOrSpaces runs parts
  pub clusters_are : clusters ≡ map (cluster_of shown) parts

-- the clusters, one after another, have the texts of these visible cells, as many columns, and
-- bytes of the same cells
pub record JoinTo (cells : List VisibleCell) (clusters : List ClusterValue) : Type 0 where
  pub texts : flat_map (λ k. k.text) clusters ≡ texts_of cells
  pub widths : sum_by (λ k. k.width) clusters ≡ columns_taken cells
  pub bytes : flat_map (λ k. k.cells_of_bytes) clusters ≡ cells_of_bytes cells
