-- What a line is cut into doesn't depend on the form that stores its cells.
use Rattle.std.specs.Prelude.{◌≡◌, ℕ, ◌+◌, ◌<◌, List, ◌∷◌, ◌++◌, Option, slice_index_or, length, map}
use Rattle.termwiz_storage.specs.VisibleCell.{VisibleCell}
use Rattle.termwiz_cell.specs.CellValue.{columns}
use Rattle.termwiz_cell.specs.declared.emoji.Presentation.{Presentation}
use Rattle.termwiz_line.specs.Clusters.{AreClusters, ClusterValue, JoinTo, cells_of_bytes}
use Rattle.termwiz_line.specs.Texts.{texts_of}
use Rattle.termwiz_line.specs.declared.line.line.zones.ZoneRange.{ZoneRange}
use Rattle.termwiz_line.specs.LineEq.{line_contents}
use Rattle.termwiz_line.specs.LineValue.{LineValue}
use Rattle.termwiz_line.specs.Wraps.{IsWrapped}
use Rattle.termwiz_line.specs.Zones.{AreZones}

-- visible cells have one list of zones
abbrev pub ZonesAreOne : Type 0
ZonesAreOne =
    (cells : List VisibleCell) (a b : List ZoneRange) → AreZones cells a → AreZones cells b → a ≡ b

-- a line is wrapped in one way
abbrev pub WrapsAreOne : Type 0
WrapsAreOne =
    (width seqno : ℕ) (line : LineValue) (a b : List LineValue) → IsWrapped width seqno line a →
    IsWrapped width seqno line b → a ≡ b

-- lines of the same cells, number and flags are wrapped into lines of the same
abbrev pub WrapsAreAlike : Type 0
WrapsAreAlike =
    (width seqno : ℕ) (one other : LineValue) (a b : List LineValue) →
    line_contents one ≡ line_contents other → IsWrapped width seqno one a →
    IsWrapped width seqno other b → map line_contents a ≡ map line_contents b

-- visible cells have one list of clusters
abbrev pub ClustersAreOne : Type 0
ClustersAreOne =
    (shown : List ℕ → Presentation × Option Presentation) (cells : List VisibleCell)
    (a b : List ClusterValue) →
    AreClusters shown cells a → AreClusters shown cells b → a ≡ b

-- the clusters of visible cells join to them
abbrev pub ClustersJoin : Type 0
ClustersJoin =
    (shown : List ℕ → Presentation × Option Presentation) (cells : List VisibleCell)
    (clusters : List ClusterValue) →
    AreClusters shown cells clusters → JoinTo cells clusters

-- each byte of a cell's text leads to the column and the width of that cell
abbrev pub BytesTellTheirCells : Type 0
BytesTellTheirCells =
    (before : List VisibleCell) (c : VisibleCell) (after : List VisibleCell) (k : ℕ) →
    k < length c.cell.text →
    slice_index_or (cells_of_bytes (before ++ c ∷ after)) (length (texts_of before) + k) (0, 0) ≡
    (c.column, columns c.cell)
