-- Zones: the visible cells are cut where their semantic type changes.
use Rattle.std.specs.Prelude.{◌≡◌, ◌≢◌, ℕ, List, [], ◌∷◌, map}
use Rattle.termwiz_cell.specs.CellValue.{CellValue, blank}
use Rattle.termwiz_cell.specs.declared.cell.style.SemanticType.{SemanticType}
use Rattle.termwiz_cell.specs.declared.cell.style.SemanticType.TheVariants.{Output}
use Rattle.termwiz_storage.specs.Stored.{visible}
use Rattle.termwiz_storage.specs.Wrapped.{last_index}
use Rattle.termwiz_storage.specs.VisibleCell.{VisibleCell}
use Rattle.termwiz_line.specs.declared.line.line.zones.ZoneRange.{ZoneRange}
use Rattle.termwiz_line.specs.Pieces.{IsCut, AreEqualBy}
use Rattle.termwiz_line.specs.Trim.{IsTrimmed}

abbrev pub semantic : VisibleCell → SemanticType
semantic c = c.cell.attrs.semantic_type

abbrev pub first_index : List VisibleCell → ℕ
first_index [] = 0
first_index (c ∷ cs) = c.column

abbrev pub semantic_of : List VisibleCell → SemanticType
semantic_of [] = Output
semantic_of (c ∷ cs) = semantic c

-- from the index of a piece's first cell to that of its last
abbrev pub zone_of : List VisibleCell → ZoneRange
zone_of p =
    record {
      semantic_type = semantic_of p;
      range = record { start = first_index p; end = last_index p };
    }

-- the zones of the longest pieces of one semantic type
pub record AreZonesOf (cells : List VisibleCell) (zones : List ZoneRange) : Type 0 where
  pub pieces : List (List VisibleCell)
  pub cut : IsCut (AreEqualBy semantic) cells pieces
  pub zones_are : zones ≡ map zone_of pieces

abbrev pub IsBlank : VisibleCell → Type 0
IsBlank c = c.cell ≡ blank

-- the zones of visible cells: of those up to the last that isn't a default blank, or of all where
-- all are
pub record AreZones (cells : List VisibleCell) (zones : List ZoneRange) : Type 0 where
  pub kept : List VisibleCell
  pub trimmed : IsTrimmed IsBlank cells kept
  pub of_kept : kept ≢ [] → AreZonesOf kept zones
  pub of_all : kept ≡ [] → AreZonesOf cells zones

-- zones that are kept are those of the stored cells, and no zones say nothing
abbrev pub AreUpToDate : List ZoneRange → List CellValue → Type 0
AreUpToDate [] cells = Unit {0}
AreUpToDate (z ∷ zs) cells = AreZones (visible cells) (z ∷ zs)
