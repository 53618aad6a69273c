-- What is stored again with its halves shows what it showed.
use Rattle.std.specs.Prelude.{◌≡◌, List, length}
use Rattle.termwiz_cell.specs.CellValue.{CellValue}
use Rattle.termwiz_storage.specs.Edits.{columns_between, with_halves}
use Rattle.termwiz_storage.specs.Stored.{visible}

-- visible cells that are stored again show the same, at the same columns
abbrev pub StoredAgainShows : Type 0
StoredAgainShows = (cs : List CellValue) → visible (with_halves (visible cs)) ≡ visible cs

-- visible cells that are taken out by all columns show what they showed
abbrev pub AllColumnsShow : Type 0
AllColumnsShow = (cs : List CellValue) → visible (columns_between 0 (length cs) cs) ≡ visible cs
