use Rattle.std.proofs.lemmas.Bool.Decides.{same_from_decides}
use Rattle.termwiz_storage.specs.CellLists.{cells_eq-Decides}
use Rattle.termwiz_storage.specs.Storage.{cells_in, same_cells}
use Rattle.termwiz_storage.proofs.line.storage.CellStoragePartialEq.eq.Goals as goal

pub returns-clause-value : goal.returns-clause-value
returns-clause-value c = same_from_decides c.has_same_cells.result (same_cells c.args.self.now c.args.other.now) c.has_same_cells.ensures (cells_eq-Decides (cells_in c.args.self.now) (cells_in c.args.other.now))
