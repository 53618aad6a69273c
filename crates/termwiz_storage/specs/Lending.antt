-- Lending what is stored, for writing.
use Rattle.std.specs.Prelude.{List, ◌++◌, length, take, drop, Result}
use Rattle.std.specs.Borrow.{Lends, LendsIfOk, MutBor, Fml, Array}
use Rattle.std.specs.declared.alloc.AllocError.{AllocError}
use Rattle.termwiz_cell.specs.CellValue.{CellValue}
use Rattle.termwiz_cell.specs.contracts.cell.Cell as cell
use Rattle.termwiz_storage.specs.declared.line.storage.CellStorage.{CellStorage}
use Rattle.termwiz_storage.specs.declared.line.storage.CellStorage.TheVariants.{V}
use Rattle.termwiz_storage.specs.contracts.line.storage.CellStorage as cell_storage
use Rattle.termwiz_storage.specs.contracts.line.vecstorage.VecStorage as vec_storage

-- a list that was lent as a slice, once w was written: w itself, where it is as long
abbrev pub written : List CellValue → List CellValue → List CellValue
written old w = take (length old) (w ++ drop (length w) old)

-- the list ends with what was last written to the slice
abbrev pub LendsCells : MutBor (List CellValue) → MutBor (List CellValue) → Fml
LendsCells s r = Lends vec_storage.the_row (Array cell.the_row 0) s r (written s.now)

-- the storage ends as a vector with what was last written, and as it was at an error
abbrev pub LendsVector : MutBor CellStorage → Result (MutBor (List CellValue)) AllocError → Fml
LendsVector s r = LendsIfOk cell_storage.the_row vec_storage.the_row s r (λ w. V w) s.now
