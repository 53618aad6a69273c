-- What a cell lends.
use Rattle.std.specs.Borrow.{Lends, MutBor, Fml}
use Rattle.termwiz_cell.specs.Attributes.{Attributes}
use Rattle.termwiz_cell.specs.contracts.cell.attributes.CellAttributes as attributes
use Rattle.termwiz_cell.specs.CellValue.{CellValue}
use Rattle.termwiz_cell.specs.contracts.cell.Cell as cell

-- the cell ends with the attributes that r last points to
abbrev pub LendsAttrs : MutBor CellValue → MutBor Attributes → Fml
LendsAttrs c r = Lends cell.the_row attributes.the_row c r (λ a. record c.now { attrs = a })
