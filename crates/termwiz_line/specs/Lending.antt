-- Lending what a line has: its cells, for writing, and its zones.
use Rattle.std.specs.Prelude.{◌≡◌, ⊤, List, Result, true}
use Rattle.std.specs.Borrow.{LendsIfOk, MutBor, Fml, follows_so}
use mathlib.Core.Option as maybe
use Rattle.std.specs.declared.alloc.AllocError.{AllocError}
use Rattle.termwiz_cell.specs.CellValue.{CellValue}
use Rattle.termwiz_storage.specs.contracts.line.vecstorage.VecStorage as vec_storage
use Rattle.termwiz_line.specs.contracts.line.line.Line as line
use Rattle.termwiz_line.specs.LineValue.{LineValue}

-- the line ends as a vector with what was last written, and with its number and its flags
abbrev pub LendsLine : MutBor LineValue → Result (MutBor (List CellValue)) AllocError → Fml
LendsLine s r =
    LendsIfOk line.the_row vec_storage.the_row s r
    (λ w. record s.now { cells = w; is_vector = true }) s.now

-- the line ends as it was, once what was lent from it is given back
abbrev pub KeepsLine : MutBor LineValue → Fml
KeepsLine s =
    follows_so line.the_row line.the_row s.ghost_name maybe.none (λ _ _. ⊤) (λ n. n ≡ s.now)
