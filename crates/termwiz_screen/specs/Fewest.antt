-- Lists of prints, and screens, of narrow cells; and how few prints lead from one screen to
-- another.
use Rattle.std.specs.Prelude.{◌≡◌, ℕ, ◌*◌, ◌<◌, ◌≤◌, false, List, [], ◌∷◌, length}
use Rattle.termwiz_cell.specs.CellValue.{CellValue, is_wide}
use Rattle.termwiz_storage.specs.Stored.{stored}
use Rattle.termwiz_screen.specs.Screen.{row_at}
use Rattle.termwiz_screen.specs.Prints.{Print, print_all}
use Rattle.termwiz_screen.specs.Diff.{need, whole}
use Rattle.termwiz_screen.specs.DiffRegions.{AreRows}

abbrev pub IsNarrow : List CellValue → Type 0
IsNarrow r = (k : ℕ) → is_wide (stored r k) ≡ false

abbrev pub AreNarrowRows : List (List CellValue) → Type 0
AreNarrowRows rows = (i : ℕ) → IsNarrow (row_at rows i)

abbrev pub PrintsWithin : ℕ → ℕ → List Print → Type 0
PrintsWithin w h [] = Unit {0}
PrintsWithin w h (p ∷ ps) = (p.row < h) × (p.column < w) × PrintsWithin w h ps

abbrev pub NarrowPrints : List Print → Type 0
NarrowPrints [] = Unit {0}
NarrowPrints (p ∷ ps) = (is_wide p.cell ≡ false) × NarrowPrints ps

-- no prints that lead from a to b are fewer than a third of what is needed, and where nothing is
-- wide none are fewer than all of it
abbrev pub FewestPrints : Type 0
FewestPrints =
    (w h : ℕ) (a b : List (List CellValue)) (ps : List Print) → AreRows w h a →
    PrintsWithin w h ps → print_all a ps ≡ b → length (need a b (whole w h)) ≤ 3 * length ps

abbrev pub FewestNarrowPrints : Type 0
FewestNarrowPrints =
    (w h : ℕ) (a b : List (List CellValue)) (ps : List Print) → AreRows w h a →
    PrintsWithin w h ps → AreNarrowRows a → NarrowPrints ps → print_all a ps ≡ b →
    length (need a b (whole w h)) ≤ length ps
