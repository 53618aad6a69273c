-- How many lines a scrollback has.
use Rattle.std.proofs.Common.{◌≡◌, ℕ, ◌+◌, List, length, map, arith, ap, ◌∙◌, append-nil, length-append}
use Rattle.std.specs.Prelude.{Result, Ok, Err, OnOk}
use Rattle.std.proofs.lemmas.List.{length-map}
use Rattle.termwiz_surface.specs.{AddsScrolledOff, LineValue, ShownRow, line_shown}
use Rattle.termwiz_surface.specs.declared.surface.SurfaceError.{SurfaceError}

-- as many more as rows that scrolled off
pub counted : (w : ℕ) (rows : List ShownRow) (old new : List LineValue) (result : Result ℕ SurfaceError) → AddsScrolledOff w rows result old new → OnOk result (length new ≡ length old + length rows)
counted w rows old new (Ok n) s =
    let lines : length rows ≡ length s.lines = ap length (s.rows_are ∙ append-nil (map (line_shown w) s.lines)) ∙ length-map s.lines (line_shown w) in
    omega (arith, ap length s.behind, length-append old s.lines, lines)
counted w rows old new (Err e) s = tt
