-- What adding a list of changes makes of the lines that keep what scrolls off.
use Rattle.std.proofs.Common.{◌≡◌, ℕ, List, subst, sym}
use Rattle.std.specs.Prelude.{Result, Ok, Err}
use Rattle.termwiz_line.specs.LineValue.{LineValue}
use Rattle.termwiz_surface.specs.ScrolledOff.{AddsScrolledOff, ShownRow}
use Rattle.termwiz_surface.specs.declared.surface.SurfaceError.{SurfaceError}
use Rattle.termwiz_surface.specs.declared.surface.SurfaceError.TheVariants.{ScrollRegion, Numbers, Memory}
use Rattle.tikeburo_c.specs.Outcomes.{Outcome, changing_failure, outcome_of}
use Rattle.tikeburo_c.specs.Scrolling.{AddsRows}

pub adds_rows : (width : ℕ) (rows : List ShownRow) (old new : List LineValue) (added : Result ℕ SurfaceError) (outcome : Outcome) → outcome ≡ outcome_of changing_failure added → AddsScrolledOff width rows added old new → AddsRows width rows old outcome new
adds_rows width rows old new (Ok n) outcome is off = subst (λ (o : Outcome). AddsRows width rows old o new) (sym is) off
adds_rows width rows old new (Err ScrollRegion) outcome is off = subst (λ (o : Outcome). AddsRows width rows old o new) (sym is) off
adds_rows width rows old new (Err Numbers) outcome is off = subst (λ (o : Outcome). AddsRows width rows old o new) (sym is) off
adds_rows width rows old new (Err Memory) outcome is off = subst (λ (o : Outcome). AddsRows width rows old o new) (sym is) off
