-- Rows that listed changes scroll off, where none is made.
use Rattle.std.proofs.Common.{◌≡◌, ◌⊎◌, inl, inr, ℕ, List, [], append-nil, refl, sym, subst}
use Rattle.std.specs.Prelude.{Ok, Err}
use Rattle.termwiz_line.specs.LineValue.{LineValue}
use Rattle.termwiz_surface.specs.ScrolledOff.{BeginsRows, ShownRow}
use Rattle.termwiz_surface.specs.Surface.{SurfaceValue}
use Rattle.tikeburo_c.specs.Lists.{listed_in}
use Rattle.tikeburo_c.specs.Scrolling.{AddsListedRows, rows_off}
use Rattle.tikeburo_c.specs.declared.failure.Failure.{Failure}
use Rattle.tikeburo_c.specs.declared.failure.Failure.TheVariants.{Memory}
use Rattle.tikeburo_c.specs.declared.lists.ChangeFields.{ChangeFields}
use Rattle.tikeburo_c.specs.declared.widths.ChosenWidths.{ChosenWidths}

begins_none : (width : ℕ) (rows : List ShownRow) (old : List LineValue) → BeginsRows width rows old old
begins_none width rows old = (rows, record { lines = []; behind = sym (append-nil old); rows_are = refl })

-- the list has a fault, or memory was refused
pub none_listed : (fs : List ChangeFields) (texts : List ℕ) (s : SurfaceValue ChosenWidths) (old : List LineValue) (failure : Failure) → (failure ≡ Memory) ⊎ (listed_in fs texts ≡ Err failure) → AddsListedRows fs texts s old (Err failure) old
none_listed fs texts s old failure (inr e) = rw e refl
none_listed fs texts s old failure (inl e) = subst (λ (f : Failure). AddsListedRows fs texts s old (Err f) old) (sym e)
    (elim (listed_in fs texts) as (λ r. listed_in fs texts ≡ r → AddsListedRows fs texts s old (Err Memory) old) [
      | Ok changes ↦ λ is. rw is (begins_none s.width (rows_off s changes) old)
      | Err f ↦ λ is. rw is refl
    ] refl)
